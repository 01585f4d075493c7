use Rattle.std.proofs.Common.{◌≡◌, ◌∙◌, [], ◌∷◌, IsTrue, rules, sym}
use Rattle.std.specs.Prelude.{◌↔◌}
use Rattle.std.proofs.lemmas.List.{append_cancel_right}
use Rattle.injector.proofs.ShortForms.{suffix-is}
use Rattle.audit.proofs.printed.is_ended_line.Goals as goal

-- what is before the line feed is the line or is not
pub returns-in-Some : goal.returns-in-Some
returns-in-Some c front is =
    let own = suffix-is c.args.text.now (10 ∷ []) c.in-Some.front.now c.in-Some.ensures.cases.0 c.in-Some.ensures.cases.1 in
    let same : front ≡ c.in-Some.front.now = append_cancel_right front c.in-Some.front.now (10 ∷ []) (sym is ∙ own) in
    let both : IsTrue c.eq.result ↔ (c.in-Some.front.now ≡ c.args.line.now) = search rules in
    (λ t. same ∙ both.0 t, λ e. both.1 (sym same ∙ e))

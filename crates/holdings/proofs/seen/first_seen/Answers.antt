use Rattle.std.proofs.Common.{◌≡◌, ◌∙◌, rules, ap, sym, subst, true, false}
use Rattle.std.specs.Option.{is_some, option_and_then}
use Rattle.std.specs.Map.Iter.{deref_pair}
use Rattle.std.proofs.lemmas.Map.Iter.{rest_more}
use Rattle.run_history.specs.Runs.{cached, row_in}
use Rattle.holdings.specs.Purges.{forgets}
use Rattle.holdings.specs.Seens.{AreSeenLeft}
use Rattle.holdings.proofs.SeenLaws.{seen_left-all, seen_left-first, seen_left-one}
use Rattle.holdings.proofs.seen.first_seen.Goals as goal

-- all names are left
pub loop-name-init : goal.loop-name-init
loop-name-init c =
    let from : c.into_iter-name-iterator.result ≡ c.args.names.now.entries = search rules in
    subst (AreSeenLeft c.args.floor c.args.least c.args.rows.now) (sym from)
    (seen_left-all c.args.floor c.args.least c.args.rows.now c.args.names.now.entries c.requires)

-- the first that may forget ids
pub returns-then-may_forget : goal.returns-then-may_forget
returns-then-may_forget c =
    let step = rest_more deref_pair _ _ _ _ c.in-Some.is c.next.ensures.steps in
    let may : is_some (option_and_then (forgets c.args.floor c.args.least) (row_in (cached c.args.rows.now) c.in-Some.name.now)) ≡ true =
    ap (λ o. is_some (option_and_then (forgets c.args.floor c.args.least) o)) (sym c.get.ensures) ∙ sym c.may_forget.ensures ∙ c.if-may_forget.true in
    seen_left-first c.args.floor c.args.least c.args.rows.now (c.in-Some.name.now, c.in-Some.field-0-1.now) c.next.new.self
    (subst (AreSeenLeft c.args.floor c.args.least c.args.rows.now) step c.loop-name.invariant) may

-- one that may not forget ids is past
pub loop-name-preserved : goal.loop-name-preserved
loop-name-preserved c =
    let step = rest_more deref_pair _ _ _ _ c.in-Some.is c.next.ensures.steps in
    let may : is_some (option_and_then (forgets c.args.floor c.args.least) (row_in (cached c.args.rows.now) c.in-Some.name.now)) ≡ false =
    ap (λ o. is_some (option_and_then (forgets c.args.floor c.args.least) o)) (sym c.get.ensures) ∙ sym c.may_forget.ensures ∙ c.if-may_forget.false in
    seen_left-one c.args.floor c.args.least c.args.rows.now (c.in-Some.name.now, c.in-Some.field-0-1.now) c.next.new.self
    (subst (AreSeenLeft c.args.floor c.args.least c.args.rows.now) step c.loop-name.invariant) may

use Rattle.std.specs.Prelude.{OnOk}
use Rattle.std.proofs.Common.{subst, sym, ◌≡◌, ◌∙◌, ap, ◌++◌, ◌∷◌, [], arith}
use Rattle.mw_types.specs.Bounds.{AreWindows}
use Rattle.computations.proofs.Fresh.{AreWindows-one}
use Rattle.worked_examples.specs.First.{window}
use Rattle.engine_tests.proofs.tests.books.example.one_open.Goals as goal

-- one window is open
pub returns-clause-within : goal.returns-clause-within
returns-clause-within g c =
    let appended = subst (λ r. OnOk r (c.push.new.self ≡ c.new-windows.result ++ window 60 1 ∷ [])) c.made.ensures c.push.ensures.appended in
    let pushed = appended ∙ ap (λ l. l ++ window 60 1 ∷ []) c.new-windows.ensures.empty in
    (omega arith, subst AreWindows (sym pushed) (AreWindows-one (window 60 1) (omega arith) (omega arith)))

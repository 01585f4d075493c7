use Rattle.std.proofs.Common.{◌≤◌, ◌∷◌, [], All, ap, arith, length, length-append, subst, sym}
use Rattle.std.proofs.lemmas.List.Elements.{All-append, All-from_recursion}
use Rattle.mw_types.specs.declared.entry.Entry.{Entry}
use Rattle.topology.specs.Samples.{one_count}
use Rattle.run_history.specs.Made.{productions_of}
use Rattle.run_history.specs.Printing.{IsOnPart}
use Rattle.engine_tests.proofs.tests.audits.pumped.history.Goals as goal

-- each entry more can be printed
pub loop-n-preserved : goal.loop-n-preserved
loop-n-preserved c =
    let before = c.loop-n.history in
    let entry : Entry = c.in_ok-entry.field-0 in
    let appended = c.in_ok-push.ensures.appended in
    let few : Entry → Type 0 = λ e. length (productions_of e) ≤ 8 in
    record {
      few = omega (arith, ap length appended, length-append before (entry ∷ []), c.loop-n.invariant.few);
      parts = subst (All (IsOnPart (one_count 60))) (sym appended) (All-append (IsOnPart (one_count 60)) before (entry ∷ [])
          c.loop-n.invariant.parts (All-from_recursion (IsOnPart (one_count 60)) (entry ∷ []) (c.in_ok-entry.ensures.part, tt)));
      productions = subst (All few) (sym appended) (All-append few before (entry ∷ []) c.loop-n.invariant.productions
          (All-from_recursion few (entry ∷ []) (c.in_ok-entry.ensures.few, tt)));
    }

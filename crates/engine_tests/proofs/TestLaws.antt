-- What the reports of the tests are sure of.
use Rattle.std.proofs.Common.{◌≡◌, ◌<◌, ℕ, zero, suc, List, [], ◌∷◌, drop, take, refl, sym, ◌∙◌, ap, subst, arith}
use Rattle.std.specs.Prelude.{Option, Some, None, IfSome, All, slice_get, ◌≢◌}
use Rattle.std.proofs.lemmas.List.Elements.{All-from_recursion}
use Rattle.mw_types.specs.declared.identity.RowName.{RowName}
use Rattle.mw_types.specs.declared.entry.Entry.{Entry}
use Rattle.mw_types.specs.declared.entry.Entry.TheVariants.{Claim}
use Rattle.key_intervals.specs.declared.bounds.Bounds.{Bounds}
use Rattle.topology.specs.Samples.{one_count}
use Rattle.row_keeper.specs.Rows.{Rows}
use Rattle.run_history.specs.Cases.{intervals_of}
use Rattle.run_history.specs.Runs.{run_of}
use Rattle.run_history.specs.Fences.{interval_of, known, sequencer_of}
use Rattle.run_history.specs.Marks.{own_work}
use Rattle.worked_examples.specs.First.{row_a}
use Rattle.book.specs.Books.{BookView, LeaseView}
use Rattle.book.specs.Conditions.{IsOwnWorkAt, MayUseAt}
use Rattle.worked_examples.specs.Rising.{own_after, rise_history, whole_part}
use Rattle.engine_tests.specs.TestBooks.{HasRisen, IsOvertaken, first_lease, later_lease}

-- what holds anyway holds where the keeper tells
told : {X : Type 0} (o : Option Rows) → X → IfSome o (λ _. X)
told None x = tt
told (Some rows) x = x

-- a beginning of a beginning of the same length
take-again : (n : ℕ) (entries : List Entry) → take n (take n entries) ≡ take n entries
take-again zero entries = refl
take-again (suc n) [] = refl
take-again (suc n) (e ∷ es) = ap (λ (l : List Entry). e ∷ l) (take-again n es)

-- each interval of the topology has all keys of its part
bounds-whole : (interval : ℕ) (bounds : Bounds) → interval < 2 → slice_get (intervals_of (one_count 60)) interval ≡ Some bounds
    → bounds ≡ whole_part interval
bounds-whole zero bounds there at = cc
bounds-whole (suc zero) bounds there at = cc
bounds-whole (suc (suc n)) bounds there at = absurd (omega arith)

-- the own work of an interval is what is known of it under its first lease
pub own-of : (count interval own : ℕ) (book : BookView) (lease : LeaseView) → HasRisen count book → lease ≡ first_lease interval
    → interval < 2
    → own ≡ own_after count interval → IsOwnWorkAt book lease count own
own-of count interval own book lease risen is there same bounds at =
    let whole : bounds ≡ whole_part interval =
    bounds-whole interval bounds there (sym (λ i. slice_get (intervals_of (risen.case i).topology) (is i).interval) ∙ at) in
    let seen : take count book.history ≡ take count rise_history = ap (take count) risen.history ∙ take-again count rise_history in
    told book.rows (same ∙ sym (λ i. own_work (risen.case i) (run_of (risen.case i).topology (known (is i).interval (is i).seq (seen i)))
    (whole i)))

-- the second worker's lease may be used on the row of the key a
pub later-use : (book : BookView) (lease : LeaseView) (name : RowName) → IsOvertaken book → lease ≡ later_lease → name ≡ row_a
    → MayUseAt book lease 4 name
later-use book lease name over is named = record {
  seen_all = record {
    claimed = (1, (λ i. slice_get (take 4 (over.history i)) (is i).seq) ∙ (λ i. Some (Claim 1 (sym is i).interval)));
    own = subst (λ (h : List Entry). All (λ (e : Entry). sequencer_of e ≢ Some lease.seq) (drop 4 h)) (sym over.history)
        (All-from_recursion (λ (e : Entry). sequencer_of e ≢ Some lease.seq) [] tt);
  };
  covers = (λ i. interval_of (over.case i).topology (named i)) ∙ (λ i. Some (sym is i).interval);
}

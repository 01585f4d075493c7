-- A mark that is at most an interval's own work and at most a safe mark of each interval that feeds it is safe, and marks that
-- are safe for each interval of a part are at most its low watermark.
use Rattle.std.proofs.Common.{◌≡◌, ℕ, zero, suc, ◌<◌, ◌≤◌, ◌==◌, true, false, List, [], ◌∷◌, refl, subst, arith}
use Rattle.std.specs.Prelude.{max, Some, All, Contains, MatchBool, not, slice_get}
use Rattle.std.specs.List.{AllByRecursion}
use Rattle.std.specs.Cmp.{first_so, second_so}
use Rattle.std.proofs.lemmas.Bool.{eqb-true}
use Rattle.std.proofs.lemmas.List.Elements.{All-contains, All-from_recursion, recursion_from_All}
use Rattle.mw_types.specs.declared.TheConstants.{END}
use Rattle.mw_types.specs.declared.identity.RowName.{RowName}
use Rattle.mw_types.specs.declared.delivery.Delivery.{Delivery}
use Rattle.mw_types.specs.declared.entry.Entry.{Entry}
use Rattle.key_intervals.specs.declared.bounds.Bounds.{Bounds}
use Rattle.key_intervals.specs.Intervals.{covers}
use Rattle.key_intervals.proofs.Lookup.{of_part}
use Rattle.topology.specs.Shapes.{parts_of, feeds_of}
use Rattle.row_parts.specs.Contents.{same_id}
use Rattle.run_history.specs.Cases.{CaseShape, is_injector, intervals_of}
use Rattle.run_history.specs.Runs.{Run, run_of, row_of}
use Rattle.run_history.specs.Watermarks.{source_mark, low_watermark}
use Rattle.run_history.specs.Legal.{IsLegal}
use Rattle.history_laws.specs.Ids.{IsSentBy}
use Rattle.run_history.specs.Inputs.{IsRunnable}
use Rattle.run_history.specs.Marks.{own_work, work_above, IsSafe, IsUnderMarks}
use Rattle.list_lemmas.proofs.Lists.{each-weaker, each-both, find-each}
use Rattle.history_laws.proofs.PendingLaws.{AreSent, legal-sent}
use Rattle.history_laws.proofs.WorkLaws.{WaitsFrom, IsWorkFrom, FeedsFrom}
use Rattle.history_laws.proofs.LowLaws.{rows-in_order, LowFrom, from-low}
use Rattle.history_laws.proofs.OwnLaws.{PendsFrom, IsPartFrom}
use Rattle.history_laws.proofs.MarkLaws.{covered, intervals-part_from, IsAboveFrom, WorkFrom, above-from, feeds-above, own-from, from-safe, own-end, feeds-there}

-- what holds of each interval by its number holds of each
each-numbered : (P : Bounds → Type 0) (bs : List Bounds) → ((i : ℕ) (b : Bounds) → slice_get bs i ≡ Some b → P b) → AllByRecursion P bs
each-numbered P [] each = tt
each-numbered P (b ∷ bs) each = (each 0 b refl, each-numbered P bs (λ i c at. each (suc i) c at))

-- a mark that is at most a safe mark of each interval of a part is a bound of the work above the part
pub marks-above : (case : CaseShape) (run : Run) (x part : ℕ) → IsRunnable case → part < parts_of case.topology
    → IsUnderMarks case run part x → IsAboveFrom case run x part
marks-above case run x part runs there under = above
  where
    own : IsPartFrom case run x part
    own = intervals-part_from case run x part there
        (each-numbered (λ (b : Bounds). (b.part == part) ≡ true → x ≤ own_work case run b) (intervals_of case.topology)
        (λ i b at of. let mark = under i b at (eqb-true b.part part of) in let below = mark.1 in let safe = mark.2 in
        let work = safe.own in omega (arith, below, work)))

    inputs : AllByRecursion (IsAboveFrom case run x) (feeds_of case.topology part)
    inputs = covered (AllByRecursion (IsAboveFrom case run x) (feeds_of case.topology part)) case.topology
        (record { part = part; key = [] }) there
        (each-numbered (λ (b : Bounds). covers b (record { part = part; key = [] }) ≡ true
        → AllByRecursion (IsAboveFrom case run x) (feeds_of case.topology part)) (intervals_of case.topology)
        (λ i b at has.
        let of : b.part ≡ part = of_part b (record { part = part; key = [] }) has in
        let mark = under i b at of in
        let below = mark.1 in
        each-weaker (λ f. (f < parts_of case.topology) × (mark.0 ≤ work_above case run f)) (IsAboveFrom case run x)
        (λ f (both : (f < parts_of case.topology) × (mark.0 ≤ work_above case run f)).
        let safe = both.1 in above-from case run x f runs.topology both.0 (omega (arith, below, safe))) (feeds_of case.topology part)
        (each-both (λ f. f < parts_of case.topology) (λ f. mark.0 ≤ work_above case run f) (feeds_of case.topology part)
        (feeds-there case part runs.topology there)
        (subst (λ n. AllByRecursion (λ f. mark.0 ≤ work_above case run f) (feeds_of case.topology n)) of
        (recursion_from_All (λ f. mark.0 ≤ work_above case run f) (feeds_of case.topology b.part) mark.2.inputs)))))

    above : IsAboveFrom case run x part
    above zero = own
    above (suc depth) = (
      own,
      each-weaker (IsAboveFrom case run x) (WorkFrom case run x depth) (λ f from. from depth)
          (feeds_of case.topology part) inputs,
    )

-- the mark 0 is safe
pub IsSafe-zero : (case : CaseShape) (run : Run) (b : Bounds) → IsSafe case run b 0
IsSafe-zero case run b = record { own = omega arith; inputs = λ k d less. omega arith }

-- of two safe marks the greater is safe
pub IsSafe-greater : (case : CaseShape) (run : Run) (b : Bounds) (x y : ℕ) → IsSafe case run b x → IsSafe case run b y
    → IsSafe case run b (max x y)
IsSafe-greater case run b x y one other = record {
  own = let first = one.own in let second = other.own in omega (arith, first, second);
  inputs = λ k d less. let first = one.inputs k d less in let second = other.inputs k d less in omega (arith, first, second);
}

-- a reported mark is safe: it is at most the interval's own work, and at most a safe mark of each interval that feeds it
pub IsSafe-reported : (case : CaseShape) (history : List Entry) (i : ℕ) (b : Bounds) (x : ℕ) → IsRunnable case
    → slice_get (intervals_of case.topology) i ≡ Some b → x ≤ own_work case (run_of case.topology history) b
    → All (λ (feeding : ℕ). IsUnderMarks case (run_of case.topology history) feeding x) (feeds_of case.topology b.part)
    → IsSafe case (run_of case.topology history) b x
IsSafe-reported case history i b x runs at own under =
    from-safe case run b x (rows-in_order case.topology history) (let top = own-end case run b in omega (arith, own, top)) (record {
      own = own-from case run x b own;
      inputs = each-weaker (λ f. (f < parts_of case.topology) × IsUnderMarks case run f x) (IsAboveFrom case run x)
          (λ f (both : (f < parts_of case.topology) × IsUnderMarks case run f x). marks-above case run x f runs both.0 both.1)
          (feeds_of case.topology b.part)
          (each-both (λ f. f < parts_of case.topology) (λ f. IsUnderMarks case run f x) (feeds_of case.topology b.part)
          (feeds-there case b.part runs.topology (Rattle.history_laws.proofs.MarkLaws.interval-there case.topology i b at))
          (recursion_from_All (λ f. IsUnderMarks case run f x) (feeds_of case.topology b.part) under));
    })
  where
    run : Run
    run = run_of case.topology history

-- ---- under the low watermark

-- the work of a part that waits and its timers, by the work of the rows above it
above-work : (case : CaseShape) (run : Run) (x part : ℕ) → AreSent case.topology run → IsAboveFrom case run x part
    → IsWorkFrom case.topology run x part
above-work case run x part sent above = record {
  waiting = each-weaker (IsSentBy case.topology run) (WaitsFrom x part)
      (λ (d : Delivery) (by : IsSentBy case.topology run d) test.
      let of : d.to.part ≡ part = eqb-true d.to.part part (first_so (d.to.part == part) (not d.item.late) test) in
      let work : IsPartFrom case run x by.sender.part =
      All-contains (IsPartFrom case run x) (feeds_of case.topology part) by.sender.part
      (All-from_recursion (IsPartFrom case run x) (feeds_of case.topology part) (above 1).1)
      (subst (λ n. Contains (feeds_of case.topology n) by.sender.part) of by.feeds) in
      find-each (PendsFrom x) (λ (e : Delivery). same_id e.id d.id) (row_of case.topology run by.sender).pending d
      (work.rows by.sender refl).pending by.pending
      (second_so (d.to.part == part) (not d.item.late) test))
      run.unhandled sent.each;
  timers = λ name of. ((above 0).rows name of).timers;
}

-- what feeds a part states no earlier watermark, or is no older
above-feed : (case : CaseShape) (run : Run) (x : ℕ) (Work : ℕ → Type 0) (f : ℕ) → IsAboveFrom case run x f
    → (IsAboveFrom case run x f → Work f) → FeedsFrom case run x Work f
above-feed case run x Work f above work =
    elim (is_injector case.topology f) as (λ b. is_injector case.topology f ≡ b → MatchBool b (x ≤ source_mark case run f) (Work f)) [
      | true ↦ λ is. (above 0).mark is
      | false ↦ λ is. work above
    ] refl

-- a bound of the work above a part is one of its low watermark
pub above-low : (case : CaseShape) (run : Run) (x : ℕ) → AreSent case.topology run → (depth part : ℕ) → IsAboveFrom case run x part
    → LowFrom case run x depth part
above-low case run x sent zero part above = above-work case run x part sent above
above-low case run x sent (suc depth) part above = (
  above-work case run x part sent above,
  each-weaker (IsAboveFrom case run x) (FeedsFrom case run x (LowFrom case run x depth))
      (λ f from. above-feed case run x (LowFrom case run x depth) f from (λ again. above-low case run x sent depth f again))
      (feeds_of case.topology part) (feeds-above case run x part above),
)

-- a mark that is at most a safe mark of each interval of a part is not above the end
marks-end : (case : CaseShape) (run : Run) (x part : ℕ) → part < parts_of case.topology → IsUnderMarks case run part x → x ≤ END
marks-end case run x part there under =
    covered (x ≤ END) case.topology first there
    (each-numbered (λ (b : Bounds). covers b first ≡ true → x ≤ END) (intervals_of case.topology)
    (λ i b at has.
    let mark = under i b at (of_part b first has) in
    let below = mark.1 in
    let own = mark.2.own in
    let top = own-end case run b in omega (arith, below, own, top)))
  where
    first : RowName
    first = record { part = part; key = [] }

-- a mark that is at most a safe mark of each interval of a part is at most the part's low watermark
pub marks-low : (case : CaseShape) (history : List Entry) (part x : ℕ) → IsRunnable case → IsLegal case history
    → part < parts_of case.topology
    → IsUnderMarks case (run_of case.topology history) part x → x ≤ low_watermark case (run_of case.topology history) part
marks-low case history part x runs legal there under =
    let run = run_of case.topology history in
    from-low case run x (parts_of case.topology) part (rows-in_order case.topology history) (marks-end case run x part there under)
    (above-low case run x (legal-sent case history legal) (parts_of case.topology) part (marks-above case run x part runs there under))

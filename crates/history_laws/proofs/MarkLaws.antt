-- Marks that are safe stay safe, a reported mark is safe, and safe marks are at most the low watermark.
use Rattle.std.proofs.Common.{◌≡◌, ℕ, zero, suc, ◌+◌, ◌<◌, ◌≤◌, ◌==◌, Bool, true, false, cond, List, [], ◌∷◌, ◌++◌, map, fold, refl, sym, ◌∙◌, ap, subst, arith, inl, inr}
use Rattle.std.specs.Prelude.{Some, None, filter, not, slice_get, unwrap_or}
use Rattle.std.specs.List.{AllByRecursion, flat_map, range_with_len}
use Rattle.std.specs.Ordering.{is_le, is_lt, ordering_reverse}
use Rattle.std.specs.declared.cmp.Ordering.{Ordering}
use Rattle.std.specs.declared.cmp.Ordering.TheVariants.{Less, Equal, Greater}
use Rattle.std.specs.BTreeMap.{is_at}
use Rattle.std.specs.Map.{lookup}
use Rattle.std.proofs.lemmas.Bool.{eqb-true, eq-eqb, cases_lt}
use Rattle.std.proofs.lemmas.List.Elements.{All-from_recursion, recursion_from_All}
use Rattle.list_lemmas.proofs.Places.{each-at}
use Rattle.mw_types.specs.declared.TheConstants.{END}
use Rattle.mw_types.specs.declared.identity.RowName.{RowName}
use Rattle.mw_types.specs.declared.timer.Timer.{Timer}
use Rattle.mw_types.specs.declared.delivery.Delivery.{Delivery}
use Rattle.mw_types.specs.declared.entry.Entry.{Entry}
use Rattle.mw_types.specs.declared.key.PartCuts.{PartCuts}
use Rattle.mw_types.specs.Orders.{key_cmp, row_cmp}
use Rattle.mw_types.proofs.OrderLaws.{key_cmp-total, row_cmp-total}
use Rattle.key_intervals.specs.declared.bounds.Bounds.{Bounds}
use Rattle.key_intervals.specs.Intervals.{covers, bounds_from, bounds_of, part_bounds_of}
use Rattle.key_intervals.proofs.Beginnings.{empty_first}
use Rattle.key_intervals.proofs.Lookup.{has_row, of_part}
use Rattle.topology.specs.Shapes.{Shape, parts_of, feeds_of, cuts_of}
use Rattle.topology.specs.Rules.{IsTopology}
use Rattle.row_parts.specs.Contents.{Contents, fresh}
use Rattle.run_history.specs.Cases.{CaseShape, is_injector, fresh_of, intervals_of}
use Rattle.run_history.specs.Runs.{Run, run_of, row_of, followed, empty_run}
use Rattle.run_history.specs.Watermarks.{times_set, source_mark}
use Rattle.run_history.specs.Legal.{MayFollow, AreLegal, IsLegal}
use Rattle.run_history.proofs.Lookups.{each_found}
use Rattle.run_history.specs.Inputs.{IsRunnable}
use Rattle.run_history.specs.Marks.{stamps_pending, row_marks, stated_marks, own_work, part_work, work_under, work_above, IsSafe}
use Rattle.list_lemmas.proofs.Lists.{each-append, each-weaker, each-both, each-map}
use Rattle.history_laws.proofs.Along.{run_of-append, AreLegal-apart, along_entries}
use Rattle.history_laws.proofs.FeedLaws.{feeds-before}
use Rattle.history_laws.proofs.IdLaws.{AreIds, AreIds-followed, legal-ids}
use Rattle.history_laws.proofs.PendingLaws.{AreSent, AreSent-followed, legal-sent}
use Rattle.history_laws.proofs.RowSteps.{same_row}
use Rattle.history_laws.proofs.StampLaws.{AreInTime, AreInTime-followed, legal-in_time}
use Rattle.history_laws.proofs.LowLaws.{AreRowsInOrder, rows-in_order, least-end, least-bound, bound-each, each-apart, from_passing, to_passing, each-every}
use Rattle.history_laws.proofs.OwnLaws.{IsRowFrom, IsOwnFrom, OfPart, IsPartFrom, IsOwnFrom-followed}

-- ---- intervals

-- a key that is not before another is at or after it
at_or_after : (o : Ordering) → is_lt o ≡ false → is_le (ordering_reverse o) ≡ true
at_or_after Less e = cc
at_or_after Equal e = refl
at_or_after Greater e = refl

-- the intervals from a key on have each row of their part from the key on
covered_from : (Q : Type 0) (part : ℕ) (from : List ℕ) (cuts : List (List ℕ)) (name : RowName) → part ≡ name.part
    → is_le (key_cmp from name.key) ≡ true
    → AllByRecursion (λ (b : Bounds). covers b name ≡ true → Q) (bounds_from part from cuts) → Q
covered_from Q part from [] name of after each = each.0 (has_row (record { part = part; from = from; to = None }) name of after refl)
covered_from Q part from (cut ∷ cuts) name of after each =
    elim (is_lt (key_cmp name.key cut)) as (λ b. is_lt (key_cmp name.key cut) ≡ b → Q) [
      | true ↦ λ e. each.0 (has_row (record { part = part; from = from; to = Some cut }) name of after e)
      | false ↦ λ e. covered_from Q part cut cuts name of
          (ap is_le (key_cmp-total.antisymm cut name.key) ∙ at_or_after (key_cmp name.key cut) e) each.1
    ] refl

-- a part with its cuts
abbrev cut_part : Shape → ℕ → PartCuts
cut_part shape part = record { part = part; cuts = cuts_of shape part }

-- the intervals of parts that are numbered in order have each row of them
covered_range : (Q : Type 0) (shape : Shape) (a n : ℕ) (name : RowName) → a ≤ name.part → name.part < a + n
    → AllByRecursion (λ (b : Bounds). covers b name ≡ true → Q) (bounds_of (map (cut_part shape) (range_with_len a n))) → Q
covered_range Q shape a zero name from to each = absurd (omega (arith, from, to))
covered_range Q shape a (suc n) name from to each =
    let parts = each-apart (λ (b : Bounds). covers b name ≡ true → Q) (part_bounds_of (cut_part shape a))
    (bounds_of (map (cut_part shape) (range_with_len (a + 1) n))) each in
    elim (cases_lt a name.part) [
      | inl less ↦ covered_range Q shape (a + 1) n name (omega (arith, less)) (omega (arith, to)) parts.1
      | inr le ↦ covered_from Q a [] (cuts_of shape a) name (omega (arith, from, le)) (empty_first name.key) parts.0
    ]

-- some interval has each row of a part that is there
pub covered : (Q : Type 0) (shape : Shape) (name : RowName) → name.part < parts_of shape
    → AllByRecursion (λ (b : Bounds). covers b name ≡ true → Q) (intervals_of shape) → Q
covered Q shape name there each = covered_range Q shape 0 (parts_of shape) name (omega arith) (omega (arith, there)) each

-- the intervals of a part are of the part
bounds_from-part : (part : ℕ) (from : List ℕ) (cuts : List (List ℕ))
    → AllByRecursion (λ (b : Bounds). b.part ≡ part) (bounds_from part from cuts)
bounds_from-part part from [] = (refl, tt)
bounds_from-part part from (cut ∷ cuts) = (refl, bounds_from-part part cut cuts)

-- each interval is of a part that is there
intervals-part : (shape : Shape) (a n : ℕ) → AllByRecursion (λ (b : Bounds). b.part < a + n)
    (bounds_of (map (cut_part shape) (range_with_len a n)))
intervals-part shape a zero = tt
intervals-part shape a (suc n) =
    each-append (λ (b : Bounds). b.part < a + suc n) (part_bounds_of (cut_part shape a))
    (bounds_of (map (cut_part shape) (range_with_len (a + 1) n)))
    (each-weaker (λ (b : Bounds). b.part ≡ a) (λ (b : Bounds). b.part < a + suc n) (λ b is. omega (arith, is))
    (part_bounds_of (cut_part shape a)) (bounds_from-part a [] (cuts_of shape a)))
    (each-weaker (λ (b : Bounds). b.part < a + 1 + n) (λ (b : Bounds). b.part < a + suc n) (λ b less. omega (arith, less))
    (bounds_of (map (cut_part shape) (range_with_len (a + 1) n))) (intervals-part shape (a + 1) n))

-- each interval of a number is of a part that is there
pub interval-there : (shape : Shape) (i : ℕ) (b : Bounds) → slice_get (intervals_of shape) i ≡ Some b → b.part < parts_of shape
interval-there shape i b at =
    let below = each-at (λ (b : Bounds). b.part < 0 + parts_of shape) (intervals_of shape) i b
    (intervals-part shape 0 (parts_of shape)) at in omega (arith, below)

-- ---- own work as a bound

-- rows that pass a test have no older work
abbrev RowsOwn : ℕ → (RowName → Bool) → List (RowName × Contents) → Type 0
RowsOwn x test rows = AllByRecursion (λ (r : RowName × Contents). test r.0 ≡ true → IsRowFrom x r.1) rows

-- a bound of the marks of a row is one of its work
row-from : (x : ℕ) (row : Contents) → AllByRecursion (λ m. x ≤ m) (row_marks row) → IsRowFrom x row
row-from x row each =
    let parts = each-apart (λ m. x ≤ m) (times_set row) (stamps_pending row) each in record {
      timers = from_passing x (λ (t : Timer). t.time) (λ (t : Timer). not t.late) row.timers parts.0;
      pending = from_passing x (λ (d : Delivery). d.item.stamp) (λ (d : Delivery). not d.item.late) row.pending parts.1;
    }

-- and back
from-row : (x : ℕ) (row : Contents) → IsRowFrom x row → AllByRecursion (λ m. x ≤ m) (row_marks row)
from-row x row from = each-append (λ m. x ≤ m) (times_set row) (stamps_pending row)
    (to_passing x (λ (t : Timer). t.time) (λ (t : Timer). not t.late) row.timers from.timers)
    (to_passing x (λ (d : Delivery). d.item.stamp) (λ (d : Delivery). not d.item.late) row.pending from.pending)

-- the marks of the rows that pass
abbrev marks_passing : (RowName → Bool) → List (RowName × Contents) → List ℕ
marks_passing test rows = flat_map (λ (r : RowName × Contents). row_marks r.1) (filter (λ (r : RowName × Contents). test r.0) rows)

-- a bound of the marks of all rows that pass
rows-own : (x : ℕ) (test : RowName → Bool) (rows : List (RowName × Contents))
    → AllByRecursion (λ m. x ≤ m) (marks_passing test rows) → RowsOwn x test rows
rows-own x test [] each = tt
rows-own x test (r ∷ rs) each =
    elim (test r.0) as (λ b. AllByRecursion (λ m. x ≤ m)
    (flat_map (λ (r : RowName × Contents). row_marks r.1)
    (cond b (r ∷ filter (λ (r : RowName × Contents). test r.0) rs) (filter (λ (r : RowName × Contents). test r.0) rs)))
    → (b ≡ true → IsRowFrom x r.1) × RowsOwn x test rs) [
      | true ↦ λ each. let parts = each-apart (λ m. x ≤ m) (row_marks r.1) (marks_passing test rs) each in
          ((λ _. row-from x r.1 parts.0), rows-own x test rs parts.1)
      | false ↦ λ each. ((λ e. absurd cc), rows-own x test rs each)
    ] each

-- and back
own-rows : (x : ℕ) (test : RowName → Bool) (rows : List (RowName × Contents)) → RowsOwn x test rows
    → AllByRecursion (λ m. x ≤ m) (marks_passing test rows)
own-rows x test [] each = tt
own-rows x test (r ∷ rs) each =
    elim (test r.0) as (λ b. (b ≡ true → IsRowFrom x r.1) → AllByRecursion (λ m. x ≤ m)
    (flat_map (λ (r : RowName × Contents). row_marks r.1)
    (cond b (r ∷ filter (λ (r : RowName × Contents). test r.0) rs) (filter (λ (r : RowName × Contents). test r.0) rs)))) [
      | true ↦ λ here. each-append (λ m. x ≤ m) (row_marks r.1) (marks_passing test rs) (from-row x r.1 (here refl))
          (own-rows x test rs each.1)
      | false ↦ λ here. own-rows x test rs each.1
    ] each.0

-- a fact of rows that pass is one of the row of each name that passes
name-own : (shape : Shape) (x : ℕ) (test : RowName → Bool) (name : RowName) (rows : List (RowName × Contents)) → test name ≡ true
    → RowsOwn x test rows
    → IsRowFrom x (unwrap_or (lookup (is_at (row_cmp name)) rows) (fresh (fresh_of shape name.part)))
name-own shape x test name [] passes each = record { timers = tt; pending = tt }
name-own shape x test name (r ∷ rs) passes each =
    elim (is_at (row_cmp name) r.0) as (λ b. is_at (row_cmp name) r.0 ≡ b
    → IsRowFrom x (unwrap_or (cond b (Some r.1) (lookup (is_at (row_cmp name)) rs)) (fresh (fresh_of shape name.part)))) [
      | true ↦ λ tie. each.0 (subst (λ (n : RowName). test n ≡ true) (same_row name r.0 tie) passes)
      | false ↦ λ tie. name-own shape x test name rs passes each.1
    ] refl

-- and back
own-name : (shape : Shape) (run : Run) (x : ℕ) (test : RowName → Bool) → AreRowsInOrder run
    → ((name : RowName) → test name ≡ true → IsRowFrom x (row_of shape run name))
    → RowsOwn x test run.rows
own-name shape run x test order each =
    each-weaker (λ (e : RowName × Contents). lookup (is_at (row_cmp e.0)) run.rows ≡ Some e.1)
    (λ (r : RowName × Contents). test r.0 ≡ true → IsRowFrom x r.1)
    (λ r found of. subst (λ o. IsRowFrom x (unwrap_or o (fresh (fresh_of shape r.0.part)))) found (each r.0 of)) run.rows
    (each_found row_cmp-total run.rows order.sorted)

-- the rows that an interval has
abbrev pub OfBounds : Bounds → RowName → Type 0
OfBounds b name = covers b name ≡ true

-- a bound of the own work of an interval
pub own-from : (case : CaseShape) (run : Run) (x : ℕ) (b : Bounds) → x ≤ own_work case run b → IsOwnFrom case run x b.part (OfBounds b)
own-from case run x b below =
    let marks = marks_passing (covers b) run.rows in
    let parts = each-apart (λ m. x ≤ m) marks (stated_marks case run b.part)
    (bound-each x (marks ++ stated_marks case run b.part) below) in record {
      rows = λ name has. name-own case.topology x (covers b) name run.rows has (rows-own x (covers b) run.rows parts.0);
      mark = λ is. (subst (λ c. AllByRecursion (λ m. x ≤ m) (cond c (source_mark case run b.part ∷ []) [])) is parts.1).0;
    }

-- and back
pub from-own : (case : CaseShape) (run : Run) (x : ℕ) (b : Bounds) → AreRowsInOrder run → x ≤ END
    → IsOwnFrom case run x b.part (OfBounds b) → x ≤ own_work case run b
from-own case run x b order end own =
    let marks = marks_passing (covers b) run.rows in
    least-bound x (marks ++ stated_marks case run b.part) end
    (each-append (λ m. x ≤ m) marks (stated_marks case run b.part)
    (own-rows x (covers b) run.rows (own-name case.topology run x (covers b) order own.rows))
    (elim (is_injector case.topology b.part) as (λ c. (c ≡ true → x ≤ source_mark case run b.part)
    → AllByRecursion (λ m. x ≤ m) (cond c (source_mark case run b.part ∷ []) [])) [
      | true ↦ λ mark. (mark refl, tt)
      | false ↦ λ mark. tt
    ] own.mark))

-- the own work of an interval is at most the end
pub own-end : (case : CaseShape) (run : Run) (b : Bounds) → own_work case run b ≤ END
own-end case run b = least-end (marks_passing (covers b) run.rows ++ stated_marks case run b.part)

-- a bound of the own work of each interval of a part is one of the part's work
pub intervals-part_from : (case : CaseShape) (run : Run) (x part : ℕ) → part < parts_of case.topology
    → AllByRecursion (λ (b : Bounds). (b.part == part) ≡ true → x ≤ own_work case run b) (intervals_of case.topology)
    → IsPartFrom case run x part
intervals-part_from case run x part there each = record {
  rows = λ name of. covered (IsRowFrom x (row_of case.topology run name)) case.topology name (omega (arith, of, there))
      (each-weaker (λ (b : Bounds). (b.part == part) ≡ true → x ≤ own_work case run b)
      (λ (b : Bounds). covers b name ≡ true → IsRowFrom x (row_of case.topology run name))
      (λ b below has. (own-from case run x b (below (eq-eqb b.part part (of_part b name has ∙ of)))).rows name has)
      (intervals_of case.topology) each);
  mark = λ is. covered (x ≤ source_mark case run part) case.topology (record { part = part; key = [] }) there
      (each-weaker (λ (b : Bounds). (b.part == part) ≡ true → x ≤ own_work case run b)
      (λ (b : Bounds). covers b (record { part = part; key = [] }) ≡ true → x ≤ source_mark case run part)
      (λ b below has.
      let of : b.part ≡ part = of_part b (record { part = part; key = [] }) has in
      subst (λ n. x ≤ source_mark case run n) of ((own-from case run x b (below (eq-eqb b.part part of))).mark
      (subst (λ n. is_injector case.topology n ≡ true) (sym of) is)))
      (intervals_of case.topology) each);
}

-- a bound of the work of a part
part-from : (case : CaseShape) (run : Run) (x part : ℕ) → part < parts_of case.topology → x ≤ part_work case run part
    → IsPartFrom case run x part
part-from case run x part there below = intervals-part_from case run x part there
    (from_passing x (own_work case run) (λ (b : Bounds). b.part == part) (intervals_of case.topology)
    (bound-each x (map (own_work case run) (filter (λ (b : Bounds). b.part == part) (intervals_of case.topology))) below))

-- and back
from-part : (case : CaseShape) (run : Run) (x part : ℕ) → AreRowsInOrder run → x ≤ END → IsPartFrom case run x part
    → x ≤ part_work case run part
from-part case run x part order end from =
    least-bound x (map (own_work case run) (filter (λ (b : Bounds). b.part == part) (intervals_of case.topology))) end
    (to_passing x (own_work case run) (λ (b : Bounds). b.part == part) (intervals_of case.topology) (every (intervals_of case.topology)))
  where
    one : (b : Bounds) → (b.part == part) ≡ true → x ≤ own_work case run b
    one b of = from-own case run x b order end (record {
      rows = λ name has. from.rows name (sym (of_part b name has) ∙ eqb-true b.part part of);
      mark = λ is. subst (λ n. x ≤ source_mark case run n) (sym (eqb-true b.part part of))
          (from.mark (subst (λ n. is_injector case.topology n ≡ true) (eqb-true b.part part of) is));
    })

    every : (bs : List Bounds) → AllByRecursion (λ (b : Bounds). (b.part == part) ≡ true → x ≤ own_work case run b) bs
    every [] = tt
    every (b ∷ bs) = (one b, every bs)

-- ---- the work above a part as a bound

-- looking back through at most so many streams, no part has older work
abbrev pub WorkFrom : CaseShape → Run → ℕ → ℕ → ℕ → Type 0
WorkFrom case run x zero part = IsPartFrom case run x part
WorkFrom case run x (suc depth) part = IsPartFrom case run x part × AllByRecursion (WorkFrom case run x depth) (feeds_of case.topology part)

-- no part above a part, nor the part, has older work
abbrev pub IsAboveFrom : CaseShape → Run → ℕ → ℕ → Type 0
IsAboveFrom case run x part = (depth : ℕ) → WorkFrom case run x depth part

-- each feeding part is there
pub feeds-there : (case : CaseShape) (part : ℕ) → IsTopology case.topology → part < parts_of case.topology
    → AllByRecursion (λ f. f < parts_of case.topology) (feeds_of case.topology part)
feeds-there case part rules there = each-weaker (λ f. f < part) (λ f. f < parts_of case.topology) (λ f less. omega (arith, less, there))
    (feeds_of case.topology part) (feeds-before case.topology part rules)

-- a bound of the work above a part
work-from : (case : CaseShape) (run : Run) (x : ℕ) → IsTopology case.topology → (depth part : ℕ) → part < parts_of case.topology
    → x ≤ work_under case run depth part → WorkFrom case run x depth part
work-from case run x rules zero part there below = part-from case run x part there below
work-from case run x rules (suc depth) part there below =
    let each = bound-each x (part_work case run part ∷ map (work_under case run depth) (feeds_of case.topology part)) below in (
      part-from case run x part there each.0,
      feeds (λ f. work-from case run x rules depth f) (feeds_of case.topology part)
          (feeds-there case part rules there) each.1,
    )
  where
    feeds : ((f : ℕ) → f < parts_of case.topology → x ≤ work_under case run depth f → WorkFrom case run x depth f) → (fs : List ℕ)
        → AllByRecursion (λ f. f < parts_of case.topology) fs
        → AllByRecursion (λ m. x ≤ m) (map (work_under case run depth) fs) → AllByRecursion (WorkFrom case run x depth) fs
    feeds deeper [] there each = tt
    feeds deeper (f ∷ fs) there each = (deeper f there.0 each.0, feeds deeper fs there.1 each.1)

-- and back
pub from-work : (case : CaseShape) (run : Run) (x : ℕ) → AreRowsInOrder run → x ≤ END → (depth part : ℕ) → WorkFrom case run x depth part
    → x ≤ work_under case run depth part
from-work case run x order end zero part from = from-part case run x part order end from
from-work case run x order end (suc depth) part from =
    least-bound x (part_work case run part ∷ map (work_under case run depth) (feeds_of case.topology part)) end (
      from-part case run x part order end from.0,
      each-map (λ m. x ≤ m) (work_under case run depth) (feeds_of case.topology part)
          (each-weaker (WorkFrom case run x depth) (λ f. x ≤ work_under case run depth f)
          (λ f w. from-work case run x order end depth f w) (feeds_of case.topology part) from.1),
    )

-- no path through streams is longer than the number of its part, so looking back further changes nothing
WorkFrom-any_depth : (case : CaseShape) (run : Run) (x : ℕ) → IsTopology case.topology → (depth part : ℕ) → part ≤ depth
    → WorkFrom case run x depth part → IsAboveFrom case run x part
WorkFrom-any_depth case run x rules zero part le from zero = from
WorkFrom-any_depth case run x rules zero part le from (suc other) = (
  from,
  each-weaker (λ f. f < part) (WorkFrom case run x other) (λ f less. absurd (omega (arith, less, le)))
      (feeds_of case.topology part) (feeds-before case.topology part rules),
)
WorkFrom-any_depth case run x rules (suc depth) part le from zero = from.0
WorkFrom-any_depth case run x rules (suc depth) part le from (suc other) = (
  from.0,
  each-weaker (λ f. (f < part) × WorkFrom case run x depth f) (WorkFrom case run x other)
      (λ f (both : (f < part) × WorkFrom case run x depth f).
      let less = both.0 in WorkFrom-any_depth case run x rules depth f (omega (arith, less, le)) both.1 other)
      (feeds_of case.topology part) (each-both (λ f. f < part) (WorkFrom case run x depth) (feeds_of case.topology part)
      (feeds-before case.topology part rules) from.1),
)

-- a bound of the work above a part, by its number
pub above-from : (case : CaseShape) (run : Run) (x part : ℕ) → IsTopology case.topology → part < parts_of case.topology
    → x ≤ work_above case run part → IsAboveFrom case run x part
above-from case run x part rules there below =
    WorkFrom-any_depth case run x rules (parts_of case.topology) part (omega (arith, there))
    (work-from case run x rules (parts_of case.topology) part there below)

-- what no part above has, none of the feeding parts has
pub feeds-above : (case : CaseShape) (run : Run) (x part : ℕ) → IsAboveFrom case run x part
    → AllByRecursion (IsAboveFrom case run x) (feeds_of case.topology part)
feeds-above case run x part above = each-every (λ depth f. WorkFrom case run x depth f) (feeds_of case.topology part)
    (λ depth. (above (suc depth)).1)

-- ---- one more entry

-- what stands after a history: what ids tell, what waits is pending, and all is in time
pub record AreKept (case : CaseShape) (history : List Entry) (run : Run) : Type 0 where
  pub ids : AreIds history run
  pub sent : AreSent case.topology run
  pub in_time : AreInTime run

-- one more entry keeps a bound of the work above a part
WorkFrom-followed : (case : CaseShape) (history : List Entry) (run : Run) (entry : Entry) (x : ℕ) → IsRunnable case
    → AreKept case history run → MayFollow case run entry
    → (depth part : ℕ) → IsAboveFrom case run x part → WorkFrom case (followed case.topology run entry) x depth part
WorkFrom-followed case history run entry x runs kept may zero part above =
    IsOwnFrom-followed case history run x part runs kept.ids kept.sent kept.in_time (above 1).1 entry (OfPart part) may (λ name of. of)
    (above 0)
WorkFrom-followed case history run entry x runs kept may (suc depth) part above = (
  IsOwnFrom-followed case history run x part runs kept.ids kept.sent kept.in_time (above 1).1 entry (OfPart part) may (λ name of. of)
      (above 0),
  each-weaker (IsAboveFrom case run x) (WorkFrom case (followed case.topology run entry) x depth)
      (λ f all. WorkFrom-followed case history run entry x runs kept may depth f all)
      (feeds_of case.topology part) (feeds-above case run x part above),
)

-- a mark of an interval that is safe, as a bound
pub record IsSafeFrom (case : CaseShape) (run : Run) (b : Bounds) (x : ℕ) : Type 0 where
  pub own : IsOwnFrom case run x b.part (OfBounds b)
  pub inputs : AllByRecursion (IsAboveFrom case run x) (feeds_of case.topology b.part)

-- one more entry keeps a mark safe
IsSafeFrom-followed : (case : CaseShape) (history : List Entry) (run : Run) (entry : Entry) (b : Bounds) (x : ℕ) → IsRunnable case
    → AreKept case history run → MayFollow case run entry
    → IsSafeFrom case run b x → IsSafeFrom case (followed case.topology run entry) b x
IsSafeFrom-followed case history run entry b x runs kept may safe = record {
  own = IsOwnFrom-followed case history run x b.part runs kept.ids kept.sent kept.in_time
      (each-weaker (IsAboveFrom case run x) (IsPartFrom case run x) (λ f above. above 0) (feeds_of case.topology b.part) safe.inputs)
      entry (OfBounds b) may (λ name has. sym (of_part b name has)) safe.own;
  inputs = each-weaker (IsAboveFrom case run x) (IsAboveFrom case (followed case.topology run entry) x)
      (λ f above depth. WorkFrom-followed case history run entry x runs kept may depth f above) (feeds_of case.topology b.part) safe.inputs;
}

-- one more entry keeps what stands after a history
AreKept-followed : (case : CaseShape) (history : List Entry) (run : Run) (entry : Entry) → IsRunnable case → AreKept case history run
    → MayFollow case run entry
    → AreKept case (history ++ entry ∷ []) (followed case.topology run entry)
AreKept-followed case history run entry runs kept may = record {
  ids = AreIds-followed case history run entry kept.ids may;
  sent = AreSent-followed case run entry kept.sent may;
  in_time = AreInTime-followed case run entry runs kept.in_time may;
}

-- what stands after each legal history
pub legal-kept : (case : CaseShape) (history : List Entry) → IsRunnable case → IsLegal case history
    → AreKept case history (run_of case.topology history)
legal-kept case history runs legal = record {
  ids = legal-ids case history legal;
  sent = legal-sent case history legal;
  in_time =
      legal-in_time case history runs legal;
}

-- a safe mark, as a bound
pub safe-from : (case : CaseShape) (run : Run) (b : Bounds) (x : ℕ) → IsRunnable case → b.part < parts_of case.topology
    → IsSafe case run b x → IsSafeFrom case run b x
safe-from case run b x runs there safe = record {
  own = own-from case run x b safe.own;
  inputs = each-weaker (λ f. (f < parts_of case.topology) × (x ≤ work_above case run f)) (IsAboveFrom case run x)
      (λ f (both : (f < parts_of case.topology) × (x ≤ work_above case run f)). above-from case run x f runs.topology both.0 both.1)
      (feeds_of case.topology b.part)
      (each-both (λ f. f < parts_of case.topology) (λ f. x ≤ work_above case run f) (feeds_of case.topology b.part)
      (feeds-there case b.part runs.topology there)
      (recursion_from_All (λ f. x ≤ work_above case run f) (feeds_of case.topology b.part) safe.inputs));
}

-- and back
pub from-safe : (case : CaseShape) (run : Run) (b : Bounds) (x : ℕ) → AreRowsInOrder run → x ≤ END → IsSafeFrom case run b x
    → IsSafe case run b x
from-safe case run b x order end safe = record {
  own = from-own case run x b order end safe.own;
  inputs = All-from_recursion (λ f. x ≤ work_above case run f) (feeds_of case.topology b.part)
      (each-weaker (IsAboveFrom case run x) (λ f. x ≤ work_above case run f)
      (λ f above. from-work case run x order end (parts_of case.topology) f (above (parts_of case.topology)))
      (feeds_of case.topology b.part) safe.inputs);
}

-- a mark that is safe after a beginning of a legal history is safe after the whole
pub IsSafe-stays : (case : CaseShape) (front rest : List Entry) (i : ℕ) (b : Bounds) (x : ℕ) → IsRunnable case
    → IsLegal case (front ++ rest)
    → slice_get (intervals_of case.topology) i ≡ Some b → IsSafe case (run_of case.topology front) b x
    → IsSafe case (run_of case.topology (front ++ rest)) b x
IsSafe-stays case front rest i b x runs legal at safe =
    from-safe case (run_of case.topology (front ++ rest)) b x (rows-in_order case.topology (front ++ rest)) end
    (subst (λ (r : Run). IsSafeFrom case r b x) (sym (run_of-append case.topology front rest)) kept.1)
  where
    before : Run
    before = run_of case.topology front

    end : x ≤ END
    end = let below = safe.own in let top = own-end case before b in omega (arith, below, top)

    parts : AreLegal case empty_run front × AreLegal case before rest
    parts = AreLegal-apart case front rest empty_run legal

    kept : AreKept case (front ++ rest) (fold (followed case.topology) before rest) × IsSafeFrom case
        (fold (followed case.topology) before rest) b x
    kept = along_entries case (λ done run. AreKept case done run × IsSafeFrom case run b x)
        (λ done run entry (both : AreKept case done run × IsSafeFrom case run b x) may.
        (AreKept-followed case done run entry runs both.0 may, IsSafeFrom-followed case done run entry b x runs both.0 may both.1))
        rest front before (
          legal-kept case front runs parts.0,
          safe-from case before b x runs
              (interval-there case.topology i b at) safe,
        ) parts.1

-- the work above a part never gets older
pub work_above-rises : (case : CaseShape) (front rest : List Entry) (part : ℕ) → IsRunnable case → IsLegal case (front ++ rest)
    → part < parts_of case.topology
    → work_above case (run_of case.topology front) part ≤ work_above case (run_of case.topology (front ++ rest)) part
work_above-rises case front rest part runs legal there =
    subst (λ (r : Run). x ≤ work_above case r part) (sym (run_of-append case.topology front rest))
    (from-work case after x (subst AreRowsInOrder (run_of-append case.topology front rest) (rows-in_order case.topology (front ++ rest)))
    (work-end (parts_of case.topology))
    (parts_of case.topology) part (kept.1 (parts_of case.topology)))
  where
    before : Run
    before = run_of case.topology front

    after : Run
    after = fold (followed case.topology) before rest

    x : ℕ
    x = work_above case before part

    work-end : (depth : ℕ) → work_under case before depth part ≤ END
    work-end zero = least-end (map (own_work case before) (filter (λ (b : Bounds). b.part == part) (intervals_of case.topology)))
    work-end (suc depth) = least-end (part_work case before part ∷ map (work_under case before depth) (feeds_of case.topology part))

    parts : AreLegal case empty_run front × AreLegal case before rest
    parts = AreLegal-apart case front rest empty_run legal

    kept : AreKept case (front ++ rest) after × IsAboveFrom case after x part
    kept = along_entries case (λ done run. AreKept case done run × IsAboveFrom case run x part)
        (λ done run entry (both : AreKept case done run × IsAboveFrom case run x part) may. (
          AreKept-followed case done run entry runs both.0 may,
          (λ depth. WorkFrom-followed case done run entry x runs both.0 may depth part both.1),
        ))
        rest front before (
          legal-kept case front runs parts.0,
          above-from case before x part runs.topology there
              (let least_one : x ≤ x = omega arith in least_one),
        ) parts.1

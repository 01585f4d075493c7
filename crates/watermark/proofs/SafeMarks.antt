-- What marks bound, one for each interval, where each is safe: the work above what they feed, and the low watermarks.
use Rattle.std.proofs.Common.{◌≡◌, ◌∙◌, ℕ, zero, suc, ◌+◌, ◌<◌, ◌≤◌, ◌==◌, Bool, true, false, cond, List, [], ◌∷◌, length, map, sym, ap, subst, arith}
use Rattle.std.specs.Prelude.{All, Option, Some, None, slice_get}
use Rattle.std.specs.List.{AllByRecursion, list_any, cons_option}
use Rattle.std.specs.Option.{option_map_or}
use Rattle.std.proofs.lemmas.Bool.{eq-eqb}
use Rattle.list_lemmas.proofs.Places.{any-here}
use Rattle.mw_types.specs.declared.entry.Entry.{Entry}
use Rattle.key_intervals.specs.declared.bounds.Bounds.{Bounds}
use Rattle.topology.specs.Shapes.{feeds_of, parts_of}
use Rattle.run_history.specs.Cases.{CaseShape, intervals_of}
use Rattle.run_history.specs.Inputs.{IsRunnable}
use Rattle.run_history.specs.Legal.{IsLegal}
use Rattle.run_history.specs.Marks.{IsSafe, IsUnderMarks}
use Rattle.run_history.specs.Runs.{Run, run_of}
use Rattle.run_history.specs.Watermarks.{least, low_watermark}
use Rattle.list_lemmas.proofs.Lists.{none_some, some_same}
use Rattle.history_laws.proofs.LowLaws.{bound-each}
use Rattle.history_laws.proofs.ReportLaws.{marks-low}
use Rattle.watermark.specs.Marks.{feeding_marks, mark_of, marks_in, marks_of, numbers_in}

-- the mark of each interval is safe
abbrev pub AreAllSafe : CaseShape → Run → List ℕ → Type 0
AreAllSafe case run marks = (interval : ℕ) (bounds : Bounds) → slice_get (intervals_of case.topology) interval ≡ Some bounds
    → IsSafe case run bounds (mark_of marks interval)

-- ---- the marks of what feeds an interval

-- a bound of the marks of the intervals of some parts is one of the mark of each of these intervals
pub among-bound : (x : ℕ) (f : ℕ → ℕ) (parts : List ℕ) (n : ℕ) (all : List Bounds) (k : ℕ) (b : Bounds)
    → AllByRecursion (λ m. x ≤ m) (map f (numbers_in parts n all))
    → slice_get all k ≡ Some b → list_any (λ part. part == b.part) parts ≡ true → x ≤ f (n + k)
among-bound x f parts n [] k b each at among = absurd (none_some b at)
among-bound x f parts n (c ∷ cs) zero b each at among =
    let same : c ≡ b = some_same c b at in
    let passes : list_any (λ part. part == c.part) parts ≡ true = subst (λ (d : Bounds). list_any (λ part. part == d.part) parts ≡ true)
    (sym same) among in
    let first = (subst (λ t. AllByRecursion (λ m. x ≤ m) (map f (cons_option (cond t (Some n) None) (numbers_in parts (n + 1) cs))))
    passes each).0 in
    let zero_more : n + 0 ≡ n = omega arith in
    subst (λ i. x ≤ f i) (sym zero_more) first
among-bound x f parts n (c ∷ cs) (suc k) b each at among =
    let next : n + 1 + k ≡ n + suc k = omega arith in
    subst (λ i. x ≤ f i) next (among-bound x f parts (n + 1) cs k b (later (list_any (λ part. part == c.part) parts) each) at among)
  where
    later : (t : Bool) → AllByRecursion (λ m. x ≤ m) (map f (cons_option (cond t (Some n) None) (numbers_in parts (n + 1) cs)))
        → AllByRecursion (λ m. x ≤ m) (map f (numbers_in parts (n + 1) cs))
    later true each = each.1
    later false each = each

-- a bound of the marks that feed an interval is at most a safe mark of each interval of each part that feeds it
pub under-feeding : (case : CaseShape) (run : Run) (marks : List ℕ) (interval x : ℕ) (b : Bounds) → AreAllSafe case run marks
    → slice_get (intervals_of case.topology) interval ≡ Some b → x ≤ least (feeding_marks case.topology interval marks)
    → All (λ (feeding : ℕ). IsUnderMarks case run feeding x) (feeds_of case.topology b.part)
under-feeding case run marks interval x b safe at below k d within other c there of =
    let shape = case.topology in
    let all = intervals_of shape in
    let feeds = feeds_of shape b.part in
    let among : list_any (λ part. part == c.part) feeds ≡ true
    = subst (λ n. list_any (λ part. part == n) feeds ≡ true) (sym of) (any-here feeds k d within) in
    let least_of : x ≤ least (map (mark_of marks) (numbers_in feeds 0 all))
    = subst (λ (o : Option Bounds). x ≤ least (map (mark_of marks)
    (option_map_or (λ (e : Bounds). numbers_in (feeds_of shape e.part) 0 all) o []))) at below in
    let bound = among-bound x (mark_of marks) feeds 0 all other c (bound-each x (map (mark_of marks) (numbers_in feeds 0 all)) least_of)
    there among in
    let none_before : 0 + other ≡ other = omega arith in
    (mark_of marks other, subst (λ n. x ≤ mark_of marks n) none_before bound, safe other c there)

-- ---- under the low watermark

-- a bound of the marks of a part is one of the mark of each of its intervals
pub part-bound : (x part : ℕ) (all : List Bounds) (marks : List ℕ) (k : ℕ) (b : Bounds) → length marks ≡ length all
    → AllByRecursion (λ m. x ≤ m) (marks_in all part marks)
    → slice_get all k ≡ Some b → b.part ≡ part → x ≤ mark_of marks k
part-bound x part [] marks k b long each at of = absurd (none_some b at)
part-bound x part (c ∷ cs) [] k b long each at of = absurd (omega (arith, long))
part-bound x part (c ∷ cs) (m ∷ ms) zero b long each at of =
    let same : c.part ≡ part = ap (λ (d : Bounds). d.part) (some_same c b at) ∙ of in
    (subst (λ t. AllByRecursion (λ n. x ≤ n) (cons_option (cond t (Some m) None) (marks_in cs part ms))) (eq-eqb c.part part same) each).0
part-bound x part (c ∷ cs) (m ∷ ms) (suc k) b long each at of =
    part-bound x part cs ms k b (omega (arith, long)) (later (c.part == part) each) at of
  where
    later : (t : Bool) → AllByRecursion (λ n. x ≤ n) (cons_option (cond t (Some m) None) (marks_in cs part ms))
        → AllByRecursion (λ n. x ≤ n) (marks_in cs part ms)
    later true each = each.1
    later false each = each

-- the least mark of a part's intervals is at most the part's low watermark
pub are-under_low : (case : CaseShape) (history : List Entry) (marks : List ℕ) → IsRunnable case → IsLegal case history
    → length marks ≡ length (intervals_of case.topology) → AreAllSafe case (run_of case.topology history) marks
    → (part : ℕ) → part < parts_of case.topology
    → least (marks_of case.topology part marks) ≤ low_watermark case (run_of case.topology history) part
are-under_low case history marks runs legal long safe part there =
    let x = least (marks_of case.topology part marks) in
    marks-low case history part x runs legal there (λ interval b at of. (
      mark_of marks interval,
      part-bound x part (intervals_of case.topology) marks interval b long
          (bound-each x (marks_of case.topology part marks) (omega arith)) at of,
      safe interval b at,
    ))

-- The marks of an interval and of a part, and the numbers of intervals.
use Rattle.std.proofs.Common.{◌≡◌, ℕ, zero, suc, ◌+◌, ◌<◌, ◌≤◌, ◌==◌, ◌||◌, true, false, cond, List, [], ◌∷◌, refl, ap, subst, arith, inl, inr}
use Rattle.std.specs.Prelude.{Some, None, slice_get}
use Rattle.std.specs.List.{AllByRecursion, list_any, cons_option}
use Rattle.std.proofs.lemmas.Bool.{eqb-true, cases_lt}
use Rattle.std.proofs.lemmas.Option.{slice_get_within, get_or_from_slice_get}
use Rattle.key_intervals.specs.declared.bounds.Bounds.{Bounds}
use Rattle.key_intervals.proofs.Beginnings.{parts_rise}
use Rattle.topology.specs.Shapes.{Shape}
use Rattle.topology.specs.Rules.{IsTopology}
use Rattle.run_history.specs.Cases.{intervals_of}
use Rattle.run_history.proofs.IntervalLaws.{are-intervals}
use Rattle.watermark.specs.Marks.{mark_of, marks_in, numbers_in}
use Rattle.book.specs.Marks.{with_mark}

-- ---- a mark that is put among others

-- all marks are as they were, where it is the mark that the interval had
pub mark-same : (marks : List ℕ) (interval : ℕ) → with_mark interval (mark_of marks interval) marks ≡ marks
mark-same [] interval = refl
mark-same (m ∷ marks) zero = refl
mark-same (m ∷ marks) (suc interval) = ap (λ ms. m ∷ ms) (mark-same marks interval)

-- ---- numbers of intervals

-- what holds of each of some parts holds of one that is among them
pub any-each : (P : ℕ → Type 0) (part : ℕ) (parts : List ℕ) → AllByRecursion P parts → list_any (λ p. p == part) parts ≡ true → P part
any-each P part [] each among = absurd (cc)
any-each P part (p ∷ ps) each among =
    elim (p == part) as (λ b. (p == part) ≡ b → (b || list_any (λ q. q == part) ps) ≡ true → P part) [
      | true ↦ λ e f. subst P (eqb-true p part e) each.0
      | false ↦ λ e f. any-each P part ps each.1 f
    ] refl among

-- what holds of the number of each interval of some parts holds of their numbers
pub numbers_in-each : (P : ℕ → Type 0) (parts : List ℕ) (n : ℕ) (all : List Bounds)
    → ((k : ℕ) (b : Bounds) → slice_get all k ≡ Some b → list_any (λ part. part == b.part) parts ≡ true → P (n + k))
    → AllByRecursion P (numbers_in parts n all)
numbers_in-each P parts n [] holds = tt
numbers_in-each P parts n (b ∷ bs) holds =
    let rest = numbers_in-each P parts (n + 1) bs
    (λ k c at among. let next : n + suc k ≡ n + 1 + k = omega arith in subst P next (holds (suc k) c at among)) in
    elim (list_any (λ part. part == b.part) parts) as (λ t. list_any (λ part. part == b.part) parts ≡ t
    → AllByRecursion P (cons_option (cond t (Some n) None) (numbers_in parts (n + 1) bs))) [
      | true ↦ λ e. (let zero_more : n + 0 ≡ n = omega arith in subst P zero_more (holds 0 b refl e), rest)
      | false ↦ λ e. rest
    ] refl

-- an interval of a lesser part has a lesser number
pub number-before : (shape : Shape) (i k : ℕ) (b c : Bounds) → IsTopology shape → slice_get (intervals_of shape) i ≡ Some b
    → slice_get (intervals_of shape) k ≡ Some c → c.part < b.part → k < i
number-before shape i k b c rules here there less = elim (cases_lt k i) [
  | inl before ↦ before
  | inr after ↦
      let all = intervals_of shape in
      let rise = parts_rise all b (are-intervals shape rules).next i k after (slice_get_within all k c there) in
      let first = ap (λ (d : Bounds). d.part) (get_or_from_slice_get all i b b here) in
      let second = ap (λ (d : Bounds). d.part) (get_or_from_slice_get all k c b there) in
      absurd (omega (arith, rise, first, second, less))
]

-- ---- the marks of a part

-- a bound of the mark of each interval of a part is one of the part's marks
pub marks_in-each : (x part : ℕ) (all : List Bounds) (marks : List ℕ)
    → ((k : ℕ) (b : Bounds) → slice_get all k ≡ Some b → b.part ≡ part → x ≤ mark_of marks k)
    → AllByRecursion (λ m. x ≤ m) (marks_in all part marks)
marks_in-each x part [] marks holds = tt
marks_in-each x part (b ∷ bs) [] holds = tt
marks_in-each x part (b ∷ bs) (m ∷ ms) holds =
    let rest = marks_in-each x part bs ms (λ k c at of. holds (suc k) c at of) in
    elim (b.part == part) as (λ t. (b.part == part) ≡ t
    → AllByRecursion (λ n. x ≤ n) (cons_option (cond t (Some m) None) (marks_in bs part ms))) [
      | true ↦ λ e. (holds 0 b refl (eqb-true b.part part e), rest)
      | false ↦ λ e. rest
    ] refl

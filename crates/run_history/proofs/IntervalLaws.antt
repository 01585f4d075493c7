-- The interval in which a row lies is the one that has it.
use Rattle.std.proofs.Common.{◌≡◌, ℕ, ◌+◌, ◌<◌, Bool, true, false, cond, List, [], ◌∷◌, length, refl, sym, ◌∙◌, ap, subst, arith, suc, zero, Any}
use Rattle.std.specs.Prelude.{None, Option, Some, slice_get}
use Rattle.std.specs.Option.{option_map}
use Rattle.std.specs.List.{position_from, range_with_len}
use Rattle.std.proofs.lemmas.List.{length-map}
use Rattle.std.proofs.lemmas.List.FromFn.{length-range_with_len}
use Rattle.std.proofs.lemmas.Option.{slice_get-map}
use Rattle.mw_types.specs.declared.identity.RowName.{RowName}
use Rattle.key_intervals.specs.declared.bounds.Bounds.{Bounds}
use Rattle.key_intervals.specs.declared.given.Given.{Given}
use Rattle.key_intervals.specs.Intervals.{covers, HasRow, AreIntervals}
use Rattle.key_intervals.specs.Division.{bounds_at, fresh}
use Rattle.topology.specs.Shapes.{Shape, parts_of, cuts_of}
use Rattle.topology.specs.Rules.{IsTopology, part_cuts_of}
use Rattle.run_history.specs.Fences.{interval_of}
use Rattle.run_history.specs.Cases.{first_division, intervals_of}
use Rattle.list_lemmas.proofs.Lists.{some_same, none_some}
use Rattle.run_history.proofs.CaseIntervals.{part_cuts_of-numbered, part_cuts_of-cuts, intervals-few}
use Rattle.key_intervals.proofs.Made as made
use Rattle.key_intervals.proofs.Lookup.{one_interval}

-- what a search for a place finds passes at the place
position_from-at : {X : Type 0} (test : X → Bool) (n : ℕ) (xs : List X) (i : ℕ) → position_from test n xs ≡ Some i
    → (k : ℕ) × (x : X) × (i ≡ n + k) × (slice_get xs k ≡ Some x) × (test x ≡ true)
position_from-at test n [] i found = absurd (none_some i found)
position_from-at {X} test n (x ∷ xs) i found =
    elim (test x) as (λ b. test x ≡ b → cond b (Some n) (position_from test (n + 1) xs) ≡ Some i
    → (k : ℕ) × (y : X) × (i ≡ n + k) × (slice_get (x ∷ xs) k ≡ Some y) × (test y ≡ true)) [
      | true ↦ λ e f. let same : n ≡ i = some_same n i f in (0, x, omega (arith, same), refl, e)
      | false ↦ λ e f. let rest = position_from-at test (n + 1) xs i f in let at = rest.2 in
          (suc rest.0, rest.1, omega (arith, at), rest.3, rest.4)
    ] refl found

-- where an element passes, the search finds a place
position_from-some : {X : Type 0} (test : X → Bool) (n : ℕ) (xs : List X) (k : ℕ) (x : X) → slice_get xs k ≡ Some x → test x ≡ true
    → (i : ℕ) × (position_from test n xs ≡ Some i)
position_from-some test n [] k x at passes = absurd (none_some x at)
position_from-some {X} test n (y ∷ ys) zero x at passes =
    (n, ap (λ b. cond b (Some n) (position_from test (n + 1) ys)) (subst (λ z. test z ≡ true) (sym (some_same y x at)) passes))
position_from-some {X} test n (y ∷ ys) (suc k) x at passes =
    elim (test y) as (λ b. (i : ℕ) × (cond b (Some n) (position_from test (n + 1) ys) ≡ Some i)) [
      | true ↦ (n, refl)
      | false ↦ position_from-some test (n + 1) ys k x at passes
    ]

-- the interval in which a row lies has it
pub interval_of-has : (shape : Shape) (i : ℕ) (name : RowName) → interval_of shape name ≡ Some i → HasRow (intervals_of shape) i name
interval_of-has shape i name lies =
    let at = position_from-at (λ (b : Bounds). covers b name) 0 (intervals_of shape) i lies in
    let place : at.0 ≡ i = let is = at.2 in omega (arith, is) in
    subst (λ n. HasRow (intervals_of shape) n name) place (at.1, at.3, at.4)

-- a row lies in the interval that has it
pub has-interval_of : (shape : Shape) (i : ℕ) (name : RowName) → AreIntervals (intervals_of shape) → HasRow (intervals_of shape) i name
    → interval_of shape name ≡ Some i
has-interval_of shape i name are has =
    let some = position_from-some (λ (b : Bounds). covers b name) 0 (intervals_of shape) i has.0 has.1 has.2 in
    some.1 ∙ ap Some (one_interval (intervals_of shape) some.0 i name are (interval_of-has shape some.0 name some.1) has)

-- the bounds of an interval that has just got its number are its own
fresh-bounds : (found : Option Bounds) → option_map (λ (g : Given). g.bounds) (option_map fresh found) ≡ found
fresh-bounds None = refl
fresh-bounds (Some b) = refl

-- of the first division a number has the bounds of the interval of that number
pub bounds-first : (shape : Shape) (i : ℕ) → bounds_at (first_division shape).given i ≡ slice_get (intervals_of shape) i
bounds-first shape i =
    ap (option_map (λ (g : Given). g.bounds)) (slice_get-map fresh (intervals_of shape) i) ∙ fresh-bounds (slice_get (intervals_of shape) i)

-- of the first division as many numbers were given as there are intervals
pub count-first : (shape : Shape) → length (first_division shape).given ≡ length (intervals_of shape)
count-first shape = length-map (intervals_of shape) fresh

-- the intervals of a topology are intervals
pub are-intervals : (shape : Shape) → IsTopology shape → AreIntervals (intervals_of shape)
are-intervals shape rules =
    made.intervals_of (part_cuts_of shape) (part_cuts_of-numbered shape) (part_cuts_of-cuts shape rules)
    (intervals-few shape (part_cuts_of shape) rules refl)

-- how many parts have cuts that are told
pub length-part_cuts_of : (shape : Shape) → length (part_cuts_of shape) ≡ parts_of shape
length-part_cuts_of shape =
    length-map (range_with_len 0 (parts_of shape)) (λ (part : ℕ). record { part = part; cuts = cuts_of shape part })
    ∙ length-range_with_len 0 (parts_of shape)

-- each part that is there has an interval
pub part-has_interval : (shape : Shape) (part : ℕ) → part < parts_of shape → Any (λ (b : Bounds). b.part ≡ part) (intervals_of shape)
part-has_interval shape part there =
    let none_more : 0 + part ≡ part = omega arith in
    subst (λ n. Any (λ (b : Bounds). b.part ≡ n) (intervals_of shape)) none_more
    (made.has_part (part_cuts_of shape) 0 part (part_cuts_of-numbered shape) (omega (arith, there, length-part_cuts_of shape)))

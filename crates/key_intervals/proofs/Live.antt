-- The live interval that has a row, by its definition, and what it means that two intervals overlap.
use Rattle.std.proofs.Common.{◌≡◌, ◌+◌, ◌∙◌, ◌&&◌, ◌==◌, ℕ, zero, suc, List, [], ◌∷◌, Bool, true, false, cond, Some, arith, refl, sym, ap, subst, inl, inr}
use Rattle.std.specs.Prelude.{slice_get}
use Rattle.std.specs.List.{position_from}
use Rattle.std.specs.Ordering.{is_le}
use Rattle.std.proofs.lemmas.Bool.{and_from, and_parts, cases_Bool, eq-eqb, eqb-true}
use Rattle.list_lemmas.proofs.Lists.{none_some, some_same}
use Rattle.mw_types.specs.Orders.{key_cmp}
use Rattle.mw_types.specs.declared.identity.RowName.{RowName}
use Rattle.key_intervals.specs.declared.bounds.Bounds.{Bounds}
use Rattle.key_intervals.specs.declared.given.Given.{Given}
use Rattle.key_intervals.specs.Intervals.{covers, ends_after}
use Rattle.key_intervals.specs.Division.{fresh, has_live, live_of, overlaps, AreDivided, HasLive}
use Rattle.key_intervals.proofs.Beginnings.{above}
use Rattle.key_intervals.proofs.KeyOrder.{below_is_upto, ends_before, upto_itself}
use Rattle.key_intervals.proofs.Lookup.{begins_upto, goes_past, has_row, of_part}

-- what a search for a place finds passes at the place
pub position_from-at : {X : Type 0} (test : X → Bool) (n : ℕ) (xs : List X) (i : ℕ) → position_from test n xs ≡ Some i
    → (k : ℕ) × (x : X) × (i ≡ n + k) × (slice_get xs k ≡ Some x) × (test x ≡ true)
position_from-at test n [] i found = absurd (none_some i found)
position_from-at {X} test n (x ∷ xs) i found =
    elim (test x) as (λ b. test x ≡ b → cond b (Some n) (position_from test (n + 1) xs) ≡ Some i
    → (k : ℕ) × (y : X) × (i ≡ n + k) × (slice_get (x ∷ xs) k ≡ Some y) × (test y ≡ true)) [
      | true ↦ λ e f. let same : n ≡ i = some_same n i f in (0, x, omega (arith, same), refl, e)
      | false ↦ λ e f. let rest = position_from-at test (n + 1) xs i f in let at = rest.2 in
          (suc rest.0, rest.1, omega (arith, at), rest.3, rest.4)
    ] refl found

-- where an element passes, the search finds a place
pub position_from-some : {X : Type 0} (test : X → Bool) (n : ℕ) (xs : List X) (k : ℕ) (x : X) → slice_get xs k ≡ Some x → test x ≡ true
    → (i : ℕ) × (position_from test n xs ≡ Some i)
position_from-some test n [] k x at passes = absurd (none_some x at)
position_from-some {X} test n (y ∷ ys) zero x at passes =
    (n, ap (λ b. cond b (Some n) (position_from test (n + 1) ys)) (subst (λ z. test z ≡ true) (sym (some_same y x at)) passes))
position_from-some {X} test n (y ∷ ys) (suc k) x at passes =
    elim (test y) as (λ b. (i : ℕ) × (cond b (Some n) (position_from test (n + 1) ys) ≡ Some i)) [
      | true ↦ (n, refl)
      | false ↦ position_from-some test (n + 1) ys k x at passes
    ]

-- the number that is found is that of a live interval, which has the row
pub live_of-has : (given : List Given) (name : RowName) (i : ℕ) → live_of given name ≡ Some i → HasLive given i name
live_of-has given name i found =
    let at = position_from-at (has_live name) 0 given i found in
    let place : at.0 ≡ i = omega (arith, at.2) in
    let both = and_parts at.1.live (covers at.1.bounds name) at.4 in
    subst (λ n. HasLive given n name) place
    (at.1.bounds, at.3 ∙ ap (λ (l : Bool). Some (record at.1 { live = l })) both.0, both.1)

-- of intervals that are divided the live one that has the row is found
pub live_of-is : (parts : ℕ) (given : List Given) (name : RowName) (i : ℕ) → AreDivided parts given → HasLive given i name
    → live_of given name ≡ Some i
live_of-is parts given name i are has =
    let some = position_from-some (has_live name) 0 given i (fresh has.0) has.1 has.2 in
    some.1 ∙ ap Some (are.once name some.0 i (live_of-has given name some.0 some.1) has)

-- two intervals overlap where a row is in both
pub overlaps-from_row : (a b : Bounds) (name : RowName) → covers a name ≡ true → covers b name ≡ true → overlaps a b ≡ true
overlaps-from_row a b name one other =
    and_from ((a.part == b.part) && ends_after a.to b.from) (ends_after b.to a.from)
    (and_from (a.part == b.part) (ends_after a.to b.from) (eq-eqb a.part b.part (of_part a name one ∙ sym (of_part b name other)))
    (ends_before b.from name.key a.to (begins_upto b name other) (goes_past a name one)))
    (ends_before a.from name.key b.to (begins_upto a name one) (goes_past b name other))

-- and two that have keys overlap nowhere else: the row at which the later begins is in both
pub row-of_overlap : (a b : Bounds) → ends_after a.to a.from ≡ true → ends_after b.to b.from ≡ true → overlaps a b ≡ true
    → (name : RowName) × (covers a name ≡ true) × (covers b name ≡ true)
row-of_overlap a b one other over =
    let both = and_parts ((a.part == b.part) && ends_after a.to b.from) (ends_after b.to a.from) over in
    let first = and_parts (a.part == b.part) (ends_after a.to b.from) both.0 in
    let part : a.part ≡ b.part = eqb-true a.part b.part first.0 in
    elim (cases_Bool (is_le (key_cmp a.from b.from))) [
      | inl le ↦
          let name : RowName = record { part = b.part; key = b.from } in
          (name, has_row a name part le first.1, has_row b name refl (upto_itself b.from) other)
      | inr not ↦
          let name : RowName = record { part = a.part; key = a.from } in (
            name,
            has_row a name refl (upto_itself a.from) one,
            has_row b name (sym part) (below_is_upto b.from a.from (above a.from b.from not)) both.1,
          )
    ]

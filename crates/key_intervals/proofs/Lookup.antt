-- Of intervals that meet one at most has a row.
use Rattle.std.proofs.Common.{◌≡◌, ◌<◌, ◌≤◌, ◌+◌, ◌∙◌, ◌⊎◌, inl, inr, ℕ, List, [], ◌∷◌, Bool, true, false, Option, Some, None, length, get_or, arith, refl, sym, ap, subst, zero, suc, true≢false, ◌==◌, ◌&&◌}
use Rattle.std.specs.Prelude.{MatchOption, IfSome, slice_get}
use Rattle.std.proofs.lemmas.Option.{slice_get_within, get_or_from_slice_get}
use Rattle.std.proofs.lemmas.Bool.Decides.{nat_tests}
use Rattle.std.proofs.lemmas.Bool.{cases_lt, both_ways}
use Rattle.std.specs.declared.cmp.Ordering.{Ordering}
use Rattle.std.specs.declared.cmp.Ordering.TheVariants.{Less}
use Rattle.std.specs.Ordering.{is_le, nat_cmp, ordering_then}
use Rattle.mw_types.specs.Orders.{key_cmp}
use Rattle.mw_types.specs.declared.identity.RowName.{RowName}
use Rattle.mw_types.proofs.OrderLaws.{key_cmp-total}
use Rattle.key_intervals.specs.declared.bounds.Bounds.{Bounds}
use Rattle.key_intervals.specs.Intervals.{Meets, AreIntervals, HasRow, covers, ends_after}
use Rattle.key_intervals.proofs.Beginnings.{begins_by, begin_in_two, key_decides, after_part, turned_below}

-- the first interval begins with the empty key
first_from : (all : List Bounds) (d : Bounds) → IfSome (slice_get all 0) (λ (b : Bounds). b.from ≡ []) → 0 < length all
    → (get_or all 0 d).from ≡ []
first_from [] d f l = absurd (omega arith)
first_from (b ∷ bs) d f l = f

-- the next interval begins a part, or is of the same part
continues : (b next : Bounds) → Meets b next → (next.from ≡ []) ⊎ (next.part ≡ b.part)
continues b next = by_end b.to
  where
    by_end : (to : Option (List ℕ)) → MatchOption to ((next.part ≡ b.part + 1) × (next.from ≡ []))
        (λ end. (next.part ≡ b.part) × (next.from ≡ end) × (key_cmp b.from end ≡ Less)) → (next.from ≡ []) ⊎ (next.part ≡ b.part)
    by_end None m = inl m.1
    by_end (Some end) m = inr m.0

-- some interval at or before each one begins its part
pub first_of_part : (all : List Bounds) (d : Bounds) → AreIntervals all → (j : ℕ) → j < length all
    → (i : ℕ) × (i ≤ j) × ((get_or all i d).part ≡ (get_or all j d).part) × ((get_or all i d).from ≡ [])
first_of_part all d a zero l = (0, omega arith, refl, first_from all d a.first l)
first_of_part all d a (suc j) l =
    let low : j < length all = omega arith in
    let one : suc j ≡ j + 1 = omega arith in
    let inside : j + 1 < length all = omega arith in
    let p = first_of_part all d a j low in
    subst (λ k. (i : ℕ) × (i ≤ k) × ((get_or all i d).part ≡ (get_or all k d).part) × ((get_or all i d).from ≡ [])) (sym one)
    (elim (continues (get_or all j d) (get_or all (j + 1) d) (a.next j d inside)) [
      | inl e ↦ (j + 1, omega arith, refl, e)
      | inr e ↦ (p.0, omega (arith, p.1), p.2 ∙ sym e, p.3)
    ])

-- an interval that has a row begins by it
pub begins_by_row : (b : Bounds) (name : RowName) → covers b name ≡ true → begins_by name b ≡ true
begins_by_row b name h = by_parts b.part name.part (key_cmp b.from name.key) (ends_after b.to name.key) h
  where
    by_parts : (m n : ℕ) (o : Ordering) (e : Bool) → ((m == n) && is_le o && e) ≡ true → is_le (ordering_then (nat_cmp m n) o) ≡ true
    by_parts m n o e h = grind (arith, nat_tests)

-- an interval has a row of its part from its first key on and below its end
pub has_row : (b : Bounds) (name : RowName) → b.part ≡ name.part → is_le (key_cmp b.from name.key) ≡ true
    → ends_after b.to name.key ≡ true → covers b name ≡ true
has_row b name part from to = by_parts _ _ _ _ part from to
  where
    by_parts : (m n : ℕ) (l e : Bool) → m ≡ n → l ≡ true → e ≡ true → ((m == n) && l && e) ≡ true
    by_parts m n l e p q r = grind (arith, nat_tests)

-- an interval that has a row is of its part
pub of_part : (b : Bounds) (name : RowName) → covers b name ≡ true → b.part ≡ name.part
of_part b name h = first b.part name.part (is_le (key_cmp b.from name.key)) (ends_after b.to name.key) h
  where
    first : (m n : ℕ) (l e : Bool) → ((m == n) && l && e) ≡ true → m ≡ n
    first m n l e h = grind (arith, nat_tests)

-- begins by its key
pub begins_upto : (b : Bounds) (name : RowName) → covers b name ≡ true → is_le (key_cmp b.from name.key) ≡ true
begins_upto b name h = second (b.part == name.part) (is_le (key_cmp b.from name.key)) (ends_after b.to name.key) h
  where
    second : (t l e : Bool) → (t && l && e) ≡ true → l ≡ true
    second true true e h = refl
    second true false e h = absurd (true≢false (sym h))
    second false l e h = absurd (true≢false (sym h))

-- and goes on past it
pub goes_past : (b : Bounds) (name : RowName) → covers b name ≡ true → ends_after b.to name.key ≡ true
goes_past b name h = third (b.part == name.part) (is_le (key_cmp b.from name.key)) (ends_after b.to name.key) h
  where
    third : (t l e : Bool) → (t && l && e) ≡ true → e ≡ true
    third true true e h = h
    third true false e h = absurd (true≢false (sym h))
    third false l e h = absurd (true≢false (sym h))

-- where an interval has a row, the next one begins after it
begins_after : (b next : Bounds) (name : RowName) → Meets b next → covers b name ≡ true → begins_by name next ≡ false
begins_after b next name m h = by_end b.to m (of_part b name h) (goes_past b name h)
  where
    by_end : (to : Option (List ℕ)) → MatchOption to ((next.part ≡ b.part + 1) × (next.from ≡ []))
        (λ end. (next.part ≡ b.part) × (next.from ≡ end) × (key_cmp b.from end ≡ Less))
        → b.part ≡ name.part → ends_after to name.key ≡ true → begins_by name next ≡ false
    by_end None m p h = after_part next.part name.part _ (omega (arith, m.0, p))
    by_end (Some end) m p h =
        ap is_le (key_decides next.part name.part _ (m.0 ∙ p) ∙ ap (λ k. key_cmp k name.key) m.1 ∙ key_cmp-total.antisymm end name.key)
        ∙ turned_below _ h

-- of two intervals that have a row the one is not before the other
not_before : (all : List Bounds) (i j : ℕ) (name : RowName) → AreIntervals all → HasRow all i name → HasRow all j name → i < j → ⊥
not_before all i j name are one other less =
    let d = one.0 in
    let first : get_or all i d ≡ one.0 = get_or_from_slice_get all i one.0 d one.1 in
    let second : get_or all j d ≡ other.0 = get_or_from_slice_get all j other.0 d other.1 in
    let short : j < length all = slice_get_within all j other.0 other.1 in
    let near : i + 1 < length all = omega (arith, less, short) in
    let by : begins_by name (get_or all (i + 1) d) ≡ true =
    begin_in_two all name are.next (i + 1) j d (omega (arith, less)) short
    (subst (λ (b : Bounds). begins_by name b ≡ true) (sym second) (begins_by_row other.0 name other.2)) in
    both_ways (begins_by name (get_or all (i + 1) d))
    (begins_after (get_or all i d) (get_or all (i + 1) d) name (are.next i d near)
    (subst (λ (b : Bounds). covers b name ≡ true) (sym first) one.2)) by

-- one interval at most has a row
pub one_interval : (all : List Bounds) (i j : ℕ) (name : RowName) → AreIntervals all → HasRow all i name → HasRow all j name → i ≡ j
one_interval all i j name are one other = elim (cases_lt i j) [
  | inl less ↦ absurd (not_before all i j name are one other less)
  | inr le ↦ elim (cases_lt j i) [
    | inl less ↦ absurd (not_before all j i name are other one less)
    | inr ge ↦ omega (arith, le, ge)
  ]
]

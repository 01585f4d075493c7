-- The windows and held totals of a state stay within bounds: lemmas for the laws.
use Rattle.std.proofs.Common.{◌==◌, ◌<◌, ◌≤◌, ◌^◌, ◌-◌, not, ℕ, ℤ, List, [], ◌∷◌, ◌++◌, length, map, filter}
use Rattle.std.proofs.Common.{refl, subst, sym, arith, length-drop}
use Rattle.std.specs.List.Sorted.{IsStrictlySortedBy}
use Rattle.std.specs.Ordering.{nat_cmp}
use Rattle.std.proofs.lemmas.List.Elements.{All-filter}
use Rattle.std.proofs.lemmas.List.Kept.{IsStrictlySortedBy-filter}
use Rattle.mw_types.specs.declared.TheConstants.{MAX_STAMP}
use Rattle.mw_types.specs.declared.state.Window.{Window}
use Rattle.mw_types.specs.declared.state.HeldTotal.{HeldTotal}
use Rattle.mw_types.specs.Bounds.{AreWindows, AreHeld}
use Rattle.computations.specs.Handlers.{one_more, counted, held_with, known_with}
use Rattle.computations.specs.Entering.{All-entered, sorted-entered, map-filter, length-filter-le}

-- numbers in order stay so when one goes
sorted-others : {X : Type 0} (number : X → ℕ) (n : ℕ) (xs : List X) →
    IsStrictlySortedBy nat_cmp (map number xs) →
    IsStrictlySortedBy nat_cmp (map number (filter (λ x. not (number x == n)) xs))
sorted-others number n xs up =
    subst (IsStrictlySortedBy nat_cmp) (sym (map-filter number (λ m. not (m == n)) xs))
    (IsStrictlySortedBy-filter nat_cmp (λ m. not (m == n)) (map number xs) up)

-- windows stay within bounds when a record is counted, where they don't get too many
pub AreWindows-counted : (windows : List Window) (end : ℕ) → AreWindows windows → end ≤ MAX_STAMP →
    length (counted windows end) < 2 ^ 32 → AreWindows (counted windows end)
AreWindows-counted windows end within in_time few =
    let new : Window = record { end = end; count = 1 } in
    let change : Window → Window = λ w. record w { count = one_more w.count } in record {
      ascending = sorted-entered (λ w. w.end) new change (λ w. refl) windows within.ascending;
      ends = All-entered (λ w. w.end) new change (λ w. w.end ≤ MAX_STAMP) in_time (λ w le. le) windows
          within.ends;
      counts = All-entered (λ w. w.end) new change (λ w. w.count ≤ MAX_STAMP) (omega arith)
          (λ w le. omega arith) windows within.counts;
      few = few;
    }

-- windows stay within bounds when one goes
pub AreWindows-others : (windows : List Window) (end : ℕ) → AreWindows windows →
    AreWindows (filter (λ w. not (w.end == end)) windows)
AreWindows-others windows end within = record {
  ascending = sorted-others (λ w. w.end) end windows within.ascending;
  ends = All-filter (λ w. not (w.end == end)) (λ w. w.end ≤ MAX_STAMP) windows within.ends;
  counts = All-filter (λ w. not (w.end == end)) (λ w. w.count ≤ MAX_STAMP) windows within.counts;
  few = omega (arith, length-filter-le (λ (w : Window). not (w.end == end)) windows, within.few);
}

-- held totals stay within bounds when one more is held, where they don't get too many
pub AreHeld-held_with : (held : List HeldTotal) (stamp : ℕ) (value : ℤ) → AreHeld held → stamp ≤ MAX_STAMP →
    length (held_with held stamp value) < 2 ^ 32 → AreHeld (held_with held stamp value)
AreHeld-held_with held stamp value within in_time few = record {
  ascending = sorted-entered (λ h. h.stamp) _ _ (λ h. refl) held within.ascending;
  stamps = All-entered (λ h. h.stamp) _ _ (λ h. h.stamp ≤ MAX_STAMP) in_time (λ h le. le) held within.stamps;
  few = few;
}

-- held totals stay within bounds when one goes
pub AreHeld-others : (held : List HeldTotal) (stamp : ℕ) → AreHeld held →
    AreHeld (filter (λ h. not (h.stamp == stamp)) held)
AreHeld-others held stamp within = record {
  ascending = sorted-others (λ h. h.stamp) stamp held within.ascending;
  stamps = All-filter (λ h. not (h.stamp == stamp)) (λ h. h.stamp ≤ MAX_STAMP) held within.stamps;
  few = omega (arith, length-filter-le (λ (h : HeldTotal). not (h.stamp == stamp)) held, within.few);
}

-- no more totals are known than are compared
pub length-known_with : (last : ℕ) (known : List ℤ) (value : ℤ) → length (known_with last known value) ≤ last
length-known_with last known value =
    let all : List ℤ = known ++ value ∷ [] in omega (arith, length-drop (length all - last) all)

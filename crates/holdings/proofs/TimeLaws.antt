-- The first timer of a row that is not late is the oldest, since timers stand by time.
use Rattle.std.proofs.Common.{◌≡◌, ◌≤◌, ◌<◌, ◌+◌, ℕ, Bool, true, false, cond, List, [], ◌∷◌, length, map, drop, get_or, refl, sym, ◌∙◌, ap, subst, arith, drop-cons, add-one}
use Rattle.std.specs.Prelude.{filter, not, min}
use Rattle.std.specs.List.{AllByRecursion}
use Rattle.std.specs.List.Sorted.{IsStrictlySortedBy}
use Rattle.std.specs.Ordering.{MatchOrdering, nat_cmp, ordering_then}
use Rattle.std.specs.declared.cmp.Ordering.{Ordering}
use Rattle.std.specs.declared.cmp.Ordering.TheVariants.{Less, Equal, Greater}
use Rattle.std.proofs.lemmas.Cmp.{ranked}
use Rattle.mw_types.specs.declared.TheConstants.{END}
use Rattle.mw_types.specs.declared.timer.Timer.{Timer}
use Rattle.mw_types.specs.Orders.{timer_cmp}
use Rattle.run_history.specs.Watermarks.{least}

-- the oldest of timers that are not late, or the end
abbrev pub oldest_of : List Timer → ℕ
oldest_of timers = least (map (λ (t : Timer). t.time) (filter (λ (t : Timer). not t.late) timers))

-- the timers from a place on ascend, and their oldest is that of all
abbrev pub IsOldestFrom : List Timer → ℕ → Type 0
IsOldestFrom timers i = IsStrictlySortedBy timer_cmp (drop i timers) × (oldest_of (drop i timers) ≡ oldest_of timers)

-- what is before another in time, or in tag at one time, is not after it in time
upto-then : (a b : ℕ) (r o : Ordering) → r ≡ nat_cmp a b → ordering_then r o ≡ Less → a ≤ b
upto-then a b Less o is less = let before : MatchOrdering Less (a < b) (a ≡ b) (b < a) = ranked a b Less is in omega (arith, before)
upto-then a b Equal o is less = let same : MatchOrdering Equal (a < b) (a ≡ b) (b < a) = ranked a b Equal is in omega (arith, same)
upto-then a b Greater o is less = cc

-- a timer before all others is not after the oldest of them
upto-oldest : (t : Timer) (timers : List Timer) → t.time ≤ END → AllByRecursion (λ (u : Timer). timer_cmp t u ≡ Less) timers
    → t.time ≤ oldest_of timers
upto-oldest t [] end each = end
upto-oldest t (u ∷ timers) end each =
    by_late u.late (upto-then t.time u.time (nat_cmp t.time u.time) (nat_cmp t.tag u.tag) refl each.0) (upto-oldest t timers end each.1)
  where
    by_late : (b : Bool) → t.time ≤ u.time → t.time ≤ oldest_of timers → t.time ≤ least (map (λ (v : Timer). v.time)
        (cond (not b) (u ∷ filter (λ (v : Timer). not v.late) timers) (filter (λ (v : Timer). not v.late) timers)))
    by_late true first rest = rest
    by_late false first rest = omega (arith, first, rest)

-- the timers from a place on are the one there and those behind it
at-front : (timers : List Timer) (i : ℕ) (t d : Timer) → i < length timers → t ≡ get_or timers i d
    → drop i timers ≡ t ∷ drop (i + 1) timers
at-front timers i t d within at = drop-cons timers i d within ∙ (λ j. sym at j ∷ drop (sym (add-one i) j) timers)

-- a late timer is passed over
pub late-past : (timers : List Timer) (i : ℕ) (t d : Timer) → i < length timers → t ≡ get_or timers i d → t.late ≡ true
    → IsOldestFrom timers i → IsOldestFrom timers (i + 1)
unfolding IsStrictlySortedBy
late-past timers i t d within at late from =
    let front = at-front timers i t d within at in
    let sorted : IsStrictlySortedBy timer_cmp (t ∷ drop (i + 1) timers) = subst (IsStrictlySortedBy timer_cmp) front from.0 in
    let rest = drop (i + 1) timers in (
      sorted.1,
      ap (λ b. least (map (λ (v : Timer). v.time)
          (cond (not b) (t ∷ filter (λ (v : Timer). not v.late) rest) (filter (λ (v : Timer). not v.late) rest)))) (sym late)
          ∙ sym (ap oldest_of front) ∙ from.1,
    )

-- a timer that is not late is the oldest
pub first-oldest : (timers : List Timer) (i : ℕ) (t d : Timer) → i < length timers → t ≡ get_or timers i d → t.late ≡ false
    → t.time ≤ END → IsOldestFrom timers i → t.time ≡ oldest_of timers
unfolding IsStrictlySortedBy
first-oldest timers i t d within at late end from =
    let front = at-front timers i t d within at in
    let sorted : IsStrictlySortedBy timer_cmp (t ∷ drop (i + 1) timers) = subst (IsStrictlySortedBy timer_cmp) front from.0 in
    let rest = drop (i + 1) timers in
    let upto : t.time ≤ oldest_of rest = upto-oldest t rest end sorted.0 in
    let least_two : t.time ≡ min t.time (oldest_of rest) = omega (arith, upto) in
    least_two
    ∙ ap (λ b. least (map (λ (v : Timer). v.time)
    (cond (not b) (t ∷ filter (λ (v : Timer). not v.late) rest) (filter (λ (v : Timer). not v.late) rest)))) (sym late)
    ∙ sym (ap oldest_of front) ∙ from.1

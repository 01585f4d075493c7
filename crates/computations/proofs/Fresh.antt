-- A list with no window, one with a single window and one with no held total are within bounds.
use Rattle.std.proofs.Common.{◌≤◌, ◌∷◌, [], arith}
use Rattle.std.specs.List.Sorted.{IsStrictlySortedBy}
use Rattle.std.proofs.lemmas.List.Elements.{All-nil, All-cons}
use Rattle.mw_types.specs.declared.TheConstants.{MAX_STAMP}
use Rattle.mw_types.specs.declared.state.Window.{Window}
use Rattle.mw_types.specs.Bounds.{AreWindows, AreHeld}

-- no window
pub AreWindows-none : AreWindows []
unfolding IsStrictlySortedBy
AreWindows-none = record { ascending = tt; ends = All-nil _; counts = All-nil _; few = omega arith }

-- one window
pub AreWindows-one : (w : Window) → w.end ≤ MAX_STAMP → w.count ≤ MAX_STAMP → AreWindows (w ∷ [])
unfolding IsStrictlySortedBy
AreWindows-one w in_time few = record {
  ascending = (tt, tt);
  ends = All-cons (λ w. w.end ≤ MAX_STAMP) w [] in_time (All-nil _);
  counts = All-cons (λ w. w.count ≤ MAX_STAMP) w [] few (All-nil _);
  few = omega arith;
}

-- no held total
pub AreHeld-none : AreHeld []
unfolding IsStrictlySortedBy
AreHeld-none = record { ascending = tt; stamps = All-nil _; few = omega arith }

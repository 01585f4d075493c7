-- What the numbers and lists of a state may be. Own.
use Rattle.std.specs.Prelude.{ℕ, List, length, map, All, ◌<◌, ◌≤◌, ◌^◌}
use Rattle.std.specs.Str.{IsUtf8}
use Rattle.std.specs.Ordering.{nat_cmp}
use Rattle.std.specs.List.Sorted.{IsStrictlySortedBy}
use Rattle.mw_types.specs.declared.TheConstants.{MAX_STAMP}
use Rattle.mw_types.specs.declared.state.Window.{Window}
use Rattle.mw_types.specs.declared.state.HeldTotal.{HeldTotal}
use Rattle.mw_types.specs.declared.state.State.{State}
use Rattle.mw_types.specs.declared.state.State.TheVariants.{Injector, Count, Spike, Pass}

-- fewer than 2^32 open windows stand ascending by end, and no end and no count is above the greatest timestamp
pub record AreWindows (windows : List Window) : Type 0 where
  pub ascending : IsStrictlySortedBy nat_cmp (map (λ (w : Window). w.end) windows)
  pub ends : All (λ (w : Window). w.end ≤ MAX_STAMP) windows
  pub counts : All (λ (w : Window). w.count ≤ MAX_STAMP) windows
  pub few : length windows < 2 ^ 32

-- fewer than 2^32 held totals stand ascending by timestamp, none above the greatest
pub record AreHeld (held : List HeldTotal) : Type 0 where
  pub ascending : IsStrictlySortedBy nat_cmp (map (λ (h : HeldTotal). h.stamp) held)
  pub stamps : All (λ (h : HeldTotal). h.stamp ≤ MAX_STAMP) held
  pub few : length held < 2 ^ 32

-- a state that can be kept: its lists are in order and its numbers in range
abbrev pub IsWithin : State → Type 0
IsWithin (Injector cursor) = cursor < 2 ^ 32
IsWithin (Count late windows) = (late ≤ MAX_STAMP) × AreWindows windows
IsWithin (Spike late held known) = (late ≤ MAX_STAMP) × AreHeld held × (length known ≤ 64)
IsWithin (Pass late) = late ≤ MAX_STAMP

-- a key: at most 256 bytes of UTF-8
pub record IsKey (key : List ℕ) : Type 0 where
  pub short : length key ≤ 256
  pub text : IsUtf8 key

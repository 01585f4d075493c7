-- Reading a row from left to right. No public clause cites this module.
use Rattle.std.specs.Prelude.{ℕ, zero, suc, List, [], ◌∷◌, length, Option, Some, None, Bool, ◌&&◌, ◌==◌, nat_lt, nat_le, ◌^◌}
use Rattle.std.specs.List.{list_all}
use Rattle.std.specs.Int.{w64}
use Rattle.mw_types.specs.declared.state.State.{State}
use Rattle.mw_types.specs.declared.timer.Timer.{Timer}
use Rattle.mw_types.specs.declared.delivery.Delivery.{Delivery}
use Rattle.mw_types.specs.declared.identity.RecordId.{RecordId}
use Rattle.mw_types.specs.Orders.{id_cmp, timer_cmp}
use Rattle.row_parts.specs.Contents.{Contents, delivery_cmp}
use Rattle.row_parts.specs.Reading.{◌>>=◌, keep, number_at, state_at, ascending_at, timer_at, delivery_at, id_at}

-- whether each id is at or above the floor
abbrev pub kept_from : ℕ → List RecordId → Bool
kept_from floor = list_all (λ (id : RecordId). nat_le floor id.commit)

-- the lists of a row: its timers, what is pending, and the ids that it handled
unfoldable pub lists_at : List ℕ → Option ((List Timer × (List Delivery × List RecordId)) × List ℕ)
lists_at bytes = do
  timers ← ascending_at timer_cmp timer_at bytes
  pending ← ascending_at delivery_cmp delivery_at timers.1
  seen ← ascending_at id_cmp id_at pending.1
  Some ((timers.0, (pending.0, seen.0)), seen.1)

-- the lists of a row, as they are read
abbrev pub Lists : Type 0
Lists = List Timer × (List Delivery × List RecordId)

-- whether a row's numbers are within their bounds
abbrev pub are_within : ℕ → ℕ → Lists → Bool
are_within last floor lists = nat_lt last (2 ^ 32) && nat_le floor (2 ^ 32) && kept_from floor lists.1.1

-- the row of these fields
abbrev pub row_with : ℕ → ℕ → State → Lists → Contents
row_with last floor state lists =
    record { state = state; timers = lists.0; pending = lists.1.0; seen = lists.1.1; floor = floor; last = last }

-- what follows a row's numbers and its state
abbrev pub rest_at : ℕ → ℕ → State → List ℕ → Option (Contents × List ℕ)
rest_at last floor state bytes = do
  lists ← lists_at bytes
  keep (are_within last floor lists.0) (row_with last floor state lists.0, lists.1)

-- what follows the version
unfoldable pub fields_at : List ℕ → Option (Contents × List ℕ)
fields_at bytes = do
  last ← number_at w64 bytes
  floor ← number_at w64 last.1
  state ← state_at floor.1
  rest_at last.0 floor.0 state.0 state.1

-- a row
unfoldable pub row_at : List ℕ → Option (Contents × List ℕ)
row_at [] = None
row_at (zero ∷ rest) = None
row_at (suc zero ∷ rest) = fields_at rest
row_at (suc (suc version) ∷ rest) = None

-- a row, and nothing after it
unfoldable pub whole_row : List ℕ → Option Contents
whole_row bytes = do
  row ← row_at bytes
  keep (length row.1 == 0) row.0

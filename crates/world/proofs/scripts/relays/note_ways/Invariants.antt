use Rattle.std.proofs.Common.{◌≡◌, ◌+◌, ◌-◌, ◌≤◌, ◌++◌, length, map, take}
use Rattle.std.specs.Vec.{vec_capacity}
use Rattle.world.specs.scripts.Relaying.{way_length}
use Rattle.world.specs.scripts.WorldStates.{flight_of}
use Rattle.world.proofs.scripts.relays.note_ways.Given as goal

-- so many are noted, and there is room for the others
abbrev pub invariant-loop-place : goal.invariant-loop-place
invariant-loop-place l =
    (l.left.items ≡ l.initial.left.items ++ map (way_length l.routes) (flight_of (take l.place-index l.sent)))
    × (length l.left.items + (length l.sent - l.place-index) ≤ vec_capacity l.left)

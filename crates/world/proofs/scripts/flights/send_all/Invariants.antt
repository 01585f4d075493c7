use Rattle.std.proofs.Common.{◌+◌, ◌≤◌, length}
use Rattle.std.specs.Vec.{vec_capacity}
use Rattle.world.specs.scripts.WorkerCalls.{IsSending}
use Rattle.world.specs.scripts.WorldStates.{flight_of}
use Rattle.world.proofs.scripts.flights.send_all.Given as goal

-- what was sent so far is in flight, and there is room for the rest
abbrev pub invariant-loop : goal.invariant-loop
invariant-loop g l =
    IsSending l.initial.book l.initial.node (flight_of l.initial.flight.items) l.book l.node (flight_of l.flight.items)
    × (length l.flight.items + length l.node.outbox ≤ vec_capacity l.flight)

-- one message after another
abbrev pub decreases-loop : goal.decreases-loop
decreases-loop g l = length l.node.outbox

-- Scripts over a relay that were worked by hand. A weak pass stands between the injector and the count of the
-- first example, so what folding leaves is that example, and each record passes one relay.
use Rattle.std.specs.Prelude.{◌≡◌, true, [], ◌∷◌, ◌++◌, List, map, codes}
use Rattle.mw_types.specs.declared.entry.Entry.{Entry}
use Rattle.mw_types.specs.declared.entry.Entry.TheVariants as entries
use Rattle.mw_types.specs.declared.kind.Kind.TheVariants.{Pass}
use Rattle.topology.specs.Folding.{routes_in}
use Rattle.topology.specs.Samples.{clicks_shape, per_minute_shape}
use Rattle.topology.specs.Shapes.{Shape, ComputationShape}
use Rattle.topology.specs.declared.subscription.By.TheVariants.{Key}
use Rattle.worked_examples.specs.Drained.{id_of, injector_row}
use Rattle.worked_examples.specs.First.{first_case}
use Rattle.node.specs.declared.outcome.Outcome.{Outcome}
use Rattle.node.specs.declared.outcome.Outcome.TheVariants.{Claimed, Committed, Crashed, Duplicate, Lost, Nothing, Prepared, Queued, Sent}
use Rattle.plans.specs.declared.step.Step.{Step}
use Rattle.plans.specs.declared.step.Step.TheVariants.{Claim, Forget, Inject, Relay, Resend, Send, Take, Write}
use Rattle.world.specs.scripts.Acts.{answers, scripted_history}
use Rattle.world.specs.scripts.Scripts.{Worked, first_line, handled, steps_of}
use Rattle.world.specs.scripts.Worlds.{empty_world}

-- ---- the topology

-- the weak pass, from what the injector makes to a stream of its own
abbrev pub near_shape : ComputationShape
near_shape = record {
  name = codes "near";
  kind = Pass;
  reads = record { stream = codes "raw"; by = Key } ∷ [];
  stream = codes "mid";
  cuts = [];
  weak = true;
}

-- the count, of what the weak pass sends on
abbrev pub far_count : ComputationShape
far_count = record (per_minute_shape 60) { reads = record { stream = codes "mid"; by = Key } ∷ [] }

-- the topology as its file states it
abbrev pub relayed_shape : Shape
relayed_shape = record {
  injectors = clicks_shape ∷ [];
  computations = near_shape ∷ far_count ∷ [];
}

-- ---- what a script over it comes to

-- each step answers what was worked out for it
abbrev pub IsRelayed : Worked → Type 0
IsRelayed worked =
    answers first_case (empty_world (routes_in relayed_shape) first_case.topology) (steps_of worked)
    ≡ map (λ (w : Step × Outcome). w.1) worked

-- the history that a worked script writes
abbrev pub relayed_history : Worked → List Entry
relayed_history worked = scripted_history (routes_in relayed_shape) first_case (steps_of worked)

-- the record is handled once, and acknowledged
abbrev pub relayed_entries : List Entry
relayed_entries = first_line ++ handled 1 ∷ entries.Ack 0 injector_row (id_of 2) ∷ []

-- ---- the scripts

-- a record is not taken before it has passed the relay; then it is handled, and word of it is sent
abbrev pub over_relay : Worked
over_relay =
    (Claim 0 0, Claimed 0)
    ∷ (Claim 0 1, Claimed 1)
    ∷ (Inject 0 0, Committed 2)
    ∷ (Send 0, Sent 1)
    ∷ (Take 0 0, Nothing)
    ∷ (Relay 0 0, Sent 1)
    ∷ (Take 0 1, Prepared)
    ∷ (Write 0, Committed 3)
    ∷ (Send 0, Sent 1)
    ∷ []

-- and word of it passes the relay on its way back
abbrev pub there_and_back : Worked
there_and_back = over_relay ++ (Relay 0 2, Sent 1) ∷ (Take 0 3, Committed 4) ∷ []

-- the relay has forgotten when word comes, which is lost; the record is sent again, and is a duplicate, of
-- which word passes
abbrev pub forgotten : Worked
forgotten = over_relay
    ++ (Forget 0, Crashed)
    ∷ (Relay 0 2, Lost)
    ∷ (Resend 0, Queued 1)
    ∷ (Send 0, Sent 1)
    ∷ (Relay 0 3, Sent 1)
    ∷ (Take 0 4, Duplicate)
    ∷ (Send 0, Sent 1)
    ∷ (Relay 0 5, Sent 1)
    ∷ (Take 0 6, Committed 4)
    ∷ []

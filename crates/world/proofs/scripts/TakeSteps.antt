-- The step by which a worker takes a message, in a world.
use Rattle.std.proofs.Common.{◌≡◌, ◌∙◌, ◌≤◌, ◌^◌, ℕ, Bool, true, false, List, sym, ap, subst}
use Rattle.std.specs.Prelude.{◌||◌, Option, None, Some, if◌then◌else◌, nat_lt, slice_get, slice_set, unwrap_or}
use Rattle.std.specs.Option.{option_map_or}
use Rattle.std.proofs.lemmas.List.{append-nil, length-set}
use Rattle.mw_types.specs.declared.entry.Entry.{Entry}
use Rattle.topology.specs.Shapes.{Shape}
use Rattle.run_history.specs.Cases.{CaseShape}
use Rattle.list_lemmas.proofs.Lists.{some_same}
use Rattle.book.specs.Books.{BookView, LeaseView}
use Rattle.book.specs.OwnDesks.{own_view}
use Rattle.book.specs.declared.own_desk.NoNote.{NoNote}
use Rattle.outbox.specs.Messages.{IsOutgoing}
use Rattle.node.specs.Received.{outgoing_of}
use Rattle.node.specs.Workers.{NodeView, Worker, idle, worker_at}
use Rattle.node.specs.declared.message.Message.{Message}
use Rattle.node.specs.declared.outcome.Outcome.{Outcome}
use Rattle.node.specs.declared.outcome.Outcome.TheVariants as outcomes
use Rattle.outbox.specs.declared.outgoing.Outgoing.{Outgoing}
use Rattle.world.specs.scripts.Acts.{act, done, must_wait, nothing, stays, take_message, take_out, without_message}
use Rattle.world.specs.scripts.Worlds.{World, in_flight, lease_on, row_of_message, to_pass, worker_of}
use Rattle.plans.specs.declared.step.Step.TheVariants as steps
use Rattle.world.specs.scripts.Standing.{AreOnWay, IsWorld}
use Rattle.world.specs.scripts.Stepping.{HasActed, HasFaulted}
use Rattle.world.specs.scripts.WorkerCalls.{HasCalled, HasRested, TakesOn, answered_in_place, world_with}
use Rattle.world.specs.scripts.WorldStates.{WorldState, flight_of, noteless, world_of}
use Rattle.world.proofs.scripts.FlightLaws.{flight-at, flight-gone, flying-at, flying-gone}
use Rattle.world.proofs.scripts.OnWays.{on_way-gone}
use Rattle.world.proofs.scripts.WorldStands.{flying-more, more-grown, worker-at, world-after}
use Rattle.world.proofs.scripts.WorldSteps.{at-world, changed, rested-at, told-then, world-changed}

-- ---- a message that stays

-- a deed that changes nothing
pub stays-done : (shape : Shape) (world : World) (number : ℕ) (answer : Outcome)
    → (answer, world) ≡ done shape world (stays world number answer)
stays-done shape world number answer = ap (λ (h : List Entry). (answer, record world { history = h })) (sym (append-nil world.history))

-- no message is there
pub take-not : (case : CaseShape) (state : WorldState) (number message : ℕ)
    → unwrap_or (slice_get state.flight message) None ≡ None
    → (outcomes.Nothing, world_of state) ≡ act case (world_of state) (steps.Take number message)
take-not case state number message at =
    let there : in_flight (flight_of state.flight) message ≡ None = flight-at state.flight message ∙ ap noteless at in
    stays-done case.topology (world_of state) number outcomes.Nothing
    ∙ ap (λ o. done case.topology (world_of state) (option_map_or (take_message case.topology number message (world_of state)) o
    (nothing (world_of state) number))) (sym there)

-- it has relays to pass first
pub take-far : (case : CaseShape) (state : WorldState) (number message : ℕ) (found : Message NoNote)
    → unwrap_or (slice_get state.flight message) None ≡ Some found → nat_lt 0 (to_pass (world_of state) message) ≡ true
    → (outcomes.Nothing, world_of state) ≡ act case (world_of state) (steps.Take number message)
take-far case state number message found there far =
    stays-done case.topology (world_of state) number outcomes.Nothing
    ∙ ap (λ b. done case.topology (world_of state) (if b || must_wait (worker_of (world_of state) number) (outgoing_of found)
    then nothing (world_of state) number
    else option_map_or (take_out case.topology number message (world_of state) (outgoing_of found))
    (lease_on case.topology (worker_of (world_of state) number) (row_of_message (outgoing_of found)))
    (stays (world_of state) number outcomes.NotMine))) (sym far)
    ∙ ap (λ o. done case.topology (world_of state) (option_map_or (take_message case.topology number message (world_of state)) o
    (nothing (world_of state) number))) (sym (flight-at state.flight message ∙ ap noteless there))

-- a worker leaves it in flight
pub take-left : (case : CaseShape) (state : WorldState) (number message : ℕ) (node : NodeView) (found : Message NoNote) (answer : Outcome)
    → slice_get state.nodes number ≡ Some node → unwrap_or (slice_get state.flight message) None ≡ Some found
    → to_pass (world_of state) message ≡ 0 → answered_in_place case.topology (worker_at node) (outgoing_of found) ≡ Some answer
    → (answer, world_of state) ≡ act case (world_of state) (steps.Take number message)
take-left case state number message node found answer at there passed left =
    let flies : in_flight (flight_of state.flight) message ≡ Some (outgoing_of found) =
    flight-at state.flight message ∙ ap noteless there in
    by_tests (must_wait (worker_of (world_of state) number) (outgoing_of found))
    (lease_on case.topology (worker_of (world_of state) number) (row_of_message (outgoing_of found)))
    (ap (λ w. answered_in_place case.topology w (outgoing_of found)) is_worker ∙ left)
    ∙ ap (λ n. done case.topology (world_of state) (if nat_lt 0 n || must_wait (worker_of (world_of state) number) (outgoing_of found)
    then nothing (world_of state) number
    else option_map_or (take_out case.topology number message (world_of state) (outgoing_of found))
    (lease_on case.topology (worker_of (world_of state) number) (row_of_message (outgoing_of found)))
    (stays (world_of state) number outcomes.NotMine))) (sym passed)
    ∙ ap (λ o. done case.topology (world_of state) (option_map_or (take_message case.topology number message (world_of state)) o
    (nothing (world_of state) number))) (sym flies)
  where
    is_worker : worker_of (world_of state) number ≡ worker_at node
    is_worker = ap (λ (o : Option Worker). unwrap_or o idle) (worker-at state.nodes number node at)

    by_tests : (b : Bool) (o : Option LeaseView)
        → (if b then Some outcomes.Nothing else option_map_or (λ (lease : LeaseView). None) o (Some outcomes.NotMine)) ≡ Some answer
        → (answer, world_of state) ≡ done case.topology (world_of state) (if b then nothing (world_of state) number
        else option_map_or (take_out case.topology number message (world_of state) (outgoing_of found)) o
        (stays (world_of state) number outcomes.NotMine))
    by_tests true o e = ap (λ a. (a, world_of state)) (sym (some_same outcomes.Nothing answer e))
        ∙ stays-done case.topology (world_of state) number outcomes.Nothing
    by_tests false None e = ap (λ a. (a, world_of state)) (sym (some_same outcomes.NotMine answer e))
        ∙ stays-done case.topology (world_of state) number outcomes.NotMine
    by_tests false (Some lease) e = absurd cc

-- ---- a message that is taken

-- a message in flight may have been sent
pub found-sent : (state : WorldState) (message : ℕ) (found : Message NoNote) → IsWorld state
    → unwrap_or (slice_get state.flight message) None ≡ Some found
    → IsOutgoing state.book.case (own_view state.book) (outgoing_of found)
found-sent state message found is there =
    flying-at state.book (flight_of state.flight) message (outgoing_of found) is.flying (flight-at state.flight message ∙ ap noteless there)

-- it is taken as in the script
pub taken-at : (state : WorldState) (book : BookView) (number message : ℕ) (was node : NodeView) (found : Message NoNote) (outcome : Outcome)
    → IsWorld state → slice_get state.nodes number ≡ Some was → unwrap_or (slice_get state.flight message) None ≡ Some found
    → to_pass (world_of state) message ≡ 0 → ((n : ℕ) → TakesOn n (outgoing_of found) state.book was book node outcome)
    → HasActed (steps.Take number message) state (changed state book number node (slice_set state.flight message None)) outcome
taken-at state book number message was node found outcome is at there passed takes = told-then state.book.rows
    (λ each. ap (λ (w : World). (outcome, w)) (world-changed state book number node (slice_set state.flight message None)
    ∙ ap (λ (f : List (Option Outgoing)). record (world_with book number node (world_of state)) { flight = f })
    (flight-gone state.flight message)
    ∙ ap (λ (n : ℕ). record (world_with book n node (world_of state)) { flight = without_message message (flight_of state.flight) })
    (sym (is.numbered number was at)))
    ∙ each (world_of state) (at-world state number was is at)
    (record { flying = flight-at state.flight message ∙ ap noteless there; passed = passed })
    ∙ ap (λ (n : ℕ). act state.book.case (world_of state) (steps.Take n message)) (is.numbered number was at)) (takes message)

-- a fault leaves all but the message
pub taken-rested : (state : WorldState) (book : BookView) (number message : ℕ) (was node : NodeView)
    → slice_get state.nodes number ≡ Some was → HasRested state.book book was node
    → HasFaulted (steps.Take number message) state (changed state book number node (slice_set state.flight message None))
taken-rested state book number message was node at rested =
    rested-at state book number was node (slice_set state.flight message None) at rested
    ∙ ap (λ (f : List (Option Outgoing)). record (world_of state) { flight = f }) (flight-gone state.flight message)

-- and the world stands
pub taken-stands : (state : WorldState) (book : BookView) (number message : ℕ) (was node : NodeView) → IsWorld state
    → slice_get state.nodes number ≡ Some was → HasCalled state.book book was node
    → IsWorld (changed state book number node (slice_set state.flight message None))
taken-stands state book number message was node is at called =
    world-after state book number was node (slice_set state.flight message None) state.left is at called
    (flying-gone book state.flight message
    (flying-more state.book book (flight_of state.flight) (more-grown was.held state.book book called.grown) is.flying))
    (subst (λ n. n ≤ 2 ^ 32) (sym (length-set state.flight message None)) is.few)
    (subst (λ f. AreOnWay state.routes f state.left) (sym (flight-gone state.flight message))
    (on_way-gone state.routes (flight_of state.flight) state.left message is.on_way))

-- A world in which a worker has sent all that it had to send.
use Rattle.std.proofs.Common.{◌≡◌, ◌∙◌, ◌+◌, ◌≤◌, ◌^◌, ℕ, List, length, length-append, refl, sym, ap, arith}
use Rattle.std.specs.Prelude.{All, Option, Some, map, slice_get}
use Rattle.std.proofs.lemmas.List.{length-map}
use Rattle.list_lemmas.proofs.Told.{if-there}
use Rattle.topology.specs.Shapes.{parts_of}
use Rattle.run_history.specs.Cases.{CaseShape}
use Rattle.book.specs.Books.{BookView}
use Rattle.book.specs.declared.own_desk.NoNote.{NoNote}
use Rattle.node.specs.Workers.{NodeView, worker_at}
use Rattle.node.specs.declared.message.Message.{Message}
use Rattle.node.specs.declared.outcome.Outcome.{Outcome}
use Rattle.world.specs.scripts.Acts.{act}
use Rattle.world.specs.scripts.Relaying.{AreRouted, sent_left}
use Rattle.world.specs.scripts.Worlds.{World}
use Rattle.plans.specs.declared.step.Step.TheVariants as steps
use Rattle.world.specs.scripts.Standing.{IsFlying, IsWorld}
use Rattle.world.specs.scripts.Stepping.{HasActed}
use Rattle.world.specs.scripts.WorkerCalls.{HasCalled, HasSent, IsFlightOf, SendsOn, world_with}
use Rattle.world.specs.scripts.WorldStates.{WorldState, flight_of, noteless, world_of}
use Rattle.world.proofs.scripts.OnWays.{on_way-sent, on_way-sized, routed-flying, sent_left-none}
use Rattle.world.proofs.scripts.WorldStands.{world-after}
use Rattle.world.proofs.scripts.WorldSteps.{at-world, changed, rested-at, world-changed}

-- a world in which one worker has sent all that it had to send, and it is noted how far that has to go
abbrev pub sent_world : WorldState → BookView → ℕ → NodeView → List (Option (Message NoNote)) → WorldState
sent_world state book number node after = record (changed state book number node after) {
  left = sent_left state.routes (flight_of after) state.left;
}

-- the messages in flight of a world, beside which stands what they have to pass
pub flight-world : (state : WorldState) → IsWorld state → IsFlightOf (world_of state) (flight_of state.flight)
flight-world state is = record { same = refl; sized = on_way-sized state.routes (flight_of state.flight) state.left is.on_way }

-- no fewer are in flight then, and so many more at most
pub sent-most : (most : ℕ) (flight after : List (Option (Message NoNote))) → HasSent most (flight_of flight) (flight_of after)
    → (length flight ≤ length after) × (length after ≤ length flight + most)
sent-most most flight after sent =
    let behind = ap length sent.behind ∙ length-append (flight_of flight) (map Some sent.sent) in
    let new = length-map sent.sent Some in
    let before = length-map flight noteless in
    let now = length-map after noteless in
    let few = sent.few in
    (omega (arith, behind, new, before, now), omega (arith, behind, new, before, now, few))

-- it stands
pub sent-stands : (state : WorldState) (book : BookView) (number most : ℕ) (was node : NodeView) (after : List (Option (Message NoNote)))
    → IsWorld state → slice_get state.nodes number ≡ Some was → HasCalled state.book book was node
    → HasSent most (flight_of state.flight) (flight_of after) → All (IsFlying book) (flight_of after) → length after ≤ 2 ^ 32
    → IsWorld (sent_world state book number node after)
sent-stands state book number most was node after is at called sent flying few =
    world-after state book number was node after (sent_left state.routes (flight_of after) state.left) is at called flying few
    (on_way-sent state.routes most (flight_of state.flight) (flight_of after) state.left is.on_way sent)

-- the producers of what is in flight then have routes
pub sent-routed : (state : WorldState) (book : BookView) (was node : NodeView) (after : List (Option (Message NoNote))) → IsWorld state
    → HasCalled state.book book was node → All (IsFlying book) (flight_of after) → AreRouted state.routes (flight_of after)
sent-routed state book was node after is called flying = routed-flying state.routes book (flight_of after)
    (is.routed ∙ ap (λ (k : CaseShape). parts_of k.topology) (sym called.grown.moved.case)) flying

-- it did as in the script
pub sent-at : (state : WorldState) (book : BookView) (number : ℕ) (was node : NodeView) (after : List (Option (Message NoNote)))
    (outcome : Outcome) → IsWorld state → slice_get state.nodes number ≡ Some was
    → SendsOn state.book was (flight_of state.flight) book node (flight_of after) outcome
    → HasActed (steps.Send number) state (sent_world state book number node after) outcome
sent-at state book number was node after outcome is at sends = if-there state.book.rows
    (λ told. ap (λ (w : World). (outcome, noted w)) (world-changed state book number node after)
    ∙ ap (λ (n : ℕ). (outcome, noted (record (world_with book n node (world_of state)) { flight = flight_of after })))
    (sym (is.numbered number was at))
    ∙ sends (world_of state) (at-world state number was is at) (flight-world state is)
    ∙ ap (λ (n : ℕ). act state.book.case (world_of state) (steps.Send n)) (is.numbered number was at))
  where
    noted : World → World
    noted w = record w { left = sent_left state.routes (flight_of after) state.left }

-- nothing was done
pub unsent-at : (state : WorldState) (book : BookView) (number : ℕ) (was node : NodeView) (after : List (Option (Message NoNote)))
    → IsWorld state → slice_get state.nodes number ≡ Some was → book ≡ state.book → node ≡ was → after ≡ state.flight
    → world_of (sent_world state book number node after) ≡ world_of state
unsent-at state book number was node after is at same kept unchanged =
    ap noted (rested-at state book number was node after at (record {
      history = ap (λ (b : BookView). b.history) same;
      marks = ap (λ (b : BookView). b.marks) same;
      kept = ap worker_at kept;
    }))
    ∙ ap (λ (f : List (Option (Message NoNote))). let w : World = record (world_of state) {
      flight = flight_of f;
      left = sent_left state.routes (flight_of f) state.left;
    } in w) unchanged
    ∙ ap (λ (l : List ℕ). let w : World = record (world_of state) { left = l } in w)
    (sent_left-none state.routes (flight_of state.flight) state.left
    (on_way-sized state.routes (flight_of state.flight) state.left is.on_way))
  where
    noted : World → World
    noted w = record w { left = sent_left state.routes (flight_of after) state.left }

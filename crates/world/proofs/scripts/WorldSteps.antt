-- A world in which one worker has acted, as a scripted world.
use Rattle.std.proofs.Common.{◌≡◌, ◌∙◌, ◌<◌, ℕ, List, get_or, refl, sym, ap, subst, arith}
use Rattle.std.specs.Prelude.{Option, None, Some, IfSome, map, slice_get, slice_set}
use Rattle.std.proofs.lemmas.List.{map-set}
use Rattle.std.proofs.lemmas.List.Elements.{All-get_or}
use Rattle.std.proofs.lemmas.Option.{get_or_from_slice_get}
use Rattle.std.proofs.Math.Seq.{map-set_same}
use Rattle.mw_types.specs.declared.entry.Entry.{Entry}
use Rattle.computations.specs.Laws.{Doings}
use Rattle.run_history.specs.Cases.{CaseShape}
use Rattle.book.specs.Books.{BookView}
use Rattle.book.specs.declared.own_desk.NoNote.{NoNote}
use Rattle.node.specs.Workers.{NodeView, Worker, worker_at}
use Rattle.node.specs.Works.{IsWorkOf}
use Rattle.node.specs.declared.message.Message.{Message}
use Rattle.node.specs.declared.outcome.Outcome.{Outcome}
use Rattle.world.specs.scripts.Worlds.{World}
use Rattle.plans.specs.declared.step.Step.{Step}
use Rattle.world.specs.scripts.Standing.{FitsOwn, IsWorld}
use Rattle.world.specs.scripts.Stepping.{HasActed}
use Rattle.world.specs.scripts.WorkerCalls.{ActsOn, HasCalled, HasGoneOn, HasRested, IsWorldAt, world_with}
use Rattle.world.specs.scripts.WorldStates.{WorldState, flight_of, world_of}
use Rattle.world.proofs.scripts.WorldStands.{flying-more, more-grown, node-at, stepped-grown, worker-at, world-after}

-- a world in which the book, one worker and what is in flight are these
abbrev pub changed : WorldState → BookView → ℕ → NodeView → List (Option (Message NoNote)) → WorldState
changed state book number node flight = record state {
  book = book;
  nodes = slice_set state.nodes number node;
  flight = flight;
}

-- ---- the worker that acts

-- it stands under its number
pub at-index : (state : WorldState) (number : ℕ) (was : NodeView) → IsWorld state → number < 16
    → was ≡ get_or state.nodes number was → slice_get state.nodes number ≡ Some was
at-index state number was is less value = node-at state number was is less ∙ ap Some (sym value)

-- it fits
pub fits-index : (state : WorldState) (number : ℕ) (was : NodeView) → IsWorld state → number < 16
    → was ≡ get_or state.nodes number was → FitsOwn state.book was
fits-index state number was is less value =
    let all = is.sixteen in
    subst (FitsOwn state.book) (sym value) (All-get_or (FitsOwn state.book) state.nodes number was (omega (arith, all, less)) is.fit)

-- ---- the scripted world

-- the worker is one of the scripted world
pub at-world : (state : WorldState) (number : ℕ) (was : NodeView) → IsWorld state → slice_get state.nodes number ≡ Some was
    → IsWorldAt state.book was (world_of state)
at-world state number was is at = record {
  history = refl;
  marks = refl;
  there = subst (λ (n : ℕ). slice_get (map worker_at state.nodes) n ≡ Some (worker_at was)) (sym (is.numbered number was at))
      (worker-at state.nodes number was at);
}

-- the scripted world that is left
pub world-changed : (state : WorldState) (book : BookView) (number : ℕ) (node : NodeView) (flight : List (Option (Message NoNote)))
    → world_of (changed state book number node flight)
    ≡ record (world_with book number node (world_of state)) { flight = flight_of flight }
world-changed state book number node flight = ap (λ (ws : List Worker). record (world_of state) {
  history = book.history;
  marks = book.marks;
  workers = ws;
  flight = flight_of flight;
}) (map-set worker_at state.nodes number node)

-- a fact where something is told, by another
pub told-then : {X : Type 0} {P Q : Type 0} (o : Option X) → (P → Q) → IfSome o (λ _. P) → IfSome o (λ _. Q)
told-then None f is = tt
told-then (Some x) f is = f is

-- a worker did a step as it is done in the scripted world
pub acted-at : (step : Step) (state : WorldState) (book : BookView) (number : ℕ) (was node : NodeView) (outcome : Outcome)
    → IsWorld state → slice_get state.nodes number ≡ Some was → ActsOn step state.book was book node outcome
    → HasActed step state (changed state book number node state.flight) outcome
acted-at step state book number was node outcome is at acts = told-then state.book.rows
    (λ each. ap (λ (w : World). (outcome, w)) (world-changed state book number node state.flight
    ∙ ap (λ (n : ℕ). world_with book n node (world_of state)) (sym (is.numbered number was at)))
    ∙ each (world_of state) (at-world state number was is at)) acts

-- nothing was done, but for what is in flight
pub rested-at : (state : WorldState) (book : BookView) (number : ℕ) (was node : NodeView) (flight : List (Option (Message NoNote)))
    → slice_get state.nodes number ≡ Some was → HasRested state.book book was node
    → world_of (changed state book number node flight) ≡ record (world_of state) { flight = flight_of flight }
rested-at state book number was node flight at rested =
    ap (λ (h : List Entry). record (world_of state) {
      history = h;
      marks = book.marks;
      workers = map worker_at (slice_set state.nodes number node);
      flight = flight_of flight;
    }) rested.history
    ∙ ap (λ (m : List ℕ). record (world_of state) {
      history = state.book.history;
      marks = m;
      workers = map worker_at (slice_set state.nodes number node);
      flight = flight_of flight;
    }) rested.marks
    ∙ ap (λ (ws : List Worker). record (world_of state) {
      history = state.book.history;
      marks = state.book.marks;
      workers = ws;
      flight = flight_of flight;
    }) (map-set_same worker_at state.nodes number node was
    (rested.kept ∙ ap worker_at (sym (get_or_from_slice_get state.nodes number was was at))))

-- ---- the world that is left

-- the world goes on
pub gone-at : (state : WorldState) (book : BookView) (number : ℕ) (was node : NodeView) (flight : List (Option (Message NoNote)))
    → HasCalled state.book book was node → HasGoneOn state (changed state book number node flight)
gone-at state book number was node flight called = record {
  own = called.grown.own;
  stepped = stepped-grown was.held state.book book called.grown;
  routes = refl;
}

-- and stands, where what is in flight stayed
pub stands-at : (state : WorldState) (book : BookView) (number : ℕ) (was node : NodeView) → IsWorld state
    → slice_get state.nodes number ≡ Some was → HasCalled state.book book was node
    → IsWorld (changed state book number node state.flight)
stands-at state book number was node is at called =
    world-after state book number was node state.flight state.left is at called
    (flying-more state.book book (flight_of state.flight) (more-grown was.held state.book book called.grown) is.flying) is.few is.on_way

-- the computations are still those of the case
pub work-moved : {does : Doings} (old new : CaseShape) → new ≡ old → IsWorkOf old.topology does → IsWorkOf new.topology does
work-moved {does = does} old new same work = subst (λ (k : CaseShape). IsWorkOf k.topology does) (sym same) work

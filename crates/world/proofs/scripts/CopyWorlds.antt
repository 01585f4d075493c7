-- A world in which a message that is in flight came once more.
use Rattle.std.proofs.Common.{◌≡◌, ◌∙◌, ◌≤◌, ◌^◌, ℕ, List, length, sym, ap, subst}
use Rattle.std.specs.Prelude.{All, Option}
use Rattle.std.proofs.lemmas.List.{length-map}
use Rattle.list_lemmas.proofs.Told.{if-there}
use Rattle.book.specs.declared.own_desk.NoNote.{NoNote}
use Rattle.node.specs.declared.message.Message.{Message}
use Rattle.node.specs.declared.outcome.Outcome.{Outcome}
use Rattle.plans.specs.declared.step.Step.TheVariants as steps
use Rattle.world.specs.scripts.Relaying.{copied_left}
use Rattle.world.specs.scripts.Standing.{AreOnWay, IsFlying, IsWorld}
use Rattle.world.specs.scripts.Stepping.{HasActed}
use Rattle.world.specs.scripts.WorkerCalls.{CopiesOn, HasCopied}
use Rattle.world.specs.scripts.WorldStates.{WorldState, flight_of, noteless, world_of}
use Rattle.world.specs.scripts.Worlds.{World}
use Rattle.world.proofs.scripts.OnWays.{copied_left-none, on_way-copied, on_way-sized}
use Rattle.world.proofs.scripts.SendWorlds.{flight-world}
use Rattle.world.proofs.scripts.WorldStands.{flown-world}

-- this is in flight in a world, and it is noted of a copy how far it has to go
abbrev pub copied_world : WorldState → ℕ → List (Option (Message NoNote)) → WorldState
copied_world state message flight = record state {
  flight = flight;
  left = copied_left message (length flight) state.left;
}

-- what is noted, by how many messages are seen without notes
noted-is : (state : WorldState) (message : ℕ) (flight : List (Option (Message NoNote)))
    → copied_left message (length flight) state.left ≡ copied_left message (length (flight_of flight)) state.left
noted-is state message flight = ap (λ n. copied_left message n state.left) (sym (length-map flight noteless))

-- it stands
pub copied-stands : (state : WorldState) (message : ℕ) (flight : List (Option (Message NoNote))) → IsWorld state
    → HasCopied message (flight_of state.flight) (flight_of flight) → All (IsFlying state.book) (flight_of flight)
    → length flight ≤ 2 ^ 32 → IsWorld (copied_world state message flight)
copied-stands state message flight is copied flying few =
    flown-world state flight (copied_left message (length flight) state.left) is flying few
    (subst (AreOnWay state.routes (flight_of flight)) (sym (noted-is state message flight))
    (on_way-copied state.routes message (flight_of state.flight) (flight_of flight) state.left is.on_way copied))

-- it came as in the script
pub copied-at : (state : WorldState) (message : ℕ) (flight : List (Option (Message NoNote))) (outcome : Outcome) → IsWorld state
    → CopiesOn message (flight_of state.flight) (flight_of flight) outcome
    → HasActed (steps.Repeat message) state (copied_world state message flight) outcome
copied-at state message flight outcome is copies = if-there state.book.rows (λ told.
    ap (λ (l : List ℕ). let w : World = record (world_of state) { flight = flight_of flight; left = l } in (outcome, w))
    (noted-is state message flight)
    ∙ copies state.book.case (world_of state) (flight-world state is))

-- nothing came
pub uncopied-at : (state : WorldState) (message : ℕ) (flight : List (Option (Message NoNote))) → IsWorld state
    → flight ≡ state.flight → world_of (copied_world state message flight) ≡ world_of state
uncopied-at state message flight is same =
    ap (λ (f : List (Option (Message NoNote))). let w : World = record (world_of state) {
      flight = flight_of f;
      left = copied_left message (length f) state.left;
    } in w) same
    ∙ ap (λ (l : List ℕ). let w : World = record (world_of state) { left = l } in w)
    (copied_left-none message (length state.flight) state.left
    (on_way-sized state.routes (flight_of state.flight) state.left is.on_way ∙ length-map state.flight noteless))

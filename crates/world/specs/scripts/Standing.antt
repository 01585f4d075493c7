-- What always holds of a world in which steps are done for real. No public clause cites this module.
use Rattle.std.specs.Prelude.{◌≡◌, ◌≤◌, ◌^◌, ◌∷◌, [], ⊤, ℕ, List, length, slice_get, All, Option, Some, IfSome}
use Rattle.book.specs.Books.{BookView}
use Rattle.book.specs.OwnDesks.{own_view}
use Rattle.node.specs.Fits.{Fits}
use Rattle.outbox.specs.Messages.{IsOutgoing}
use Rattle.node.specs.Workers.{NodeView}
use Rattle.outbox.specs.declared.outgoing.Outgoing.{Outgoing}
use Rattle.world.specs.scripts.Keeping.{AreClaimed}
use Rattle.topology.specs.Folding.{RoutesView}
use Rattle.topology.specs.Shapes.{parts_of}
use Rattle.world.specs.scripts.Worlds.{relays_on}
use Rattle.world.specs.scripts.WorldStates.{WorldState, flight_of, world_of}

-- a worker fits the desk over its book
abbrev pub FitsOwn : BookView → NodeView → Type 0
FitsOwn book node = Fits book.case (own_view book) node

-- what is in flight under a number may have been sent, if anything is
abbrev pub IsFlying : BookView → Option Outgoing → Type 0
IsFlying book place = IfSome place (IsOutgoing book.case (own_view book))

-- no message has more relays to pass than stand on its way
abbrev pub AreOnWay : RoutesView → List (Option Outgoing) → List ℕ → Type 0
AreOnWay routes [] [] = ⊤
AreOnWay routes (place ∷ flight) (n ∷ left) =
    IfSome place (λ (message : Outgoing). n ≤ length (relays_on routes message)) × AreOnWay routes flight left
AreOnWay routes _ _ = ⊥

-- sixteen workers stand by their numbers and fit the desk over the book; each lease is of a claim of its own
-- worker, so that no two have one; each message in flight may have been sent, and the messages have numbers;
-- what they have to pass is on their ways; each weak computation has its relay, and each part its routes
pub record IsWorld (state : WorldState) : Type 0 where
  pub sixteen : length state.nodes ≡ 16
  pub numbered : (number : ℕ) (node : NodeView) → slice_get state.nodes number ≡ Some node →
      node.number ≡ number
  pub fit : All (FitsOwn state.book) state.nodes
  pub claimed : AreClaimed (world_of state)
  pub flying : All (IsFlying state.book) (flight_of state.flight)
  pub few : length state.flight ≤ 2 ^ 32
  pub on_way : AreOnWay state.routes (flight_of state.flight) state.left
  pub relays : length state.relays ≡ state.routes.weaks
  pub routed : length state.routes.by_part ≡ parts_of state.book.case.topology

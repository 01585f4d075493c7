-- What is seen of a world in which steps are done for real, and which scripted world it is. Own.
use Rattle.std.specs.Prelude.{◌≡◌, ℕ, List, map, Option}
use Rattle.std.specs.Option.{option_map}
use Rattle.mw_types.specs.declared.identity.RecordId.{RecordId}
use Rattle.topology.specs.Folding.{RoutesView, folded, routes_in}
use Rattle.topology.specs.Shapes.{Shape}
use Rattle.book.specs.Books.{BookView}
use Rattle.book.specs.declared.own_desk.NoNote.{NoNote}
use Rattle.node.specs.Received.{outgoing_of}
use Rattle.node.specs.Workers.{NodeView, worker_at}
use Rattle.node.specs.declared.message.Message.{Message}
use Rattle.outbox.specs.declared.outgoing.Outgoing.{Outgoing}
use Rattle.world.specs.declared.scripts.world.World.TheInside.{Inside}
use Rattle.world.specs.scripts.Worlds.{World}

-- the book, the workers by their numbers, and a place for each message that was sent or copied, by its
-- number: the message with its note while it is in flight, and nothing once it is gone. Beside each place
-- stands how many relays the message has still to pass. And what each relay holds, and the routes of records
pub record WorldState : Type 0 where
  pub book : BookView
  pub nodes : List NodeView
  pub flight : List (Option (Message NoNote))
  pub left : List ℕ
  pub relays : List (List RecordId)
  pub routes : RoutesView

-- the state of a world with these fields
abbrev pub state_in : {K C : Type 0} → Inside K C → WorldState
state_in w = record {
  book = w.book;
  nodes = w.nodes.items;
  flight = w.flight.items;
  left = w.left.items;
  relays = w.relays.items;
  routes = w.routes;
}

-- what is in flight under a number without its note, if anything is
abbrev pub noteless : Option (Message NoNote) → Option Outgoing
noteless place = option_map (λ (message : Message NoNote). outgoing_of message) place

-- the messages in flight without their notes
abbrev pub flight_of : List (Option (Message NoNote)) → List (Option Outgoing)
flight_of flight = map noteless flight

-- the scripted world that it is: the rows that its workers have cached, and the notes, are left out
abbrev pub world_of : WorldState → World
world_of state = record {
  history = state.book.history;
  marks = state.book.marks;
  workers = map worker_at state.nodes;
  flight = flight_of state.flight;
  left = state.left;
  relays = state.relays;
  routes = state.routes;
}

-- a topology and routes are what folding leaves of one topology
pub record IsFolding (shape : Shape) (routes : RoutesView) : Type 0 where
  pub file : Shape
  pub left : shape ≡ folded file
  pub ways : routes ≡ routes_in file

-- What one worker does to its book, and to a scripted world of which it is a worker. No public clause cites
-- this module.
use Rattle.std.specs.Prelude.{◌≡◌, ◌≤◌, ◌⊎◌, ◌++◌, ◌∷◌, [], ℕ, ⊤, if◌then◌else◌, List, Option, None, Some, IfSome, All, length, map, replicate, slice_get, slice_set, take}
use Rattle.std.specs.Option.{option_map_or}
use Rattle.mw_types.specs.declared.entry.Entry.{Entry}
use Rattle.mw_types.specs.declared.entry.Entry.TheVariants as entries
use Rattle.topology.specs.Shapes.{Shape}
use Rattle.run_history.specs.Cases.{CaseShape}
use Rattle.book.specs.Books.{BookView, LeaseView}
use Rattle.book.specs.Desks.{DeskView, HasLooked, IsSound}
use Rattle.book.specs.OwnDesks.{own_view}
use Rattle.node.specs.Answers.{HasGrown, HasKept}
use Rattle.node.specs.Fits.{Fits}
use Rattle.node.specs.Workers.{IsHandle, NodeView, WorkView, Worker, idle, leases_of, worker_at}
use Rattle.node.specs.declared.outcome.NodeFault.{NodeFault}
use Rattle.node.specs.declared.outcome.NodeFault.TheVariants.{HistoryFull}
use Rattle.node.specs.declared.outcome.Outcome.{Outcome}
use Rattle.node.specs.declared.outcome.Outcome.TheVariants as outcomes
use Rattle.outbox.specs.declared.outgoing.Outgoing.{Outgoing}
use Rattle.world.specs.scripts.Acts.{act, must_wait, without_message}
use Rattle.world.specs.scripts.Worlds.{World, in_flight, lease_on, row_of_message, to_pass}
use Rattle.plans.specs.declared.step.Step.{Step}
use Rattle.plans.specs.declared.step.Step.TheVariants as steps
use Rattle.world.specs.scripts.Relaying.{copied_left, sent_left}
use Rattle.world.specs.scripts.Standing.{FitsOwn}
use Rattle.world.specs.scripts.Stepping.{AppendsOne, WouldAppend}
use Rattle.world.specs.drains.Turns.{HasStepped}
use Rattle.world.specs.scripts.WorldStates.{WorldState}

-- ---- over every keeper

-- each lease that a worker has then it had before, or it is of a claim of its own that came since
abbrev pub HasLeases : BookView → NodeView → NodeView → Type 0
HasLeases new was node = (interval seq : ℕ) → leases_of node.held interval ≡ Some seq →
    (leases_of was.held interval ≡ Some seq)
    ⊎ (slice_get new.history seq ≡ Some (entries.Claim was.number interval))

-- a worker has called its desk: the history has grown by its own entry, if by one, and the worker fits again
pub record HasCalled (old new : BookView) (was node : NodeView) : Type 0 where
  pub grown : HasGrown was.held (own_view old) (own_view new)
  pub leases : HasLeases new was node
  pub fits : FitsOwn new node
  pub number : node.number ≡ was.number
  -- the desk over the book is sound before and after
  pub was_sound : IsSound (own_view old)
  pub sound : IsSound (own_view new)

-- a world goes on: its history has grown by one entry at most, its book keeps all else but marks, rows and
-- counts, faults never fall, and records have the same routes
pub record HasGoneOn (old new : WorldState) : Type 0 where
  pub own : Option Entry
  pub stepped : HasStepped old.book new.book own
  pub routes : new.routes ≡ old.routes

-- nothing was done: the history, the marks and the worker are as they were
pub record HasRested (old new : BookView) (was node : NodeView) : Type 0 where
  pub history : new.history ≡ old.history
  pub marks : new.marks ≡ old.marks
  pub kept : HasKept was node

-- ---- where a contract can see the keeper's rows

-- a scripted world has the history and the marks of a book, and this worker under its number
pub record IsWorldAt (book : BookView) (was : NodeView) (world : World) : Type 0 where
  pub history : world.history ≡ book.history
  pub marks : world.marks ≡ book.marks
  pub there : slice_get world.workers was.number ≡ Some (worker_at was)

-- a scripted world with the history and the marks of a book, and with this worker under a number
abbrev pub world_with : BookView → ℕ → NodeView → World → World
world_with book number node world = record world {
  history = book.history;
  marks = book.marks;
  workers = slice_set world.workers number (worker_at node);
}

-- a worker did a step as it is done in each scripted world of which it is a worker
abbrev pub ActsOn : Step → BookView → NodeView → BookView → NodeView → Outcome → Type 0
ActsOn step old was new node outcome = IfSome old.rows (λ _. (world : World) → IsWorldAt old was world →
    (outcome, world_with new was.number node world) ≡ act old.case world step)

-- a message is in flight in a scripted world under this number, and has passed all relays on its way
pub record HasArrived (world : World) (message : ℕ) (taken : Outgoing) : Type 0 where
  pub flying : in_flight world.flight message ≡ Some taken
  pub passed : to_pass world message ≡ 0

-- a worker took a message as it is taken in each scripted world of which it is a worker, and to which it has
-- come under this number
abbrev pub TakesOn : ℕ → Outgoing → BookView → NodeView → BookView → NodeView → Outcome → Type 0
TakesOn message taken old was new node outcome =
    IfSome old.rows (λ _. (world : World) → IsWorldAt old was world → HasArrived world message taken →
    (outcome, record (world_with new was.number node world) { flight = without_message message world.flight })
    ≡ act old.case world (steps.Take was.number message))

-- this is in flight in a scripted world, where each message has a number of relays to pass
pub record IsFlightOf (world : World) (flight : List (Option Outgoing)) : Type 0 where
  pub same : world.flight ≡ flight
  pub sized : length world.left ≡ length flight

-- a worker sent all that it had to send as it does in each scripted world of which it is a worker, and where
-- this is in flight
abbrev pub SendsOn : BookView → NodeView → List (Option Outgoing) → BookView → NodeView →
    List (Option Outgoing) → Outcome → Type 0
SendsOn old was flight new node after outcome =
    (world : World) → IsWorldAt old was world → IsFlightOf world flight → (
      outcome,
      record (world_with new was.number node world) {
        flight = after;
        left = sent_left world.routes after world.left;
      },
    ) ≡ act old.case world (steps.Send was.number)

-- a message was copied as it is in each scripted world where this is in flight
abbrev pub CopiesOn : ℕ → List (Option Outgoing) → List (Option Outgoing) → Outcome → Type 0
CopiesOn message flight after outcome = (case : CaseShape) (world : World) → IsFlightOf world flight →
    (outcome, record world { flight = after; left = copied_left message (length after) world.left })
    ≡ act case world (steps.Repeat message)

-- a step changed what is in flight, and nothing else, as it does in each scripted world where this is in
-- flight
abbrev pub FliesOn : Step → List (Option Outgoing) → List (Option Outgoing) → Outcome → Type 0
FliesOn step flight after outcome = (case : CaseShape) (world : World) → world.flight ≡ flight →
    (outcome, record world { flight = after }) ≡ act case world step

-- a worker's call fails since the history is full only where its step would have appended an entry, in each
-- scripted world of which it is a worker
abbrev pub IsFullOn : Step → BookView → NodeView → NodeFault → Type 0
IsFullOn step old was why = why ≡ HistoryFull → IfSome old.rows (λ _. (world : World) →
    IsWorldAt old was world → AppendsOne old.case world step)

-- so where it took a message that has come under this number
abbrev pub IsFullTaking : ℕ → Outgoing → BookView → NodeView → NodeFault → Type 0
IsFullTaking message taken old was why = why ≡ HistoryFull → IfSome old.rows (λ _. (world : World) →
    IsWorldAt old was world → HasArrived world message taken →
    AppendsOne old.case world (steps.Take was.number message))

-- a step of a world fails since the history is full only where it would have appended an entry
abbrev pub IsFullStep : Step → WorldState → NodeFault → Type 0
IsFullStep step old why = why ≡ HistoryFull → WouldAppend step old

-- a step is one that this worker does without a message
abbrev pub IsAlone : ℕ → Step → Type 0
IsAlone number (steps.Claim worker interval) = worker ≡ number
IsAlone number (steps.Inject worker part) = worker ≡ number
IsAlone number (steps.Write worker) = worker ≡ number
IsAlone number (steps.Fire worker part) = worker ≡ number
IsAlone number (steps.Report worker interval) = worker ≡ number
IsAlone number (steps.Resend worker) = worker ≡ number
IsAlone number (steps.Purge worker interval) = worker ≡ number
IsAlone number (steps.Crash worker) = worker ≡ number
IsAlone number _ = ⊥

-- a step is of messages: one is sent, taken, copied, lost or passes a relay, or a relay forgets them
abbrev pub IsOfMessages : Step → Type 0
IsOfMessages (steps.Send worker) = ⊤
IsOfMessages (steps.Take worker message) = ⊤
IsOfMessages (steps.Repeat message) = ⊤
IsOfMessages (steps.Lose message) = ⊤
IsOfMessages (steps.Relay relay message) = ⊤
IsOfMessages (steps.Forget relay) = ⊤
IsOfMessages _ = ⊥

-- what a worker has prepared, if anything, is a record that was handled
abbrev pub IsReady : NodeView → Type 0
IsReady node = IfSome node.prepared (λ (work : WorkView). IsHandle work.proposal)

-- what a worker answers that leaves a message in flight, if it does: it has to wait while another record is
-- prepared, or the message is for a row that it lacks
abbrev pub answered_in_place : Shape → Worker → Outgoing → Option Outcome
answered_in_place shape worker taken = if must_wait worker taken then Some outcomes.Nothing else
    option_map_or (λ (lease : LeaseView). None) (lease_on shape worker (row_of_message taken))
    (Some outcomes.NotMine)

-- messages came into flight behind those that were there, and so many at most
pub record HasSent (most : ℕ) (flight after : List (Option Outgoing)) : Type 0 where
  pub sent : List Outgoing
  pub behind : after ≡ flight ++ map Some sent
  pub few : length sent ≤ most

-- a message that is in flight came once more behind those that were there, or all stayed
abbrev pub HasCopied : ℕ → List (Option Outgoing) → List (Option Outgoing) → Type 0
HasCopied message flight after = (after ≡ flight)
    ⊎ ((copied : Outgoing) × (in_flight flight message ≡ Some copied) × (after ≡ flight ++ Some copied ∷ []))

-- a worker moves what it has to send into flight: this is left of it, and that is in flight
pub record IsSending (old : BookView) (was : NodeView) (flight : List (Option Outgoing)) (book : BookView)
    (node : NodeView) (after : List (Option Outgoing)) : Type 0 where
  pub looked : HasLooked (own_view old) (own_view book)
  pub marks : book.marks ≡ old.marks
  pub fits : FitsOwn book node
  pub rest : node ≡ record was { outbox = node.outbox }
  pub sent : after ++ map Some node.outbox ≡ flight ++ map Some was.outbox

-- ---- workers that crash

-- sixteen workers stand by their numbers, and so many of them, from the first on, are new
pub record AreNewTo (count : ℕ) (nodes : List NodeView) : Type 0 where
  pub all : length nodes ≡ 16
  pub numbered : (number : ℕ) (node : NodeView) → slice_get nodes number ≡ Some node → node.number ≡ number
  pub have_nothing : map worker_at (take count nodes) ≡ replicate count idle
  pub fit : (case : CaseShape) (desk : DeskView) → desk.case ≡ case → All (Fits case desk) (take count nodes)

-- What the functions of relays speak of. No public clause cites this module.
use Rattle.std.specs.Prelude.{◌≡◌, ◌-◌, ◌<◌, ◌++◌, ◌∷◌, [], ℕ, Bool, true, false, if◌then◌else◌, List, All, Option, IfSome, drop, length, map, nat_lt, slice_get, unwrap_or}
use Rattle.std.specs.Option.{option_map_or}
use Rattle.mw_types.specs.declared.identity.RecordId.{RecordId}
use Rattle.topology.specs.Folding.{RoutesView}
use Rattle.run_history.specs.Cases.{CaseShape}
use Rattle.book.specs.declared.own_desk.NoNote.{NoNote}
use Rattle.node.specs.declared.message.Message.{Message}
use Rattle.node.specs.declared.outcome.Outcome.{Outcome}
use Rattle.node.specs.declared.outcome.Outcome.TheVariants as outcomes
use Rattle.outbox.specs.declared.outgoing.Outgoing.{Outgoing}
use Rattle.outbox.specs.declared.outgoing.Outgoing.TheVariants as outgoing
use Rattle.weak_relay.specs.Relays.{holds, without_id}
use Rattle.plans.specs.declared.step.Step.TheVariants as steps
use Rattle.world.specs.scripts.Acts.{act, has_numbers, without_message}
use Rattle.world.specs.scripts.Worlds.{World, in_flight, relays_on}
use Rattle.world.specs.scripts.WorldStates.{flight_of}

-- ---- the ways of messages

-- the producer of a message's record has routes
abbrev pub IsRouted : RoutesView → Outgoing → Type 0
IsRouted routes (outgoing.Deliver delivery sender) = sender.part < length routes.by_part
IsRouted routes (outgoing.Ack to id) = to.part < length routes.by_part

-- so it is of each message in flight
abbrev pub AreRouted : RoutesView → List (Option Outgoing) → Type 0
AreRouted routes flight = All (λ (place : Option Outgoing). IfSome place (IsRouted routes)) flight

-- how many relays are on the way of what is in flight under a number, if anything is
abbrev pub way_length : RoutesView → Option Outgoing → ℕ
way_length routes place = option_map_or (λ (message : Outgoing). length (relays_on routes message)) place 0

-- what messages have to pass once those that came into flight are noted
abbrev pub sent_left : RoutesView → List (Option Outgoing) → List ℕ → List ℕ
sent_left routes flight left = left ++ map (way_length routes) (drop (length left) flight)

-- what messages have to pass once a copy is noted, if one came into flight of so many
abbrev pub copied_left : ℕ → ℕ → List ℕ → List ℕ
copied_left message count left = if nat_lt (length left) count
    then left ++ unwrap_or (slice_get left message) 0 ∷ []
    else left

-- ---- a message that passes a relay

-- the id of a message's record, and whether the message is word of it
abbrev pub told_by : Outgoing → RecordId × Bool
told_by (outgoing.Deliver delivery sender) = (delivery.id, false)
told_by (outgoing.Ack to id) = (id, true)

-- the messages in flight, what they have to pass, and the ids that one relay holds
pub record Passing : Type 0 where
  pub flight : List (Option Outgoing)
  pub left : List ℕ
  pub held : List RecordId

-- so it is seen without notes
abbrev pub passing_of : List (Option (Message NoNote)) → List ℕ → List RecordId → Passing
passing_of flight left held = record { flight = flight_of flight; left = left; held = held }

-- a message passes a relay, which holds these ids then, if there is a number for it
abbrev pub passed_in : ℕ → List RecordId → Passing → Outcome × Passing
passed_in message held was = if has_numbers was.flight 1
    then (
      outcomes.Sent 1,
      record {
        flight = without_message message was.flight ++ in_flight was.flight message ∷ [];
        left = was.left ++ (unwrap_or (slice_get was.left message) 0 - 1) ∷ [];
        held = held;
      },
    )
    else (outcomes.Nothing, was)

-- word of a record passes a relay that holds the record's id, and else is lost
abbrev pub word_in : ℕ → RecordId → Passing → Outcome × Passing
word_in message id was = if holds was.held id
    then passed_in message (without_id id was.held) was
    else (outcomes.Lost, record was { flight = without_message message was.flight })

-- a scripted world has these routes, these messages in flight with what they have to pass, and relays that
-- hold these ids
pub record AreRelaysOf (ways : RoutesView) (messages : List (Option Outgoing)) (numbers : List ℕ)
    (holding : List (List RecordId)) (world : World) : Type 0 where
  pub routes : world.routes ≡ ways
  pub flight : world.flight ≡ messages
  pub left : world.left ≡ numbers
  pub relays : world.relays ≡ holding

-- a message came to a relay as it does in each scripted world where this is in flight, and relays hold this
abbrev pub HasRelayed : ℕ → ℕ → RoutesView → List (Option Outgoing) → List ℕ → List (List RecordId) →
    List (Option Outgoing) → List ℕ → List (List RecordId) → Outcome → Type 0
HasRelayed relay message routes flight left relays after fewer held outcome =
    (case : CaseShape) (world : World) → AreRelaysOf routes flight left relays world →
    (outcome, record world { flight = after; left = fewer; relays = held })
    ≡ act case world (steps.Relay relay message)

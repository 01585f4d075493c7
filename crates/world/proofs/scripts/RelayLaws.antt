-- A message that comes to a relay, as the script does it.
use Rattle.std.proofs.Common.{◌≡◌, ◌∙◌, ◌+◌, ◌-◌, ◌≤◌, ◌^◌, ◌++◌, ◌∷◌, ℕ, Bool, true, false, List, [], length, refl, sym, ap, subst, length-append}
use Rattle.std.specs.Prelude.{Option, None, Some, All, IfOk, OnErr, Result, Ok, Err, if◌then◌else◌, nat_le, slice_get, slice_set, unwrap_or}
use Rattle.std.specs.Option.{option_map_or}
use Rattle.std.proofs.lemmas.Bool.{leb-true}
use Rattle.std.proofs.lemmas.List.{length-map, length-set, map-append, set-get_or}
use Rattle.std.proofs.lemmas.List.Elements.{All-push, All-set}
use Rattle.std.proofs.lemmas.Option.{unwrap_or-slice_get}
use Rattle.mw_types.specs.declared.identity.RecordId.{RecordId}
use Rattle.mw_types.specs.declared.identity.RowName.{RowName}
use Rattle.topology.specs.Folding.{RoutesView}
use Rattle.run_history.specs.Cases.{CaseShape}
use Rattle.book.specs.Books.{BookView}
use Rattle.book.specs.declared.own_desk.NoNote.{NoNote}
use Rattle.node.specs.declared.message.Message.{Message}
use Rattle.node.specs.declared.outcome.NodeFault.{NodeFault}
use Rattle.node.specs.declared.outcome.Outcome.{Outcome}
use Rattle.node.specs.declared.outcome.Outcome.TheVariants as outcomes
use Rattle.outbox.specs.declared.outgoing.Outgoing.{Outgoing}
use Rattle.outbox.specs.declared.outgoing.Outgoing.TheVariants as outgoing
use Rattle.weak_relay.specs.Relays.{holds, with_id, without_id}
use Rattle.plans.specs.declared.step.Step.TheVariants as steps
use Rattle.world.specs.scripts.Acts.{Acted, Deed, act, done, has_numbers, lose_message, nothing, pass_on, passed_on, relay, relay_message, relay_next, stays, without_message}
use Rattle.world.specs.scripts.Relaying.{AreRelaysOf, HasRelayed, Passing, passed_in, passing_of, told_by, word_in}
use Rattle.world.specs.scripts.Standing.{AreOnWay, IsFlying, IsWorld}
use Rattle.world.specs.scripts.WorldStates.{WorldState, flight_of, noteless, world_of}
use Rattle.world.specs.scripts.Worlds.{World, held_by, in_flight, is_next, relays_on, to_pass}
use Rattle.world.proofs.scripts.FlightLaws.{changes-done, flight-at, flight-gone, flying-at, one-number}
use Rattle.world.proofs.scripts.OnWays.{on_way-gone, on_way-passed}

-- ---- a deed of a relay, by what it comes to

-- what holds where nothing is done, where a message passes, and where one is lost, holds of each deed of a relay
pub relay-deed : (P : Deed → Type 0) (number message : ℕ) (world : World) → P (nothing world 0)
    → ((m : Outgoing) (held : List RecordId) → in_flight world.flight message ≡ Some m → has_numbers world.flight 1 ≡ true
    → P (passed_on number message world m held))
    → ((m : Outgoing) → in_flight world.flight message ≡ Some m → P (lose_message message world m))
    → P (relay number message world)
relay-deed P number message world none passes gone = by_place (in_flight world.flight message) refl
  where
    by_room : (m : Outgoing) (held : List RecordId) → in_flight world.flight message ≡ Some m → (b : Bool)
        → has_numbers world.flight 1 ≡ b → P (if b then passed_on number message world m held else nothing world 0)
    by_room m held there true room = passes m held there room
    by_room m held there false room = none

    by_held : (to : RowName) (id : RecordId) → in_flight world.flight message ≡ Some (outgoing.Ack to id) → (b : Bool)
        → P (if b then pass_on number message world (outgoing.Ack to id) (without_id id (held_by world number))
        else lose_message message world (outgoing.Ack to id))
    by_held to id there true = by_room (outgoing.Ack to id) (without_id id (held_by world number)) there (has_numbers world.flight 1) refl
    by_held to id there false = gone (outgoing.Ack to id) there

    by_message : (m : Outgoing) → in_flight world.flight message ≡ Some m → P (relay_message number message world m)
    by_message (outgoing.Deliver delivery sender) there =
        by_room (outgoing.Deliver delivery sender) (with_id delivery.id (held_by world number)) there (has_numbers world.flight 1) refl
    by_message (outgoing.Ack to id) there = by_held to id there (holds (held_by world number) id)

    by_next : (m : Outgoing) → in_flight world.flight message ≡ Some m → (b : Bool)
        → P (if b then relay_message number message world m else nothing world 0)
    by_next m there true = by_message m there
    by_next m there false = none

    by_place : (o : Option Outgoing) → in_flight world.flight message ≡ o
        → P (option_map_or (relay_next number message world) o (nothing world 0))
    by_place None there = none
    by_place (Some m) there = by_next m there (is_next number (relays_on world.routes m) m (to_pass world message))

-- ---- what one relay sees, and what it leaves

-- what is in flight in a world, what that has to pass, and what one relay holds
abbrev passing_at : World → ℕ → Passing
passing_at world number = record { flight = world.flight; left = world.left; held = held_by world number }

-- the deed of a relay that answers so and leaves this
abbrev deed_in : World → ℕ → Outcome × Passing → Deed
deed_in world number (outcome, passing) = record (stays world 0 outcome) {
  flight = passing.flight;
  left = passing.left;
  relays = slice_set world.relays number passing.held;
}

-- relays that hold what they held
relays-same : (world : World) (number : ℕ) → slice_set world.relays number (held_by world number) ≡ world.relays
relays-same world number = ap (slice_set world.relays number) (unwrap_or-slice_get world.relays number [])
    ∙ set-get_or world.relays number []

-- a message passes, if there is a number for it
passed-deed : (world : World) (number message : ℕ) (m : Outgoing) (held : List RecordId) → in_flight world.flight message ≡ Some m
    → pass_on number message world m held ≡ deed_in world number (passed_in message held (passing_at world number))
passed-deed world number message m held there = by_room (has_numbers world.flight 1)
  where
    by_room : (b : Bool) → (if b then passed_on number message world m held else nothing world 0)
        ≡ deed_in world number (if b
        then (
          outcomes.Sent 1,
          record {
            flight = without_message message world.flight ++ in_flight world.flight message ∷ [];
            left = world.left ++ (to_pass world message - 1) ∷ [];
            held = held;
          },
        ) else (outcomes.Nothing, passing_at world number))
    by_room true = ap (λ (o : Option Outgoing). record (stays world 0 (outcomes.Sent 1)) {
      flight = without_message message world.flight ++ o ∷ [];
      left = world.left ++ (to_pass world message - 1) ∷ [];
      relays = slice_set world.relays number held;
    }) (sym there)
    by_room false = ap (λ (rs : List (List RecordId)). record (stays world 0 outcomes.Nothing) { relays = rs })
        (sym (relays-same world number))

-- a record
record-deed : (world : World) (number message : ℕ) (m : Outgoing) (id : RecordId) → in_flight world.flight message ≡ Some m
    → told_by m ≡ (id, false) → relay_message number message world m
    ≡ deed_in world number (passed_in message (with_id id (held_by world number)) (passing_at world number))
record-deed world number message (outgoing.Deliver delivery sender) id there told =
    passed-deed world number message (outgoing.Deliver delivery sender) (with_id delivery.id (held_by world number)) there
    ∙ ap (λ k. deed_in world number (passed_in message (with_id k (held_by world number)) (passing_at world number)))
    (ap (λ (t : RecordId × Bool). t.0) told)
record-deed world number message (outgoing.Ack to one) id there told =
    let same : true ≡ false = ap (λ (t : RecordId × Bool). t.1) told in absurd cc

-- a record, where the relay holds these ids
pub record-deed-of : (world : World) (number message : ℕ) (m : Outgoing) (id : RecordId) (was : List RecordId)
    → in_flight world.flight message ≡ Some m → told_by m ≡ (id, false) → held_by world number ≡ was
    → relay_message number message world m ≡ deed_in world number (passed_in message (with_id id was) (passing_at world number))
record-deed-of world number message m id was there told holding =
    record-deed world number message m id there told
    ∙ ap (λ (held : List RecordId). deed_in world number (passed_in message (with_id id held) (passing_at world number))) holding

-- word of a record
pub word-deed : (world : World) (number message : ℕ) (m : Outgoing) (id : RecordId) → in_flight world.flight message ≡ Some m
    → told_by m ≡ (id, true)
    → relay_message number message world m ≡ deed_in world number (word_in message id (passing_at world number))
word-deed world number message (outgoing.Deliver delivery sender) id there told =
    let same : false ≡ true = ap (λ (t : RecordId × Bool). t.1) told in absurd cc
word-deed world number message (outgoing.Ack to one) id there told = by_held (holds (held_by world number) one)
    ∙ ap (λ k. deed_in world number (word_in message k (passing_at world number))) (ap (λ (t : RecordId × Bool). t.0) told)
  where
    by_held : (b : Bool) → (if b then pass_on number message world (outgoing.Ack to one) (without_id one (held_by world number))
        else lose_message message world (outgoing.Ack to one))
        ≡ deed_in world number (if b then passed_in message (without_id one (held_by world number)) (passing_at world number)
        else (outcomes.Lost, record (passing_at world number) { flight = without_message message world.flight }))
    by_held true = passed-deed world number message (outgoing.Ack to one) (without_id one (held_by world number)) there
    by_held false = ap (λ (rs : List (List RecordId)). record (stays world 0 outcomes.Lost) {
      flight = without_message message world.flight;
      relays = rs;
    }) (sym (relays-same world number))

-- ---- what a relay does with messages that have notes

-- a message passes
pub passed-more : (message : ℕ) (flight after : List (Option (Message NoNote))) (left fewer : List ℕ) (was held new : List RecordId)
    → nat_le (length flight + 1) (2 ^ 32) ≡ true
    → after ≡ slice_set flight message None ++ unwrap_or (slice_get flight message) None ∷ []
    → fewer ≡ left ++ (unwrap_or (slice_get left message) 0 - 1) ∷ [] → new ≡ held
    → (outcomes.Sent 1, passing_of after fewer new) ≡ passed_in message held (passing_of flight left was)
passed-more message flight after left fewer was held new room behind less holding =
    (λ i. (outcomes.Sent 1, record { flight = flies i; left = less i; held = holding i }))
    ∙ ap (λ b. if b then (
      outcomes.Sent 1,
      record {
        flight = without_message message (flight_of flight) ++ in_flight (flight_of flight) message ∷ [];
        left = left ++ (unwrap_or (slice_get left message) 0 - 1) ∷ [];
        held = held;
      },
    ) else (outcomes.Nothing, passing_of flight left was)) (sym (one-number flight ∙ room))
  where
    flies : flight_of after ≡ without_message message (flight_of flight) ++ in_flight (flight_of flight) message ∷ []
    flies = ap (λ f. flight_of f) behind
        ∙ map-append noteless (slice_set flight message None) (unwrap_or (slice_get flight message) None ∷ [])
        ∙ ap (λ f. f ++ noteless (unwrap_or (slice_get flight message) None) ∷ []) (flight-gone flight message)
        ∙ ap (λ place. without_message message (flight_of flight) ++ place ∷ []) (sym (flight-at flight message))

-- word passes where its record's id is held
pub word-more : (message : ℕ) (id : RecordId) (flight after : List (Option (Message NoNote))) (left fewer : List ℕ)
    (was new : List RecordId) → holds was id ≡ true → nat_le (length flight + 1) (2 ^ 32) ≡ true
    → after ≡ slice_set flight message None ++ unwrap_or (slice_get flight message) None ∷ []
    → fewer ≡ left ++ (unwrap_or (slice_get left message) 0 - 1) ∷ [] → new ≡ without_id id was
    → (outcomes.Sent 1, passing_of after fewer new) ≡ word_in message id (passing_of flight left was)
word-more message id flight after left fewer was new has room behind less holding =
    passed-more message flight after left fewer was (without_id id was) new room behind less holding
    ∙ ap (λ b. if b then passed_in message (without_id id was) (passing_of flight left was)
    else (outcomes.Lost, record (passing_of flight left was) { flight = without_message message (flight_of flight) })) (sym has)

-- and is lost where it is not
pub word-lost : (message : ℕ) (id : RecordId) (flight after : List (Option (Message NoNote))) (left : List ℕ) (was : List RecordId)
    → holds was id ≡ false → after ≡ slice_set flight message None
    → (outcomes.Lost, passing_of after left was) ≡ word_in message id (passing_of flight left was)
word-lost message id flight after left was lacks gone =
    ap (λ (f : List (Option Outgoing)). (outcomes.Lost, record (passing_of flight left was) { flight = f }))
    (ap (λ f. flight_of f) gone ∙ flight-gone flight message)
    ∙ ap (λ b. if b then passed_in message (without_id id was) (passing_of flight left was)
    else (outcomes.Lost, record (passing_of flight left was) { flight = without_message message (flight_of flight) })) (sym lacks)

-- ---- as the script does

-- a deed of a relay that leaves this
relayed-as : (case : CaseShape) (world : World) (number message : ℕ) (outcome : Outcome) (after : List (Option Outgoing)) (fewer : List ℕ)
    (held : List (List RecordId))
    → record (stays world 0 outcome) { flight = after; left = fewer; relays = held } ≡ relay number message world
    → (outcome, record world { flight = after; left = fewer; relays = held }) ≡ act case world (steps.Relay number message)
relayed-as case world number message outcome after fewer held is =
    changes-done case world outcome after fewer held ∙ ap (done case.topology world) is

-- all stays
stays-deed : (world : World) (routes : RoutesView) (flight : List (Option Outgoing)) (left : List ℕ) (relays : List (List RecordId))
    → AreRelaysOf routes flight left relays world
    → record (stays world 0 outcomes.Nothing) { flight = flight; left = left; relays = relays } ≡ nothing world 0
stays-deed world routes flight left relays is =
    let flies = sym is.flight in
    let goes = sym is.left in
    let held = sym is.relays in
    λ i. record (stays world 0 outcomes.Nothing) { flight = flies i; left = goes i; relays = held i }

-- no message is there
pub relayed-not : (number message : ℕ) (routes : RoutesView) (flight : List (Option Outgoing)) (left : List ℕ)
    (relays : List (List RecordId)) → in_flight flight message ≡ None
    → HasRelayed number message routes flight left relays flight left relays outcomes.Nothing
relayed-not number message routes flight left relays at case world is =
    relayed-as case world number message outcomes.Nothing flight left relays (stays-deed world routes flight left relays is
    ∙ ap (λ o. option_map_or (relay_next number message world) o (nothing world 0))
    (sym (ap (λ f. in_flight f message) is.flight ∙ at)))

-- whether it comes to the relay, in a scripted world
next-in : (number message : ℕ) (m : Outgoing) (routes : RoutesView) (flight : List (Option Outgoing)) (left : List ℕ)
    (relays : List (List RecordId)) (world : World) → AreRelaysOf routes flight left relays world
    → is_next number (relays_on world.routes m) m (to_pass world message)
    ≡ is_next number (relays_on routes m) m (unwrap_or (slice_get left message) 0)
next-in number message m routes flight left relays world is =
    ap (λ (r : RoutesView). is_next number (relays_on r m) m (to_pass world message)) is.routes
    ∙ ap (λ (l : List ℕ). is_next number (relays_on routes m) m (unwrap_or (slice_get l message) 0)) is.left

-- another relay comes first, or none
pub relayed-other : (number message : ℕ) (m : Outgoing) (routes : RoutesView) (flight : List (Option Outgoing)) (left : List ℕ)
    (relays : List (List RecordId)) → in_flight flight message ≡ Some m
    → is_next number (relays_on routes m) m (unwrap_or (slice_get left message) 0) ≡ false
    → HasRelayed number message routes flight left relays flight left relays outcomes.Nothing
relayed-other number message m routes flight left relays at other case world is =
    relayed-as case world number message outcomes.Nothing flight left relays (stays-deed world routes flight left relays is
    ∙ ap (λ b. if b then relay_message number message world m else nothing world 0)
    (sym (next-in number message m routes flight left relays world is ∙ other))
    ∙ ap (λ o. option_map_or (relay_next number message world) o (nothing world 0))
    (sym (ap (λ f. in_flight f message) is.flight ∙ at)))

-- it comes to the relay, which does this with what it sees
pub relayed-by : (number message : ℕ) (m : Outgoing) (routes : RoutesView) (flight : List (Option Outgoing)) (left : List ℕ)
    (relays : List (List RecordId)) (was : List RecordId) (outcome : Outcome) (new : Passing) (how : Passing → Outcome × Passing)
    → in_flight flight message ≡ Some m
    → is_next number (relays_on routes m) m (unwrap_or (slice_get left message) 0) ≡ true
    → unwrap_or (slice_get relays number) [] ≡ was
    → ((world : World) → in_flight world.flight message ≡ Some m → held_by world number ≡ was
    → relay_message number message world m ≡ deed_in world number (how (passing_at world number)))
    → (outcome, new) ≡ how (record { flight = flight; left = left; held = was })
    → HasRelayed number message routes flight left relays new.flight new.left (slice_set relays number new.held) outcome
relayed-by number message m routes flight left relays was outcome new how at next here does is_new case world is =
    relayed-as case world number message outcome new.flight new.left (slice_set relays number new.held)
    (ap (λ (rs : List (List RecordId)). record (stays world 0 outcome) {
      flight = new.flight;
      left = new.left;
      relays = slice_set rs number new.held;
    }) (sym is.relays)
    ∙ ap (deed_in world number) (is_new ∙ ap how (sym seen))
    ∙ sym (does world there holding)
    ∙ ap (λ b. if b then relay_message number message world m else nothing world 0)
    (sym (next-in number message m routes flight left relays world is ∙ next))
    ∙ ap (λ o. option_map_or (relay_next number message world) o (nothing world 0)) (sym there))
  where
    there : in_flight world.flight message ≡ Some m
    there = ap (λ f. in_flight f message) is.flight ∙ at

    holding : held_by world number ≡ was
    holding = ap (λ (rs : List (List RecordId)). unwrap_or (slice_get rs number) []) is.relays ∙ here

    seen : passing_at world number ≡ record { flight = flight; left = left; held = was }
    seen = λ i. record { flight = is.flight i; left = is.left i; held = holding i }

-- ---- what relays leave stands

-- what is in flight may have been sent and has numbers, what it has to pass is on its ways, and there are as many
-- relays as there should be
pub record AreStanding (book : BookView) (routes : RoutesView) (flight : List (Option Outgoing)) (left : List ℕ)
    (relays : List (List RecordId)) : Type 0 where
  pub flying : All (IsFlying book) flight
  pub few : length flight ≤ 2 ^ 32
  pub on_way : AreOnWay routes flight left
  pub counted : length relays ≡ routes.weaks

-- once a message came to a relay
standing-relayed : (case : CaseShape) (book : BookView) (number message : ℕ) (world : World)
    → AreStanding book world.routes world.flight world.left world.relays
    → let new = (act case world (steps.Relay number message)).1 in AreStanding book world.routes new.flight new.left new.relays
standing-relayed case book number message world are =
    relay-deed (λ d. let new = (done case.topology world d).1 in AreStanding book world.routes new.flight new.left new.relays)
    number message world are
    (λ m held there room. let kept = length-set world.flight message None in
    let added = length-append (slice_set world.flight message None) (Some m ∷ []) in
    let most = leb-true (length world.flight + 1) (2 ^ 32) room in record {
      flying = All-push (IsFlying book) (slice_set world.flight message None) (Some m)
          (All-set (IsFlying book) world.flight message None tt are.flying) (flying-at book world.flight message m are.flying there);
      few = subst (λ n. n ≤ 2 ^ 32) (sym (added ∙ ap (λ n. n + 1) kept)) most;
      on_way = on_way-passed world.routes world.flight world.left message m are.on_way there;
      counted = length-set world.relays number held ∙ are.counted;
    })
    (λ m there. record {
      flying = All-set (IsFlying book) world.flight message None tt are.flying;
      few = subst (λ n. n ≤ 2 ^ 32) (sym (length-set world.flight message None)) are.few;
      on_way = on_way-gone world.routes world.flight world.left message are.on_way;
      counted = are.counted;
    })

-- a world in which what is in flight, what that has to pass and what relays hold stands is one
pub standing-world : (state : WorldState) (flight : List (Option (Message NoNote))) (left : List ℕ) (relays : List (List RecordId))
    → IsWorld state → AreStanding state.book state.routes (flight_of flight) left relays
    → IsWorld (record state { flight = flight; left = left; relays = relays })
standing-world state flight left relays is are = record {
  sixteen = is.sixteen;
  numbered = is.numbered;
  fit = is.fit;
  claimed = is.claimed;
  flying = are.flying;
  few = subst (λ n. n ≤ 2 ^ 32) (length-map flight noteless) are.few;
  on_way = are.on_way;
  relays = are.counted;
  routed = is.routed;
}

-- so it stands in a world
world-standing : (state : WorldState) → IsWorld state
    → AreStanding state.book state.routes (flight_of state.flight) state.left state.relays
world-standing state is = record {
  flying = is.flying;
  few = subst (λ n. n ≤ 2 ^ 32) (sym (length-map state.flight noteless)) is.few;
  on_way = is.on_way;
  counted = is.relays;
}

-- and where a message came to a relay, or want of memory left all as it was
pub relayed-world : (state : WorldState) (number message : ℕ) (flight : List (Option (Message NoNote))) (left : List ℕ)
    (relays : List (List RecordId)) (r : Result Outcome NodeFault) → IsWorld state
    → IfOk r (HasRelayed number message state.routes (flight_of state.flight) state.left state.relays (flight_of flight) left relays)
    → OnErr r (flight ≡ state.flight) → OnErr r (left ≡ state.left) → OnErr r (relays ≡ state.relays)
    → IsWorld (record state { flight = flight; left = left; relays = relays })
relayed-world state number message flight left relays (Ok outcome) is relayed f l r =
    standing-world state flight left relays is
    (subst (λ (a : Acted). AreStanding state.book state.routes a.1.flight a.1.left a.1.relays)
    (sym (relayed state.book.case (world_of state) (record { routes = refl; flight = refl; left = refl; relays = refl })))
    (standing-relayed state.book.case state.book number message (world_of state) (world-standing state is)))
relayed-world state number message flight left relays (Err why) is relayed f l r =
    let same : state ≡ record state { flight = flight; left = left; relays = relays } =
    let flies = sym f in let goes = sym l in let held = sym r in
    λ i. record state { flight = flies i; left = goes i; relays = held i } in
    subst IsWorld same is

-- What a node answers to a message that it takes, as the scripted world does.
use Rattle.std.proofs.Common.{◌≡◌, ◌∙◌, ℕ, Bool, true, false, [], ◌∷◌, List, refl, sym, ap, subst}
use Rattle.std.specs.Prelude.{◌||◌, IfSome, IsSome, None, Option, Some, if◌then◌else◌, nat_lt}
use Rattle.std.specs.Option.{is_some, option_and_then, option_map, option_map_or}
use Rattle.mw_types.specs.declared.delivery.Delivery.{Delivery}
use Rattle.mw_types.specs.declared.entry.Entry.TheVariants as entries
use Rattle.mw_types.specs.declared.identity.RecordId.{RecordId}
use Rattle.mw_types.specs.declared.identity.RowName.{RowName}
use Rattle.topology.specs.Shapes.{Shape}
use Rattle.row_parts.specs.Contents.{Contents, is_finished, found_delivery}
use Rattle.run_history.specs.Cases.{CaseShape}
use Rattle.book.specs.Books.{BookView, LeaseView}
use Rattle.book.specs.Desks.{HasLooked}
use Rattle.book.specs.OwnDesks.{own_view}
use Rattle.holdings.specs.Holding.{HeldView, held_on, row_held}
use Rattle.node.specs.Answers.{AnswersAck, AnswersAckOf, received, taken_from}
use Rattle.node.specs.Asking.{settling}
use Rattle.node.specs.Received.{IsAck, IsDeliver}
use Rattle.node.specs.Workers.{NodeView, WorkView, Worker, sending_in, with_outgoing, worker_at}
use Rattle.node.specs.declared.outcome.Outcome.{Outcome}
use Rattle.node.specs.declared.outcome.Outcome.TheVariants as outcomes
use Rattle.outbox.specs.declared.outgoing.Outgoing.{Outgoing}
use Rattle.outbox.specs.declared.outgoing.Outgoing.TheVariants as outgoing
use Rattle.world.specs.scripts.Acts.{Deed, done, nothing, stays, take, take_again, take_message, take_new, take_out, without_message, writes}
use Rattle.world.specs.scripts.WorkerCalls.{HasArrived}
use Rattle.world.specs.scripts.Worlds.{World, lease_on, row_of_message, worker_of}
use Rattle.world.proofs.scripts.deeds.Acting.{ActsWithout, IsActing, acting-worker}
use Rattle.world.proofs.scripts.deeds.Held.{lease_held, lease_on-held, row-held}
use Rattle.world.proofs.scripts.deeds.Left.{IsOnRow, acting-alone, acting-of, asked-acts, becomes-acts, deed_asked, left_world, moved-alone, with_flight}

-- what is there is something
pub some-there : {X : Type 0} (o : Option X) → IsSome o → (x : X) × (o ≡ Some x)
some-there None some = absurd (cc)
some-there (Some x) some = (x, refl)

-- ---- a record

-- a record of a row that is held, where nothing is prepared, leaves flight
record-is : (case : CaseShape) (old : BookView) (world : World) (number message : ℕ) (was : NodeView) (delivery : Delivery)
    (sender : RowName) (held : HeldView) → IsActing case old world number was
    → HasArrived world message (outgoing.Deliver delivery sender) → was.prepared ≡ None
    → held_on case.topology was.held delivery.to ≡ Some held
    → take case.topology number message world ≡ with_flight (without_message message world.flight)
    (if is_finished delivery.id (row_held case.topology held delivery.to)
    then take_again number world delivery sender else take_new number world delivery sender)
record-is case old world number message was delivery sender held acting arrived free on =
    ap (λ o. option_map_or (take_message shape number message world) o (nothing world number)) arrived.flying
    ∙ ap (λ n. if nat_lt 0 n || is_some (worker_of world number).prepared
    then nothing world number else mine (lease_on shape (worker_of world number) delivery.to)) arrived.passed
    ∙ ap (λ o. if is_some o then nothing world number else mine (lease_on shape (worker_of world number) delivery.to))
    (ap (λ (w : Worker). w.prepared) (acting-worker case old world number was acting)
    ∙ ap (option_and_then (λ (work : WorkView). sending_in work.sender work.proposal)) free)
    ∙ ap mine (lease_on-held case old world number was delivery.to acting ∙ ap (option_map lease_held) on)
    ∙ ap (λ row. with_flight (without_message message world.flight) (if is_finished delivery.id row
    then take_again number world delivery sender else take_new number world delivery sender))
    (row-held case old world number was held delivery.to acting on)
  where
    shape : Shape
    shape = case.topology

    mine : Option LeaseView → Deed
    mine lease = option_map_or (take_out shape number message world (outgoing.Deliver delivery sender)) lease
        (stays world number outcomes.NotMine)

-- what a node answers to a record of a row that is held, by whether it is finished there, and the worker that it is then
abbrev answered_of : Delivery → RowName → Worker → Bool → Outcome × Worker
answered_of delivery sender worker again = if again
    then (outcomes.Duplicate, with_outgoing (outgoing.Ack sender delivery.id ∷ []) worker)
    else (outcomes.Prepared, record worker { prepared = Some (record { delivery = delivery; sender = sender }) })

-- that is what the scripted world does
received-acts : (case : CaseShape) (old new : BookView) (world : World) (number : ℕ) (was node : NodeView) (delivery : Delivery)
    (sender : RowName) (outcome : Outcome) (flight : List (Option Outgoing)) (again : Bool) → IsActing case old world number was
    → new.marks ≡ old.marks → HasLooked (own_view old) (own_view new)
    → (outcome, worker_at node) ≡ answered_of delivery sender (worker_at was) again
    → done case.topology world (with_flight flight (if again
    then take_again number world delivery sender else take_new number world delivery sender))
    ≡ (outcome, left_world (own_view new) number node flight world)
received-acts case old new world number was node delivery sender outcome flight true acting marks looked is =
    becomes-acts case.topology number (own_view old) (own_view new) was node outcomes.Duplicate
    (with_outgoing (outgoing.Ack sender delivery.id ∷ []) (worker_of world number)) flight world
    (moved-alone (own_view old) (own_view new) new.history looked refl) marks (acting-of case old world number was acting)
    (ap (λ (a : Outcome × Worker). a.1) is
    ∙ ap (with_outgoing (outgoing.Ack sender delivery.id ∷ [])) (sym (acting-worker case old world number was acting)))
    ∙ ap (λ o. (o, left_world (own_view new) number node flight world)) (sym (ap (λ (a : Outcome × Worker). a.0) is))
received-acts case old new world number was node delivery sender outcome flight false acting marks looked is =
    becomes-acts case.topology number (own_view old) (own_view new) was node outcomes.Prepared
    (new_one (worker_of world number)) flight world
    (moved-alone (own_view old) (own_view new) new.history looked refl) marks (acting-of case old world number was acting)
    (ap (λ (a : Outcome × Worker). a.1) is ∙ ap new_one (sym (acting-worker case old world number was acting)))
    ∙ ap (λ o. (o, left_world (own_view new) number node flight world)) (sym (ap (λ (a : Outcome × Worker). a.0) is))
  where
    new_one : Worker → Worker
    new_one worker = record worker { prepared = Some (record { delivery = delivery; sender = sender }) }

-- a record
deliver-acts : (case : CaseShape) (old new : BookView) (world : World) (number : ℕ) (was node : NodeView) (message : ℕ)
    (delivery : Delivery) (sender : RowName) (outcome : Outcome) → IsActing case old world number was → new.marks ≡ old.marks
    → HasArrived world message (outgoing.Deliver delivery sender) → was.prepared ≡ None
    → (held : HeldView) → held_on case.topology was.held delivery.to ≡ Some held → HasLooked (own_view old) (own_view new)
    → (outcome, worker_at node) ≡ taken_from case.topology was (outgoing.Deliver delivery sender)
    → ActsWithout case new world number node message outcome
deliver-acts case old new world number was node message delivery sender outcome acting marks arrived free held on looked is =
    let shape = case.topology in
    sym (ap (done shape world) (record-is case old world number message was delivery sender held acting arrived free on)
    ∙ received-acts case old new world number was node delivery sender outcome (without_message message world.flight)
    (is_finished delivery.id (row_held shape held delivery.to)) acting marks looked
    (is ∙ ap by_prepared free ∙ ap by_held on))
  where
    by_held : Option HeldView → Outcome × Worker
    by_held o = option_map_or (received case.topology was delivery sender) o (outcomes.NotMine, worker_at was)

    by_prepared : Option WorkView → Outcome × Worker
    by_prepared o = if is_some o then (outcomes.Nothing, worker_at was) else by_held (held_on case.topology was.held delivery.to)

-- a message that is a record
pub prepare-acts : (case : CaseShape) (old new : BookView) (world : World) (number : ℕ) (was node : NodeView) (message : ℕ)
    (taken : Outgoing) (outcome : Outcome) → IsActing case old world number was → new.marks ≡ old.marks
    → HasArrived world message taken → IsDeliver taken → was.prepared ≡ None
    → IsSome (held_on case.topology was.held (row_of_message taken)) → HasLooked (own_view old) (own_view new)
    → (outcome, worker_at node) ≡ taken_from case.topology was taken
    → ActsWithout case new world number node message outcome
prepare-acts case old new world number was node message (outgoing.Deliver delivery sender) outcome acting marks arrived deliver free some
    looked is =
    let on = some-there (held_on case.topology was.held delivery.to) some in
    deliver-acts case old new world number was node message delivery sender outcome acting marks arrived free on.0 on.1 looked is
prepare-acts case old new world number was node message (outgoing.Ack to id) outcome acting marks arrived deliver free some looked is =
    absurd deliver

-- ---- word that a record was handled

-- word for a row that is held leaves flight, and is written where its record is pending there
pub ack-is : (case : CaseShape) (old : BookView) (world : World) (number message : ℕ) (was : NodeView) (to : RowName) (id : RecordId)
    (held : HeldView) → IsActing case old world number was → HasArrived world message (outgoing.Ack to id)
    → held_on case.topology was.held to ≡ Some held
    → take case.topology number message world ≡ with_flight (without_message message world.flight)
    (deed_asked world number (worker_of world number) (settling case.topology to id held))
ack-is case old world number message was to id held acting arrived on =
    ap (λ o. option_map_or (take_message shape number message world) o (nothing world number)) arrived.flying
    ∙ ap (λ n. if nat_lt 0 n || false then nothing world number
    else option_map_or (take_out shape number message world (outgoing.Ack to id)) (lease_on shape (worker_of world number) to)
    (stays world number outcomes.NotMine)) arrived.passed
    ∙ ap (λ lease. option_map_or (take_out shape number message world (outgoing.Ack to id)) lease (stays world number outcomes.NotMine))
    (lease_on-held case old world number was to acting ∙ ap (option_map lease_held) on)
    ∙ ap (λ row. with_flight (without_message message world.flight) (at_row row))
    (row-held case old world number was held to acting on)
    ∙ ap (with_flight (without_message message world.flight)) (by_found (found_delivery id (row_held shape held to).pending))
  where
    shape : Shape
    shape = case.topology

    at_row : Contents → Deed
    at_row row = if is_some (found_delivery id row.pending)
        then writes world number held.lease (entries.Ack held.lease.seq to id) (worker_of world number)
        else nothing world number

    by_found : (o : Option Delivery) → (if is_some o
        then writes world number held.lease (entries.Ack held.lease.seq to id) (worker_of world number) else nothing world number)
        ≡ deed_asked world number (worker_of world number) (option_map (λ (d : Delivery). record {
          lease = held.lease;
          name = to;
          entry = entries.Ack held.lease.seq to id;
          late = false;
        }) o)
    by_found None = refl
    by_found (Some d) = refl

-- an acknowledgement is on the row that sent the record
settling-on : (shape : Shape) (to : RowName) (id : RecordId) (held : HeldView) → IfSome (settling shape to id held) IsOnRow
settling-on shape to id held = by_found (found_delivery id (row_held shape held to).pending)
  where
    by_found : (o : Option Delivery) → IfSome (option_map (λ (d : Delivery). record {
      lease = held.lease;
      name = to;
      entry = entries.Ack held.lease.seq to id;
      late = false;
    }) o) IsOnRow
    by_found None = tt
    by_found (Some d) = refl

-- word that a record was handled
settle-acts : (case : CaseShape) (old new : BookView) (world : World) (number : ℕ) (was node : NodeView) (message : ℕ) (to : RowName)
    (id : RecordId) (outcome : Outcome) → IsActing case old world number was → new.marks ≡ old.marks
    → HasArrived world message (outgoing.Ack to id) → (held : HeldView) → held_on case.topology was.held to ≡ Some held
    → AnswersAck case.topology (own_view old) (own_view new) (held_on case.topology was.held to) to id was node outcome
    → ActsWithout case new world number node message outcome
settle-acts case old new world number was node message to id outcome acting marks arrived held on is =
    let shape = case.topology in
    let asked = settling shape to id held in
    let flight = without_message message world.flight in
    sym (ap (done shape world) (ack-is case old world number message was to id held acting arrived on
    ∙ ap (λ w. with_flight flight (deed_asked world number w asked)) (acting-worker case old world number was acting))
    ∙ asked-acts shape number (own_view old) (own_view new) asked (worker_at was) was node outcome flight world
    (acting-alone case old new world number was acting) marks (acting-of case old world number was acting)
    (settling-on shape to id held)
    (subst (λ o. AnswersAck shape (own_view old) (own_view new) o to id was node outcome) on is))

-- a message that is such word
pub ack-acts : (case : CaseShape) (old new : BookView) (world : World) (number : ℕ) (was node : NodeView) (message : ℕ)
    (taken : Outgoing) (outcome : Outcome) → IsActing case old world number was → new.marks ≡ old.marks
    → HasArrived world message taken → IsAck taken
    → IsSome (held_on case.topology was.held (row_of_message taken))
    → AnswersAckOf case.topology (own_view old) (own_view new) taken was node outcome
    → ActsWithout case new world number node message outcome
ack-acts case old new world number was node message (outgoing.Ack to id) outcome acting marks arrived ack some is =
    let on = some-there (held_on case.topology was.held to) some in
    settle-acts case old new world number was node message to id outcome acting marks arrived on.0 on.1 is
ack-acts case old new world number was node message (outgoing.Deliver delivery sender) outcome acting marks arrived ack some is =
    absurd ack

-- What a turn does with the least id that is not acknowledged is what comes next in a drain.
use Rattle.std.proofs.Common.{◌≡◌, ◌<◌, ◌&&◌, ℕ, Bool, true, false, length, refl, sym, ◌∙◌, ap, subst, arith, inl}
use Rattle.std.specs.Prelude.{Option, Some, None, IsSome, IfSome, nat_lt, nat_le}
use Rattle.std.specs.List.{list_all}
use Rattle.std.specs.Option.{option_and_then, option_map, option_map_or}
use Rattle.std.proofs.lemmas.Bool.{and_parts, leb-true, ltb-true, le-leb, lt-ltb}
use Rattle.list_lemmas.proofs.Places.{each-passes}
use Rattle.mw_types.specs.declared.delivery.Delivery.{Delivery}
use Rattle.mw_types.specs.declared.entry.Entry.TheVariants as entries
use Rattle.mw_types.specs.declared.identity.RecordId.{RecordId}
use Rattle.mw_types.specs.declared.identity.RowName.{RowName}
use Rattle.topology.specs.Shapes.{Shape, injectors_of, parts_of}
use Rattle.row_parts.specs.Contents.{Contents, is_finished, same_id, found_delivery}
use Rattle.run_history.specs.Finished.{is_handled}
use Rattle.run_history.specs.Fits.{is_sent_before, suits_part}
use Rattle.run_history.specs.Legal.{IsLegal, floor_of}
use Rattle.run_history.specs.Runs.{Run, row_of, run_of}
use Rattle.list_lemmas.proofs.Lists.{find-each, find-passes, none_some}
use Rattle.history_laws.proofs.FinishedLaws.{finished-handled}
use Rattle.history_laws.proofs.IdLaws.{same_id-true}
use Rattle.history_laws.proofs.SentLaws.{pending-as_made}
use Rattle.book.specs.Books.{BookView}
use Rattle.book.specs.Senders.{IsLeastSent}
use Rattle.holdings.specs.Holding.{HeldView, held_on, row_held}
use Rattle.node.specs.Asking.{HasToForget, MayAskForget, Request, settle_asked, settling}
use Rattle.outbox.specs.Messages.{IsComputation}
use Rattle.node.specs.Workers.{NodeView}
use Rattle.world.specs.drains.Drains.{HasClaimedAll, IsNextEntry, IsToHandle, is_full}
use Rattle.world.specs.drains.Standings.{IsFound}
use Rattle.world.specs.drains.Turns.{HasAsked, HasAskedOne, HasHandled, HasTurned, IsAtWork, IsNextIn, IsHandledNext, is_finished_at, is_full_at, sent_at}
use Rattle.world.proofs.drains.LawfulRows.{lawful-rows}
use Rattle.world.proofs.drains.KnownLaws.{held-on-is, held-there, row-known}

-- ---- what was asked for

-- an entry that was asked for is a turn, where it is the next
pub turned-asked : (old new : BookView) (asked : Option Request) (more : Bool) → HasAsked old new asked more
    → (IsSome old.rows → IfSome asked (λ (a : Request). IsNextIn old.case old.history a.entry)) → HasTurned old new more
turned-asked old new None more done next = record {
  own = None;
  stepped = done.stepped;
  is_more = done.is_more;
  next = λ told. tt;
}
turned-asked old new (Some asked) more done next = record {
  own = Some asked.entry;
  stepped = done.stepped;
  is_more = done.is_more;
  next = next;
}

-- ---- what was sent

-- what was sent is held, with its sender's row
pub sent-held : (shape : Shape) (node : NodeView) (sender : RowName) (id : RecordId) (d : Delivery) → sent_at shape node sender id ≡ Some d
    → (held : HeldView) × (held_on shape node.held sender ≡ Some held)
    × (found_delivery id (row_held shape held sender).pending ≡ Some d)
sent-held shape node sender id d sent = by_place (held_on shape node.held sender) refl sent
  where
    by_place : (o : Option HeldView) → held_on shape node.held sender ≡ o
        → option_and_then (λ (h : HeldView). found_delivery id (row_held shape h sender).pending) o ≡ Some d
        → (held : HeldView) × (held_on shape node.held sender ≡ Some held)
        × (found_delivery id (row_held shape held sender).pending ≡ Some d)
    by_place None on e = absurd (none_some d e)
    by_place (Some held) on e = (held, on, e)

-- it has the id under which it was found
pub sent-id : (shape : Shape) (node : NodeView) (sender : RowName) (id : RecordId) (d : Delivery) → sent_at shape node sender id ≡ Some d
    → d.id ≡ id
sent-id shape node sender id d sent =
    let is = sent-held shape node sender id d sent in
    same_id-true d.id id (find-passes (λ (e : Delivery). same_id e.id id) (row_held shape is.0 sender).pending d is.2)

-- so it is found under its own
pub sent-own : (shape : Shape) (node : NodeView) (sender : RowName) (id : RecordId) (d : Delivery) → sent_at shape node sender id ≡ Some d
    → sent_at shape node sender d.id ≡ Some d
sent-own shape node sender id d sent = ap (sent_at shape node sender) (sent-id shape node sender id d sent) ∙ sent

-- it is pending in the row of the history, where that is told
pub sent-pending : (book : BookView) (node : NodeView) (sender : RowName) (id : RecordId) (d : Delivery) → IsAtWork book node
    → IsSome book.rows → sent_at book.case.topology node sender id ≡ Some d
    → found_delivery id (row_of book.case.topology (run_of book.case.topology book.history) sender).pending ≡ Some d
sent-pending book node sender id d at told sent =
    let is = sent-held book.case.topology node sender id d sent in
    subst (λ (c : Contents). found_delivery id c.pending ≡ Some d) (row-known book node sender is.0 at told is.1) is.2

-- what is pending in the row of the history is sent from the row as it is held
pub pending-sent : (book : BookView) (node : NodeView) (sender : RowName) (id : RecordId) → IsAtWork book node → IsSome book.rows
    → sender.part < parts_of book.case.topology
    → IsSome (found_delivery id (row_of book.case.topology (run_of book.case.topology book.history) sender).pending)
    → sent_at book.case.topology node sender id ≡ None → ⊥
pending-sent book node sender id at told there some none =
    let shape = book.case.topology in
    let held = held-there book node sender at there in
    let row = row-known book node sender held.0 at told held.1 in
    let found : found_delivery id (row_held shape held.0 sender).pending ≡ None =
    sym (ap (option_and_then (λ (h : HeldView). found_delivery id (row_held shape h sender).pending)) held.1) ∙ none in
    let gone = sym (ap (λ (c : Contents). found_delivery id c.pending) row) ∙ found in
    let wrong = subst IsSome gone some in cc

-- it goes to a computation
pub sent-to : (book : BookView) (node : NodeView) (sender : RowName) (id : RecordId) (d : Delivery) → IsAtWork book node
    → sender.part < parts_of book.case.topology → sent_at book.case.topology node sender id ≡ Some d
    → IsComputation book.case.topology d.to.part
sent-to book node sender id d at there sent =
    let shape = book.case.topology in
    let is = sent-held shape node sender id d sent in
    let on = held-on-is book node sender is.0 at is.1 in
    let row = row_held shape is.0 sender in
    let fit = on.2.rows.fit sender (on.1 ∙ ap Some (sym on.2.of_interval)) there in
    let parts = and_parts (suits_part book.case sender.part row) (list_all (is_sent_before shape (length book.history)) row.pending) fit in
    let passes = find-each (λ (e : Delivery). is_sent_before shape (length book.history) e ≡ true) (λ (e : Delivery). same_id e.id id)
    row.pending d (each-passes (is_sent_before shape (length book.history)) row.pending parts.1) is.2 in
    let two = and_parts (nat_lt d.id.commit (length book.history) && nat_le (injectors_of shape) d.to.part)
    (nat_lt d.to.part (parts_of shape)) passes in
    let first = and_parts (nat_lt d.id.commit (length book.history)) (nat_le (injectors_of shape) d.to.part) two.0 in record {
      no_injector = leb-true (injectors_of shape) d.to.part first.1;
      there = ltb-true d.to.part (parts_of shape) two.1;
    }

-- whether it is finished in its row, as that is held, is whether it is handled
pub finished-is : (book : BookView) (node : NodeView) (sender : RowName) (d : Delivery) → IsAtWork book node → IsSome book.rows
    → IsLegal book.case book.history → d.to.part < parts_of book.case.topology
    → sent_at book.case.topology node sender d.id ≡ Some d
    → is_finished_at book.case.topology node d ≡ is_handled d.id book.history
finished-is book node sender d at told legal there sent =
    let shape = book.case.topology in
    let held = held-there book node d.to at there in
    ap (λ (o : Option HeldView). option_map_or (λ (h : HeldView). is_finished d.id (row_held shape h d.to)) o false) held.1
    ∙ ap (is_finished d.id) (row-known book node d.to held.0 at told held.1)
    ∙ finished-handled book.case book.history d legal
    (pending-as_made shape book.history sender d.id d (sent-pending book node sender d.id d at told sent))

-- ---- an acknowledgement

-- the entry by which a row learns that what it sent was handled
pub ack-asked : (shape : Shape) (node : NodeView) (sender : RowName) (id : RecordId) (d : Delivery) → sent_at shape node sender id ≡ Some d
    → (held : HeldView) × (settle_asked shape node sender id ≡ Some (record {
      lease = held.lease;
      name = sender;
      entry = entries.Ack held.lease.seq sender id;
      late = false;
    }))
ack-asked shape node sender id d sent =
    let is = sent-held shape node sender id d sent in (
      is.0,
      ap (option_and_then (settling shape sender id)) is.1
          ∙ ap (option_map (λ (e : Delivery). record {
            lease = is.0.lease;
            name = sender;
            entry = entries.Ack is.0.lease.seq sender id;
            late = false;
          })) is.2,
    )

-- none, where nothing was sent
pub ack-none : (shape : Shape) (node : NodeView) (sender : RowName) (id : RecordId) → sent_at shape node sender id ≡ None
    → settle_asked shape node sender id ≡ None
ack-none shape node sender id none = by_place (held_on shape node.held sender) none
  where
    by_place : (o : Option HeldView)
        → option_and_then (λ (h : HeldView). found_delivery id (row_held shape h sender).pending) o ≡ None
        → option_and_then (settling shape sender id) o ≡ None
    by_place None e = refl
    by_place (Some held) e = ap (option_map (λ (d : Delivery). record {
      lease = held.lease;
      name = sender;
      entry = entries.Ack held.lease.seq sender id;
      late = false;
    })) e

-- an acknowledgement is a turn
pub ack-turned : (old new : BookView) (node : NodeView) (sender : RowName) (id : RecordId) (d : Delivery) (more : Bool)
    → sent_at old.case.topology node sender id ≡ Some d
    → IsLeastSent old.case.topology (run_of old.case.topology old.history) id sender
    → (IsSome old.rows → is_handled id old.history ≡ true)
    → HasAsked old new (settle_asked old.case.topology node sender id) more → HasTurned old new more × (more ≡ true)
ack-turned old new node sender id d more sent least handled done =
    let asked = ack-asked old.case.topology node sender id d sent in
    let is = subst (λ (o : Option Request). HasAsked old new o more) asked.1 done in (
      turned-asked old new (Some (record {
        lease = asked.0.lease;
        name = sender;
        entry = entries.Ack asked.0.lease.seq sender id;
        late = false;
      })) more is (λ told from claimed. record { earlier = claimed; least = least; handled = handled told }),
      sym is.is_more,
    )

-- so is that of the least id, whether it was sent or not
pub ack-least : (old new : BookView) (node : NodeView) (sender : RowName) (id : RecordId) (more : Bool)
    → IsLeastSent old.case.topology (run_of old.case.topology old.history) id sender
    → (IsSome old.rows → is_handled id old.history ≡ true)
    → HasAsked old new (settle_asked old.case.topology node sender id) more → HasTurned old new more
ack-least old new node sender id more least handled done = by_sent (sent_at old.case.topology node sender id) refl
  where
    by_sent : (o : Option Delivery) → sent_at old.case.topology node sender id ≡ o → HasTurned old new more
    by_sent None none =
        turned-asked old new None more
        (subst (λ (o : Option Request). HasAsked old new o more) (ack-none old.case.topology node sender id none) done) (λ told. tt)
    by_sent (Some d) sent = (ack-turned old new node sender id d more sent least handled done).0

-- which writes an entry, where the rows are told
pub ack-more : (old new : BookView) (node : NodeView) (sender : RowName) (id : RecordId) (more : Bool) → IsAtWork old node
    → sender.part < parts_of old.case.topology
    → IsLeastSent old.case.topology (run_of old.case.topology old.history) id sender
    → (IsSome old.rows → is_handled id old.history ≡ true)
    → HasAsked old new (settle_asked old.case.topology node sender id) more → IsSome old.rows → more ≡ true
ack-more old new node sender id more at there least handled done told = by_sent (sent_at old.case.topology node sender id) refl
  where
    by_sent : (o : Option Delivery) → sent_at old.case.topology node sender id ≡ o → more ≡ true
    by_sent None none = absurd (pending-sent old node sender id at told there least.pending none)
    by_sent (Some d) sent = (ack-turned old new node sender id d more sent least handled done).1

-- ---- a record that is to be handled

-- the record of the least id is to be handled, where it is not handled yet
pub to-handle : (book : BookView) (node : NodeView) (sender : RowName) (d : Delivery) → IsAtWork book node → IsSome book.rows
    → sent_at book.case.topology node sender d.id ≡ Some d
    → IsLeastSent book.case.topology (run_of book.case.topology book.history) d.id sender
    → is_handled d.id book.history ≡ false
    → (from : ℕ) → HasClaimedAll book.case from book.history → IsToHandle book.case from book.history d.to d.id
to-handle book node sender d at told sent least left from claimed = record {
  earlier = claimed;
  sender = sender;
  least = least;
  delivery = d;
  sent = sent-pending book node sender d.id d at told sent;
  to_row = refl;
  unhandled = left;
}

-- a row is full exactly where it has ids to forget
pub full-forgets : (book : BookView) (node : NodeView) (name : RowName) (held : HeldView) → IsAtWork book node → IsSome book.rows
    → held_on book.case.topology node.held name ≡ Some held → let run = run_of book.case.topology book.history in
    HasToForget book.case.topology held 64 (floor_of run) name → is_full run (row_of book.case.topology run name) ≡ true
full-forgets book node name held at told on forgets =
    let run = run_of book.case.topology book.history in
    let same = row-known book node name held at told on in
    let many = forgets.many in
    let rises = forgets.rises in
    subst (λ (c : Contents). is_full run c ≡ true) same
    (ap (λ b. b && nat_lt (row_held book.case.topology held name).floor (floor_of run))
    (le-leb 64 (length (row_held book.case.topology held name).seen) (omega (arith, many)))
    ∙ lt-ltb (row_held book.case.topology held name).floor (floor_of run) rises)

-- and back, as it is held
pub forgets-full : (shape : Shape) (run : Run) (held : HeldView) (name : RowName) → is_full run (row_held shape held name) ≡ true
    → HasToForget shape held 64 (floor_of run) name
forgets-full shape run held name full =
    let row = row_held shape held name in
    let parts = and_parts (nat_le 64 (length row.seen)) (nat_lt row.floor (floor_of run)) full in record {
      many = let many = leb-true 64 (length row.seen) parts.0 in omega (arith, many);
      rises = ltb-true row.floor (floor_of run) parts.1;
    }

-- whether a row is full is whether it is so as it is held
pub full-held : (shape : Shape) (run : Run) (node : NodeView) (name : RowName) (held : HeldView) (full : Bool)
    → held_on shape node.held name ≡ Some held → is_full_at shape run node name ≡ full → is_full run (row_held shape held name) ≡ full
full-held shape run node name held full on is =
    sym (ap (λ (o : Option HeldView). option_map_or (λ (h : HeldView). is_full run (row_held shape h name)) o false) on) ∙ is

-- a purge before a record is a turn
pub forget-turned : (old new : BookView) (node : NodeView) (sender : RowName) (d : Delivery) (more : Bool) → IsAtWork old node
    → sent_at old.case.topology node sender d.id ≡ Some d
    → IsLeastSent old.case.topology (run_of old.case.topology old.history) d.id sender
    → (IsSome old.rows → is_handled d.id old.history ≡ false)
    → HasAskedOne old new (MayAskForget old.case.topology node 64 (floor_of (run_of old.case.topology old.history)) d.to) more
    → HasTurned old new more
forget-turned old new node sender d more at sent least left done = by_asked done.asked done.done done.may
  where
    by_asked : (asked : Option Request) → HasAsked old new asked more
        → IfSome asked (MayAskForget old.case.topology node 64 (floor_of (run_of old.case.topology old.history)) d.to)
        → HasTurned old new more
    by_asked None done may = turned-asked old new None more done (λ told. tt)
    by_asked (Some asked) done may = turned-asked old new (Some asked) more done (λ told from claimed.
        subst (λ (a : Request). IsNextEntry old.case from old.history a.entry) (sym may.request) (inl (record {
          id = d.id;
          waits = to-handle old node sender d at told sent least (left told) from claimed;
          full = full-forgets old node d.to may.held at told may.there may.forgets;
          to_floor = refl;
        })))

-- that a record was handled is a turn
pub handle-turned : (old new : BookView) (sender : RowName) (d : Delivery) (more : Bool)
    → IsLeastSent old.case.topology (run_of old.case.topology old.history) d.id sender
    → (IsSome old.rows → IsHandledNext old.case old.history sender d) → HasHandled old new d more → HasTurned old new more
handle-turned old new sender d more least is_next done = record {
  own = Some (entries.Handle done.seq d.to d.id done.effects);
  stepped = done.stepped;
  is_more = sym done.is_more;
  next = λ told from claimed. record {
    waits = record {
      earlier = claimed;
      sender = sender;
      least = least;
      delivery = d;
      sent = (is_next told).pending;
      to_row = refl;
      unhandled = (is_next told).left;
    };
    room = (is_next told).room;
  };
}

-- ---- the whole

-- whether it is handled is whether it is finished
pub found-handled : (book : BookView) (node : NodeView) (sender : RowName) (d : Delivery) → IsFound book node sender d → (b : Bool)
    → is_finished_at book.case.topology node d ≡ b → IsSome book.rows → is_handled d.id book.history ≡ b
found-handled book node sender d is b finished told =
    sym (finished-is book node sender d is.at_work told (lawful-rows book.case book.history book.rows told is.lawful.held).0
    (sent-to book node sender d.id d is.at_work is.part is.sent).there is.sent) ∙ finished

-- it is to be settled where it is not finished and its row is not full
pub found-next : (book : BookView) (node : NodeView) (sender : RowName) (d : Delivery) → IsFound book node sender d
    → is_finished_at book.case.topology node d ≡ false
    → is_full_at book.case.topology (run_of book.case.topology book.history) node d.to ≡ false
    → IsSome book.rows → IsHandledNext book.case book.history sender d
found-next book node sender d is left few told =
    let shape = book.case.topology in
    let run = run_of shape book.history in
    let held = held-there book node d.to is.at_work (sent-to book node sender d.id d is.at_work is.part is.sent).there in record {
      pending = sent-pending book node sender d.id d is.at_work told is.sent;
      left = found-handled book node sender d is false left told;
      room = subst (λ (c : Contents). is_full run c ≡ false) (row-known book node d.to held.0 is.at_work told held.1)
          (full-held shape run node d.to held.0 false held.1 few);
    }

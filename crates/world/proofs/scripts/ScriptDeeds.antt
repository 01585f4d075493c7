-- What the deed of each step keeps of the world.
use Rattle.std.proofs.Common.{◌≡◌, ◌∙◌, ℕ, Bool, true, false, [], ◌∷◌, length, map, refl, sym, inl}
use Rattle.std.specs.Prelude.{if◌then◌else◌, find, nat_le, Option, None, Some, slice_get}
use Rattle.std.specs.Option.{is_some, option_map_or}
use Rattle.std.proofs.lemmas.List.{length-set}
use Rattle.mw_types.specs.declared.entry.Entry.{Entry}
use Rattle.mw_types.specs.declared.entry.Entry.TheVariants as entries
use Rattle.mw_types.specs.declared.identity.RowName.{RowName}
use Rattle.mw_types.specs.declared.timer.Timer.{Timer}
use Rattle.key_intervals.specs.declared.bounds.Bounds.{Bounds}
use Rattle.injector.specs.Sources.{item_at}
use Rattle.topology.specs.Shapes.{Shape}
use Rattle.row_parts.specs.Contents.{is_finished, cursor_in, found_delivery}
use Rattle.run_history.specs.Cases.{CaseShape, intervals_of, record_of, source_of}
use Rattle.computations.specs.Handlers.{OfRecord, OfTimer}
use Rattle.run_history.specs.Legal.{floor_of, outcome_of}
use Rattle.run_history.specs.Marks.{own_work}
use Rattle.run_history.specs.Runs.{run_of}
use Rattle.run_history.specs.Watermarks.{least}
use Rattle.watermark.specs.Marks.{marks_of}
use Rattle.list_lemmas.proofs.Lists.{none_some}
use Rattle.book.specs.Books.{LeaseView}
use Rattle.book.specs.Marks.{reported}
use Rattle.node.specs.Workers.{Sending, Worker, where_passes, with_outgoing, with_written}
use Rattle.node.specs.declared.outcome.Outcome.{Outcome}
use Rattle.node.specs.declared.outcome.Outcome.TheVariants as outcomes
use Rattle.outbox.specs.declared.outgoing.Outgoing.{Outgoing}
use Rattle.outbox.specs.declared.outgoing.Outgoing.TheVariants as outgoing
use Rattle.world.specs.scripts.Acts.{Deed, becomes, claim, copy, copy_message, crash, deed_of, fire, fire_due, fire_effects, fire_under, has_numbers, inject, inject_item, inject_next, least_timer, lose, lose_message, may_forget, must_wait, nothing, pass_on, passed_on, pending_known, purge, purge_first, purge_row, relay, relay_message, relay_next, report, report_own, report_under, resend, send, send_all, sent_after, stays, take, take_again, take_in, take_message, take_new, take_out, write, write_effects, write_prepared, write_under, writes}
use Rattle.world.specs.scripts.Keeping.{KeepsMessages}
use Rattle.world.specs.scripts.Worlds.{World, held_by, in_flight, is_next, lease_of, lease_on, relays_on, row_known, row_of_message, rows_known, run_known, to_pass, worker_of}
use Rattle.weak_relay.specs.Relays.{holds, with_id, without_id}
use Rattle.mw_types.specs.declared.identity.RecordId.{RecordId}
use Rattle.std.specs.Prelude.{nat_lt, ◌||◌, ◌++◌, List, slice_set}
use Rattle.world.proofs.scripts.Messages.{KeepsMessages-trans}
use Rattle.plans.specs.declared.step.Step.{Step}
use Rattle.plans.specs.declared.step.Step.TheVariants as steps
use Rattle.world.proofs.scripts.Leases.{LeasesAfter, LeasesFrom, LeasesFrom-claim}
use Rattle.world.proofs.scripts.Messages.{KeepsMessages-append, KeepsMessages-itself, KeepsMessages-without}

-- what a deed keeps: as many marks, the numbers of messages, and leases that are claims of their workers
pub record IsKeeping (world : World) (deed : Deed) : Type 0 where
  pub marks : length deed.marks ≡ length world.marks
  pub flight : KeepsMessages world.flight deed.flight
  pub leases : LeasesAfter world deed.number deed.entry deed.after

-- ---- the kinds of deeds

-- a worker has the leases that it had
abbrev HasLeases : World → ℕ → Worker → Type 0
HasLeases world number worker = (interval : ℕ) → worker.leases interval ≡ (worker_of world number).leases interval

-- leases that a worker had are from the world
had : (world : World) (number : ℕ) (entry : Option Entry) (worker : Worker) → HasLeases world number worker
    → LeasesFrom world number entry worker
had world number entry worker same interval seq is = inl (sym (same interval) ∙ is)

-- nothing changes
keeps-stays : (world : World) (number : ℕ) (answer : Outcome) → IsKeeping world (stays world number answer)
keeps-stays world number answer = record { marks = refl; flight = KeepsMessages-itself world.flight; leases = tt }

-- a worker becomes another with the same leases
keeps-becomes : (world : World) (number : ℕ) (answer : Outcome) (after : Worker) → HasLeases world number after
    → IsKeeping world (becomes world number answer after)
keeps-becomes world number answer after same = record {
  marks = refl;
  flight = KeepsMessages-itself world.flight;
  leases = had world number None after same;
}

-- a worker writes, and is another then with the same leases
keeps-writes : (world : World) (number : ℕ) (lease : LeaseView) (entry : Entry) (after : Worker) → HasLeases world number after
    → IsKeeping world (writes world number lease entry after)
keeps-writes world number lease entry after same = record {
  marks = refl;
  flight = KeepsMessages-itself world.flight;
  leases = had world number (Some entry) after same;
}

-- a worker writes, and stays as it is
keeps-written : (world : World) (number : ℕ) (lease : LeaseView) (entry : Entry)
    → IsKeeping world (writes world number lease entry (worker_of world number))
keeps-written world number lease entry = keeps-writes world number lease entry (worker_of world number) (λ i. refl)

-- there is nothing to do
keeps-nothing : (world : World) (number : ℕ) → IsKeeping world (nothing world number)
keeps-nothing world number = record { marks = refl; flight = KeepsMessages-itself world.flight; leases = tt }

-- a deed by what is there, or nothing
keeps-option : {X : Type 0} (world : World) (number : ℕ) (f : X → Deed) → ((x : X) → IsKeeping world (f x))
    → (o : Option X) → IsKeeping world (option_map_or f o (nothing world number))
keeps-option world number f each None = keeps-nothing world number
keeps-option world number f each (Some x) = each x

-- one of two deeds
keeps-either : (world : World) (one other : Deed) → IsKeeping world one → IsKeeping world other → (test : Bool)
    → IsKeeping world (if test then one else other)
keeps-either world one other first second true = first
keeps-either world one other first second false = second

-- ---- the steps

-- a claim
keeps-claim : (shape : Shape) (world : World) (number interval : ℕ) → IsKeeping world (claim shape number interval world)
keeps-claim shape world number interval = record {
  marks = refl;
  flight = KeepsMessages-itself world.flight;
  leases = LeasesFrom-claim shape world number interval;
}

-- the next line of an injector
keeps-next : (case : CaseShape) (world : World) (number : ℕ) (name : RowName) (lease : LeaseView)
    → IsKeeping world (inject_next case number world name lease)
keeps-next case world number name lease = let line = cursor_in (row_known case.topology world lease name).state in
    keeps-option world number (inject_item number world name lease line)
    (λ item. keeps-written world number lease (entries.Inject lease.seq name.part line (record_of item)))
    (item_at (source_of case name.part) line)

-- a line
keeps-inject : (case : CaseShape) (world : World) (number part : ℕ) → IsKeeping world (inject case number part world)
keeps-inject case world number part = let name : RowName = record { part = part; key = [] } in
    keeps-option world number (inject_next case number world name) (keeps-next case world number name)
    (lease_on case.topology (worker_of world number) name)

-- an outbox that is sent
keeps-send_all : (world : World) (number : ℕ) → IsKeeping world (send_all number world)
keeps-send_all world number = let worker = worker_of world number in record {
  marks = refl;
  flight = KeepsMessages-append world.flight (map Some worker.outbox);
  leases = had world number None (record worker { outbox = [] }) (λ i. refl);
}

-- an outbox
keeps-send : (world : World) (number : ℕ) → IsKeeping world (send number world)
keeps-send world number = keeps-either world (send_all number world) (nothing world number)
    (keeps-send_all world number) (keeps-nothing world number)
    (has_numbers world.flight (length (worker_of world number).outbox))

-- a message that is taken in
keeps-take_in : (shape : Shape) (world : World) (number : ℕ) (lease : LeaseView) (message : Outgoing)
    → IsKeeping world (take_in shape number world lease message)
keeps-take_in shape world number lease (outgoing.Deliver delivery sender) = keeps-either world
    (take_again number world delivery sender) (take_new number world delivery sender)
    (keeps-becomes world number outcomes.Duplicate
    (with_outgoing (outgoing.Ack sender delivery.id ∷ []) (worker_of world number)) (λ i. refl))
    (keeps-becomes world number outcomes.Prepared
    (record (worker_of world number) { prepared = Some (record { delivery = delivery; sender = sender }) }) (λ i. refl))
    (is_finished delivery.id (row_known shape world lease delivery.to))
keeps-take_in shape world number lease (outgoing.Ack to id) = keeps-either world
    (writes world number lease (entries.Ack lease.seq to id) (worker_of world number)) (nothing world number)
    (keeps-written world number lease (entries.Ack lease.seq to id)) (keeps-nothing world number)
    (is_some (found_delivery id (row_known shape world lease to).pending))

-- a message that leaves flight as well
keeps-take_out : (shape : Shape) (world : World) (number message : ℕ) (taken : Outgoing) (lease : LeaseView)
    → IsKeeping world (take_out shape number message world taken lease)
keeps-take_out shape world number message taken lease = let kept = keeps-take_in shape world number lease taken in record {
  marks = kept.marks;
  flight = KeepsMessages-without world.flight message;
  leases = kept.leases;
}

-- a message whose row a worker has, or not
keeps-mine : (shape : Shape) (world : World) (number message : ℕ) (taken : Outgoing) (lease : Option LeaseView)
    → IsKeeping world (option_map_or (take_out shape number message world taken) lease (stays world number outcomes.NotMine))
keeps-mine shape world number message taken None = keeps-stays world number outcomes.NotMine
keeps-mine shape world number message taken (Some lease) = keeps-take_out shape world number message taken lease

-- a message that is in flight
keeps-take_message : (shape : Shape) (world : World) (number message : ℕ) (taken : Outgoing)
    → IsKeeping world (take_message shape number message world taken)
keeps-take_message shape world number message taken = let worker = worker_of world number in
    let lease = lease_on shape worker (row_of_message taken) in keeps-either world (nothing world number)
    (option_map_or (take_out shape number message world taken) lease (stays world number outcomes.NotMine))
    (keeps-nothing world number) (keeps-mine shape world number message taken lease)
    (nat_lt 0 (to_pass world message) || must_wait worker taken)

-- a message
keeps-take : (shape : Shape) (world : World) (number message : ℕ) → IsKeeping world (take shape number message world)
keeps-take shape world number message = keeps-option world number (take_message shape number message world)
    (keeps-take_message shape world number message) (in_flight world.flight message)

-- a message that is copied
keeps-copied : (world : World) (message : ℕ) (copied : Outgoing)
    → IsKeeping world (record (stays world 0 (outcomes.Copied (length world.flight))) {
      flight = sent_after world.flight (copied ∷ []);
      left = world.left ++ to_pass world message ∷ [];
    })
keeps-copied world message copied = record {
  marks = refl;
  flight = KeepsMessages-append world.flight (map Some (copied ∷ []));
  leases = tt;
}

-- a copy
keeps-copy : (world : World) (message : ℕ) → IsKeeping world (copy message world)
keeps-copy world message = keeps-option world 0 (copy_message message world)
    (λ copied. keeps-either world (record (stays world 0 (outcomes.Copied (length world.flight))) {
      flight = sent_after world.flight (copied ∷ []);
      left = world.left ++ to_pass world message ∷ [];
    }) (nothing world 0) (keeps-copied world message copied) (keeps-nothing world 0) (has_numbers world.flight 1))
    (in_flight world.flight message)

-- a loss
keeps-lose : (world : World) (message : ℕ) → IsKeeping world (lose message world)
keeps-lose world message = keeps-option world 0 (lose_message message world)
    (λ gone. record { marks = refl; flight = KeepsMessages-without world.flight message; leases = tt })
    (in_flight world.flight message)

-- what was prepared, by the row as it is known
keeps-write_under : (case : CaseShape) (world : World) (number : ℕ) (sending : Sending) (lease : LeaseView)
    → IsKeeping world (write_under case number world sending lease)
keeps-write_under case world number sending lease = let delivery = sending.delivery in
    keeps-option world number (write_effects number world sending lease)
    (λ effects. keeps-writes world number lease (entries.Handle lease.seq delivery.to delivery.id effects)
    (with_written (Some sending) (worker_of world number)) (λ i. refl))
    (outcome_of case delivery.to (row_known case.topology world lease delivery.to) (OfRecord delivery.item))

-- what is prepared
keeps-write : (case : CaseShape) (world : World) (number : ℕ) → IsKeeping world (write case number world)
keeps-write case world number = keeps-option world number (write_prepared case number world)
    (λ sending. keeps-option world number (write_under case number world sending)
    (keeps-write_under case world number sending) (lease_on case.topology (worker_of world number) sending.delivery.to))
    (worker_of world number).prepared

-- a timer, by its row as it is known
keeps-fire_under : (case : CaseShape) (world : World) (number mark : ℕ) (due : RowName × Timer) (lease : LeaseView)
    → IsKeeping world (fire_under case number world mark due lease)
keeps-fire_under case world number mark due lease = keeps-option world number (fire_effects number world mark due lease)
    (λ effects. keeps-written world number lease (entries.Fire lease.seq due.0 due.1 mark effects))
    (outcome_of case due.0 (row_known case.topology world lease due.0) (OfTimer due.1))

-- a timer that is due
keeps-fire_due : (case : CaseShape) (world : World) (number mark : ℕ) (due : RowName × Timer)
    → IsKeeping world (fire_due case number world mark due)
keeps-fire_due case world number mark due = let worker = worker_of world number in
    let lease = lease_on case.topology worker due.0 in keeps-either world (nothing world number)
    (option_map_or (fire_under case number world mark due) lease (nothing world number)) (keeps-nothing world number)
    (keeps-option world number (fire_under case number world mark due) (keeps-fire_under case world number mark due) lease)
    (is_some worker.prepared)

-- a timer
keeps-fire : (case : CaseShape) (world : World) (number part : ℕ) → IsKeeping world (fire case number part world)
keeps-fire case world number part = let mark = least (marks_of case.topology part world.marks) in
    keeps-option world number (fire_due case number world mark) (keeps-fire_due case world number mark)
    (where_passes (λ (due : RowName × Timer). nat_le due.1.time mark)
    (least_timer case.topology world (worker_of world number) part))

-- own work
keeps-report_own : (case : CaseShape) (world : World) (number : ℕ) (lease : LeaseView) (bounds : Bounds)
    → IsKeeping world (report_own case number world lease bounds)
keeps-report_own case world number lease bounds = record {
  marks = length-set world.marks lease.interval
      (reported case.topology lease.interval (own_work case (run_known case.topology world lease) bounds) world.marks);
  flight = KeepsMessages-itself world.flight;
  leases = tt;
}

-- a report
keeps-report : (case : CaseShape) (world : World) (number interval : ℕ) → IsKeeping world (report case number interval world)
keeps-report case world number interval = keeps-option world number (report_under case number world)
    (λ lease. keeps-option world number (report_own case number world lease) (keeps-report_own case world number lease)
    (slice_get (intervals_of case.topology) lease.interval))
    (lease_of (worker_of world number) interval)

-- what is pending
keeps-resend : (shape : Shape) (world : World) (number : ℕ) → IsKeeping world (resend shape number world)
keeps-resend shape world number = let worker = worker_of world number in let again = pending_known shape world worker in
    keeps-becomes world number (outcomes.Queued (length again)) (with_outgoing again worker) (λ i. refl)

-- the first row that has ids to forget
keeps-purge_first : (shape : Shape) (world : World) (number : ℕ) (lease : LeaseView)
    → IsKeeping world (purge_first shape number world lease)
keeps-purge_first shape world number lease = let floor = floor_of (run_of shape world.history) in
    let found = find (may_forget floor) (rows_known shape world lease) in keeps-either world (nothing world number)
    (option_map_or (purge_row number world lease floor) found (nothing world number)) (keeps-nothing world number)
    (keeps-option world number (purge_row number world lease floor)
    (λ row. keeps-written world number lease (entries.Purge lease.seq row.0 floor)) found)
    (is_some (worker_of world number).prepared)

-- a purge
keeps-purge : (shape : Shape) (world : World) (number interval : ℕ) → IsKeeping world (purge shape number interval world)
keeps-purge shape world number interval = keeps-option world number (purge_first shape number world)
    (keeps-purge_first shape world number) (lease_of (worker_of world number) interval)

-- a message that goes on
keeps-pass_on : (world : World) (relay message : ℕ) (passed : Outgoing) (held : List RecordId)
    → IsKeeping world (pass_on relay message world passed held)
keeps-pass_on world relay message passed held = keeps-either world (passed_on relay message world passed held) (nothing world 0)
    (record {
      marks = refl;
      flight = KeepsMessages-trans world.flight (slice_set world.flight message None) (slice_set world.flight message None ++ map Some (passed ∷ []))
          (KeepsMessages-without world.flight message) (KeepsMessages-append (slice_set world.flight message None) (map Some (passed ∷ [])));
      leases = tt;
    }) (keeps-nothing world 0) (has_numbers world.flight 1)

-- a message that comes to a relay
keeps-relayed : (world : World) (relay message : ℕ) (next : Outgoing) → IsKeeping world (relay_message relay message world next)
keeps-relayed world relay message (outgoing.Deliver delivery sender) =
    keeps-pass_on world relay message (outgoing.Deliver delivery sender) (with_id delivery.id (held_by world relay))
keeps-relayed world relay message (outgoing.Ack to id) = keeps-either world
    (pass_on relay message world (outgoing.Ack to id) (without_id id (held_by world relay)))
    (lose_message message world (outgoing.Ack to id))
    (keeps-pass_on world relay message (outgoing.Ack to id) (without_id id (held_by world relay)))
    (record { marks = refl; flight = KeepsMessages-without world.flight message; leases = tt }) (holds (held_by world relay) id)

-- a relay
keeps-relay : (world : World) (number message : ℕ) → IsKeeping world (relay number message world)
keeps-relay world number message = keeps-option world 0 (relay_next number message world)
    (λ next. keeps-either world (relay_message number message world next) (nothing world 0) (keeps-relayed world number message next)
    (keeps-nothing world 0) (is_next number (relays_on world.routes next) next (to_pass world message)))
    (in_flight world.flight message)

-- a crash
keeps-crash : (world : World) (number : ℕ) → IsKeeping world (crash number world)
keeps-crash world number = record {
  marks = refl;
  flight = KeepsMessages-itself world.flight;
  leases = λ interval seq is. absurd (none_some seq is);
}

-- each step
pub keeps-step : (case : CaseShape) (world : World) (step : Step) → IsKeeping world (deed_of case world step)
keeps-step case world (steps.Claim worker interval) = keeps-claim case.topology world worker interval
keeps-step case world (steps.Inject worker part) = keeps-inject case world worker part
keeps-step case world (steps.Send worker) = keeps-send world worker
keeps-step case world (steps.Take worker message) = keeps-take case.topology world worker message
keeps-step case world (steps.Write worker) = keeps-write case world worker
keeps-step case world (steps.Fire worker part) = keeps-fire case world worker part
keeps-step case world (steps.Report worker interval) = keeps-report case world worker interval
keeps-step case world (steps.Resend worker) = keeps-resend case.topology world worker
keeps-step case world (steps.Purge worker interval) = keeps-purge case.topology world worker interval
keeps-step case world (steps.Repeat message) = keeps-copy world message
keeps-step case world (steps.Lose message) = keeps-lose world message
keeps-step case world (steps.Relay relay message) = keeps-relay world relay message
keeps-step case world (steps.Forget relay) =
    record { marks = refl; flight = KeepsMessages-itself world.flight; leases = tt }
keeps-step case world (steps.Crash worker) = keeps-crash world worker

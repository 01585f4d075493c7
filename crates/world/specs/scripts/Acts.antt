-- What each step of a script does in the scripted world, and what it answers.
-- Akidau et al., VLDB 2013, section 6.1 for what a worker does on receipt of a record, section 4.6 for
-- timers, section 6.2 for a write under an older sequencer. Own: the steps, and their answers.
use Rattle.std.specs.Prelude.{ℕ, ◌+◌, ◌-◌, ◌==◌, ◌^◌, ◌&&◌, ◌||◌, ◌++◌, ◌∷◌, [], nat_le, nat_lt, if◌then◌else◌, Bool, false, List, filter, find, fold, length, map, slice_get, slice_set, Option, None, Some}
use Rattle.std.specs.List.{filter_map, flat_map, reduce}
use Rattle.std.specs.Option.{is_some, option_and_then, option_map, option_map_or, option_to_list}
use Rattle.std.specs.Ordering.{min_by_ordering}
use Rattle.mw_types.specs.Outcomes.{EffectsView}
use Rattle.mw_types.specs.declared.delivery.Delivery.{Delivery}
use Rattle.mw_types.specs.declared.entry.Entry.{Entry}
use Rattle.mw_types.specs.declared.entry.Entry.TheVariants as entries
use Rattle.mw_types.specs.declared.identity.RecordId.{RecordId}
use Rattle.mw_types.specs.declared.identity.RowName.{RowName}
use Rattle.mw_types.specs.declared.timer.Timer.{Timer}
use Rattle.key_intervals.specs.declared.bounds.Bounds.{Bounds}
use Rattle.injector.specs.Sources.{item_at}
use Rattle.injector.specs.declared.item.Item.{Item}
use Rattle.topology.specs.Folding.{RoutesView}
use Rattle.topology.specs.Shapes.{Shape}
use Rattle.row_parts.specs.Contents.{Contents, is_finished, cursor_in, found_delivery}
use Rattle.run_history.specs.Cases.{CaseShape, intervals_of, record_of, source_of}
use Rattle.computations.specs.Handlers.{OfRecord, OfTimer}
use Rattle.run_history.specs.Legal.{floor_of, outcome_of}
use Rattle.run_history.specs.Made.{row_written}
use Rattle.run_history.specs.Marks.{own_work}
use Rattle.run_history.specs.Runs.{run_of}
use Rattle.run_history.specs.Watermarks.{least}
use Rattle.watermark.specs.Marks.{marks_of}
use Rattle.book.specs.Books.{LeaseView}
use Rattle.book.specs.Marks.{reported, with_mark}
use Rattle.holdings.specs.Timers.{due_cmp}
use Rattle.node.specs.Workers.{Sending, Worker, idle, sends, where_passes, with_lease, with_outgoing, with_written}
use Rattle.node.specs.declared.outcome.Outcome.{Outcome}
use Rattle.node.specs.declared.outcome.Outcome.TheVariants as outcomes
use Rattle.outbox.specs.declared.outgoing.Outgoing.{Outgoing}
use Rattle.outbox.specs.declared.outgoing.Outgoing.TheVariants as outgoing
use Rattle.world.specs.scripts.Worlds.{World, empty_world, held_by, in_flight, is_next, lease_of, lease_on, overtaken_by, relays_on, row_known, row_of_message, rows_known, rows_of_worker, run_known, to_pass, worker_of}
use Rattle.weak_relay.specs.Relays.{holds, with_id, without_id}
use Rattle.plans.specs.declared.step.Step.{Step}
use Rattle.plans.specs.declared.step.Step.TheVariants as steps

-- what a step comes to: its answer; the lease under which it is done, if it is done under one; the worker
-- that does it, and what that worker is then, if it changes; the entry that it writes, if it writes one; and
-- the messages that it leaves, with what they have to pass, what relays hold then, and the marks
pub record Deed : Type 0 where
  pub answer : Outcome
  pub under : Option LeaseView
  pub number : ℕ
  pub after : Option Worker
  pub entry : Option Entry
  pub flight : List (Option Outgoing)
  pub left : List ℕ
  pub relays : List (List RecordId)
  pub marks : List ℕ

-- what a step answers, and the world that it leaves
abbrev pub Acted : Type 0
Acted = Outcome × World

-- ---- when a deed is done

-- a worker with what an entry makes last in its outbox; a claim makes nothing
abbrev pub with_made : Shape → List Entry → Entry → Worker → Worker
with_made shape history entry worker = option_map_or
    (λ (name : RowName). with_outgoing (sends shape history (name, entry)) worker) (row_written entry) worker

-- a worker with what it writes last in its outbox, if it writes anything
abbrev pub with_sends : Shape → List Entry → Option Entry → Worker → Worker
with_sends shape history entry worker =
    option_map_or (λ (e : Entry). with_made shape history e worker) entry worker

-- the workers once one of them is this, if it changes
abbrev pub workers_with : ℕ → Option Worker → List Worker → List Worker
workers_with number after workers =
    option_map_or (λ (worker : Worker). slice_set workers number worker) after workers

-- the world once a deed is done: the entry stands last, and the worker has to send what it makes
abbrev pub changed_by : Shape → World → Deed → World
changed_by shape world deed = record {
  history = world.history ++ option_to_list deed.entry;
  marks = deed.marks;
  workers = workers_with deed.number (option_map (with_sends shape world.history deed.entry) deed.after)
      world.workers;
  flight = deed.flight;
  left = deed.left;
  relays = deed.relays;
  routes = world.routes;
}

-- the world once a deed's lease is found to be overtaken: the worker has lost the lease, with what it had
-- prepared under it; a message that it took stays taken, and nothing else is done
abbrev pub lost : Shape → World → Deed → LeaseView → World
lost shape world deed lease = record world {
  workers = slice_set world.workers deed.number
      (with_lease shape lease.interval None (worker_of world deed.number));
  flight = deed.flight;
}

-- the lease of a deed, with the claim that has overtaken it, where one has
abbrev pub stale_in : List Entry → Option LeaseView → Option (LeaseView × ℕ)
stale_in history under = option_and_then (λ (lease : LeaseView).
    option_map (λ (newer : ℕ). (lease, newer)) (overtaken_by history lease)) under

-- a deed is done, unless its lease was overtaken
abbrev pub done_unless : Shape → World → Deed → Option (LeaseView × ℕ) → Acted
done_unless shape world deed (Some (lease, newer)) = (outcomes.Stale newer, lost shape world deed lease)
done_unless shape world deed None = (deed.answer, changed_by shape world deed)

-- what a deed answers, and the world that it leaves
abbrev pub done : Shape → World → Deed → Acted
done shape world deed = done_unless shape world deed (stale_in world.history deed.under)

-- ---- the kinds of deeds

-- a worker answers this, and nothing changes
abbrev pub stays : World → ℕ → Outcome → Deed
stays world number answer = record {
  answer = answer;
  under = None;
  number = number;
  after = None;
  entry = None;
  flight = world.flight;
  left = world.left;
  relays = world.relays;
  marks = world.marks;
}

-- there is nothing for a worker to do
abbrev pub nothing : World → ℕ → Deed
nothing world number = stays world number outcomes.Nothing

-- a worker answers this, and is another then
abbrev pub becomes : World → ℕ → Outcome → Worker → Deed
becomes world number answer after = record (stays world number answer) { after = Some after }

-- a worker writes an entry under a lease, and is this then
abbrev pub writes : World → ℕ → LeaseView → Entry → Worker → Deed
writes world number lease entry after =
    record (becomes world number (outcomes.Committed (length world.history)) after) {
      under = Some lease;
      entry = Some entry;
    }

-- ---- claims and lines

-- the interval is claimed: the worker has the claim's commit number for it
abbrev pub claim : Shape → ℕ → ℕ → World → Deed
claim shape number interval world = let seq = length world.history in
    record (becomes world number (outcomes.Claimed seq)
    (with_lease shape interval (Some seq) (worker_of world number))) {
      entry = Some (entries.Claim number interval);
    }

-- a worker injects a line of an injector
abbrev pub inject_item : ℕ → World → RowName → LeaseView → ℕ → Item → Deed
inject_item number world name lease line item =
    writes world number lease (entries.Inject lease.seq name.part line (record_of item))
    (worker_of world number)

-- a worker injects the next line of an injector's row, if there is one
abbrev pub inject_next : CaseShape → ℕ → World → RowName → LeaseView → Deed
inject_next case number world name lease =
    let line = cursor_in (row_known case.topology world lease name).state in
    option_map_or (inject_item number world name lease line) (item_at (source_of case name.part) line)
    (nothing world number)

-- a worker injects the next line of an injector whose row it has
abbrev pub inject : CaseShape → ℕ → ℕ → World → Deed
inject case number part world = let name : RowName = record { part = part; key = [] } in
    option_map_or (inject_next case number world name)
    (lease_on case.topology (worker_of world number) name) (nothing world number)

-- ---- messages

-- whether there are numbers for so many messages more
abbrev pub has_numbers : List (Option Outgoing) → ℕ → Bool
has_numbers flight count = nat_le (length flight + count) (2 ^ 32)

-- messages come into flight, and each gets the next number
abbrev pub sent_after : List (Option Outgoing) → List Outgoing → List (Option Outgoing)
sent_after flight messages = flight ++ map Some messages

-- the messages in flight once this one is gone
abbrev pub without_message : ℕ → List (Option Outgoing) → List (Option Outgoing)
without_message message flight = slice_set flight message None

-- the whole outbox goes to flight, in order
abbrev pub send_all : ℕ → World → Deed
send_all number world = let worker = worker_of world number in
    record (becomes world number (outcomes.Sent (length worker.outbox)) (record worker { outbox = [] })) {
      flight = sent_after world.flight worker.outbox;
      left = world.left ++ map (λ (m : Outgoing). length (relays_on world.routes m)) worker.outbox;
    }

-- the whole outbox goes to flight, if there are numbers for it
abbrev pub send : ℕ → World → Deed
send number world = if has_numbers world.flight (length (worker_of world number).outbox)
    then send_all number world
    else nothing world number

-- a record that comes again is acknowledged again
abbrev pub take_again : ℕ → World → Delivery → RowName → Deed
take_again number world delivery sender = becomes world number outcomes.Duplicate
    (with_outgoing (outgoing.Ack sender delivery.id ∷ []) (worker_of world number))

-- a record is handled, and is still to be written
abbrev pub take_new : ℕ → World → Delivery → RowName → Deed
take_new number world delivery sender = becomes world number outcomes.Prepared
    (record (worker_of world number) { prepared = Some (record { delivery = delivery; sender = sender }) })

-- a worker takes in a message under a lease of its row: a record is new unless it is finished there, and an
-- acknowledgement is written where its record is pending
abbrev pub take_in : Shape → ℕ → World → LeaseView → Outgoing → Deed
take_in shape number world lease (outgoing.Deliver delivery sender) =
    if is_finished delivery.id (row_known shape world lease delivery.to)
    then take_again number world delivery sender
    else take_new number world delivery sender
take_in shape number world lease (outgoing.Ack to id) =
    if is_some (found_delivery id (row_known shape world lease to).pending)
    then writes world number lease (entries.Ack lease.seq to id) (worker_of world number)
    else nothing world number

-- a message leaves flight for a worker that has its row
abbrev pub take_out : Shape → ℕ → ℕ → World → Outgoing → LeaseView → Deed
take_out shape number message world taken lease =
    record (take_in shape number world lease taken) { flight = without_message message world.flight }

-- whether a message has to wait: a record does while another is prepared
abbrev pub must_wait : Worker → Outgoing → Bool
must_wait worker (outgoing.Deliver delivery sender) = is_some worker.prepared
must_wait worker (outgoing.Ack to id) = false

-- a worker takes a message, unless relays come first, or it has to wait, or another has its row
abbrev pub take_message : Shape → ℕ → ℕ → World → Outgoing → Deed
take_message shape number message world taken = let worker = worker_of world number in
    if nat_lt 0 (to_pass world message) || must_wait worker taken
    then nothing world number
    else option_map_or (take_out shape number message world taken)
    (lease_on shape worker (row_of_message taken)) (stays world number outcomes.NotMine)

-- a worker takes a message that is in flight
abbrev pub take : Shape → ℕ → ℕ → World → Deed
take shape number message world = option_map_or (take_message shape number message world)
    (in_flight world.flight message) (nothing world number)

-- a message that is in flight is there once more, under the next number, with as many relays to pass
abbrev pub copy_message : ℕ → World → Outgoing → Deed
copy_message message world copied = if has_numbers world.flight 1
    then record (stays world 0 (outcomes.Copied (length world.flight))) {
      flight = sent_after world.flight (copied ∷ []);
      left = world.left ++ to_pass world message ∷ [];
    }
    else nothing world 0

-- a message is copied, if it is in flight
abbrev pub copy : ℕ → World → Deed
copy message world =
    option_map_or (copy_message message world) (in_flight world.flight message) (nothing world 0)

-- a message that is in flight is lost
abbrev pub lose_message : ℕ → World → Outgoing → Deed
lose_message message world lost_one =
    record (stays world 0 outcomes.Lost) { flight = without_message message world.flight }

-- a message is lost, if it is in flight
abbrev pub lose : ℕ → World → Deed
lose message world =
    option_map_or (lose_message message world) (in_flight world.flight message) (nothing world 0)

-- ---- relays

-- a message leaves flight, an equal one gets the next number, with one relay less to pass, and the relay holds
-- these ids
abbrev pub passed_on : ℕ → ℕ → World → Outgoing → List RecordId → Deed
passed_on relay message world passed held = record (stays world 0 (outcomes.Sent 1)) {
  flight = sent_after (without_message message world.flight) (passed ∷ []);
  left = world.left ++ (to_pass world message - 1) ∷ [];
  relays = slice_set world.relays relay held;
}

-- a message passes a relay, if there is a number for it
abbrev pub pass_on : ℕ → ℕ → World → Outgoing → List RecordId → Deed
pass_on relay message world passed held = if has_numbers world.flight 1
    then passed_on relay message world passed held
    else nothing world 0

-- a record passes, and its id is held; word of it passes where its id is held, which then it is no more, and
-- else is lost
abbrev pub relay_message : ℕ → ℕ → World → Outgoing → Deed
relay_message relay message world (outgoing.Deliver delivery sender) = pass_on relay message world
    (outgoing.Deliver delivery sender) (with_id delivery.id (held_by world relay))
relay_message relay message world (outgoing.Ack to id) = if holds (held_by world relay) id
    then pass_on relay message world (outgoing.Ack to id) (without_id id (held_by world relay))
    else lose_message message world (outgoing.Ack to id)

-- a message comes to a relay, if that is the next on its way
abbrev pub relay_next : ℕ → ℕ → World → Outgoing → Deed
relay_next relay message world next =
    if is_next relay (relays_on world.routes next) next (to_pass world message)
    then relay_message relay message world next
    else nothing world 0

-- a message that is in flight comes to a relay
abbrev pub relay : ℕ → ℕ → World → Deed
relay number message world =
    option_map_or (relay_next number message world) (in_flight world.flight message) (nothing world 0)

-- a relay forgets the ids that it holds
abbrev pub forget : ℕ → World → Deed
forget number world =
    record (stays world 0 outcomes.Crashed) { relays = slice_set world.relays number [] }

-- ---- what is prepared

-- a worker writes what a handler left of the record that it has prepared; its acknowledgement is sent before
-- what that makes
abbrev pub write_effects : ℕ → World → Sending → LeaseView → EffectsView → Deed
write_effects number world sending lease effects = let delivery = sending.delivery in
    writes world number lease (entries.Handle lease.seq delivery.to delivery.id effects)
    (with_written (Some sending) (worker_of world number))

-- a worker writes what it has prepared, by the row as it knows it
abbrev pub write_under : CaseShape → ℕ → World → Sending → LeaseView → Deed
write_under case number world sending lease = let name = sending.delivery.to in
    option_map_or (write_effects number world sending lease)
    (outcome_of case name (row_known case.topology world lease name) (OfRecord sending.delivery.item))
    (nothing world number)

-- a worker writes a record that it has prepared for a row that it has
abbrev pub write_prepared : CaseShape → ℕ → World → Sending → Deed
write_prepared case number world sending = option_map_or (write_under case number world sending)
    (lease_on case.topology (worker_of world number) sending.delivery.to) (nothing world number)

-- a worker writes what it has prepared
abbrev pub write : CaseShape → ℕ → World → Deed
write case number world =
    option_map_or (write_prepared case number world) (worker_of world number).prepared (nothing world number)

-- ---- timers

-- the timers of a row, each with the row's name
abbrev pub timers_in : RowName × Contents → List (RowName × Timer)
timers_in row = map (λ (t : Timer). (row.0, t)) row.1.timers

-- the timers of a part that a worker knows, each with its row
abbrev pub timers_known : Shape → World → Worker → ℕ → List (RowName × Timer)
timers_known shape world worker part = flat_map timers_in
    (filter (λ (r : RowName × Contents). r.0.part == part) (rows_of_worker shape world worker))

-- the least timer of a part that a worker knows
abbrev pub least_timer : Shape → World → Worker → ℕ → Option (RowName × Timer)
least_timer shape world worker part =
    reduce (λ a b. min_by_ordering (due_cmp a b) a b) (timers_known shape world worker part)

-- a worker writes what a handler left of a timer
abbrev pub fire_effects : ℕ → World → ℕ → RowName × Timer → LeaseView → EffectsView → Deed
fire_effects number world mark due lease effects =
    writes world number lease (entries.Fire lease.seq due.0 due.1 mark effects) (worker_of world number)

-- a worker fires a timer, by the row as it knows it
abbrev pub fire_under : CaseShape → ℕ → World → ℕ → RowName × Timer → LeaseView → Deed
fire_under case number world mark due lease = option_map_or (fire_effects number world mark due lease)
    (outcome_of case due.0 (row_known case.topology world lease due.0) (OfTimer due.1)) (nothing world number)

-- a worker fires a timer of a row that it has, where nothing is prepared
abbrev pub fire_due : CaseShape → ℕ → World → ℕ → RowName × Timer → Deed
fire_due case number world mark due = let worker = worker_of world number in
    if is_some worker.prepared
    then nothing world number
    else option_map_or (fire_under case number world mark due)
    (lease_on case.topology worker due.0) (nothing world number)

-- a worker fires the least timer of a part, where that is due under the least mark of the part
abbrev pub fire : CaseShape → ℕ → ℕ → World → Deed
fire case number part world =
    let mark = least (marks_of case.topology part world.marks) in
    option_map_or (fire_due case number world mark)
    (where_passes (λ (due : RowName × Timer). nat_le due.1.time mark)
    (least_timer case.topology world (worker_of world number) part))
    (nothing world number)

-- ---- marks

-- the mark of an interval becomes what is reported of the interval's own work, as the worker knows it
abbrev pub report_own : CaseShape → ℕ → World → LeaseView → Bounds → Deed
report_own case number world lease bounds =
    let own = own_work case (run_known case.topology world lease) bounds in
    let mark = reported case.topology lease.interval own world.marks in
    record (stays world number (outcomes.Marked mark)) {
      under = Some lease;
      marks = with_mark lease.interval mark world.marks;
    }

-- a worker reports on the interval of a lease
abbrev pub report_under : CaseShape → ℕ → World → LeaseView → Deed
report_under case number world lease = option_map_or (report_own case number world lease)
    (slice_get (intervals_of case.topology) lease.interval) (nothing world number)

-- a worker reports on an interval that it has
abbrev pub report : CaseShape → ℕ → ℕ → World → Deed
report case number interval world = option_map_or (report_under case number world)
    (lease_of (worker_of world number) interval) (nothing world number)

-- ---- what is sent again

-- whether a record is pending in a row, as it is known under a lease
abbrev pub is_pending_in : Shape → World → RecordId → RowName → LeaseView → Bool
is_pending_in shape world id name lease =
    is_some (found_delivery id (row_known shape world lease name).pending)

-- whether a worker has a row, and knows a record as pending there
abbrev pub is_pending_on : Shape → World → Worker → RecordId → RowName → Bool
is_pending_on shape world worker id name =
    option_map_or (is_pending_in shape world id name) (lease_on shape worker name) false

-- the row that made a record, where a worker has it and knows the record as pending there
abbrev pub sender_known : Shape → World → Worker → Delivery → Option RowName
sender_known shape world worker d = where_passes (is_pending_on shape world worker d.id)
    (option_and_then row_written (slice_get world.history d.id.commit))

-- all that a worker knows as pending, in the order in which it was made
abbrev pub pending_known : Shape → World → Worker → List Outgoing
pending_known shape world worker = filter_map
    (λ (d : Delivery). option_map (outgoing.Deliver d) (sender_known shape world worker d))
    (run_of shape world.history).made

-- all that a worker knows as pending is to be sent once more
abbrev pub resend : Shape → ℕ → World → Deed
resend shape number world = let worker = worker_of world number in
    let again = pending_known shape world worker in
    becomes world number (outcomes.Queued (length again)) (with_outgoing again worker)

-- ---- purges

-- whether a row has ids to forget under this floor
abbrev pub may_forget : ℕ → RowName × Contents → Bool
may_forget floor row = nat_lt 0 (length row.1.seen) && nat_lt row.1.floor floor

-- a row forgets the ids below a floor
abbrev pub purge_row : ℕ → World → LeaseView → ℕ → RowName × Contents → Deed
purge_row number world lease floor row =
    writes world number lease (entries.Purge lease.seq row.0 floor) (worker_of world number)

-- the first row of a lease's interval that has ids to forget forgets them, where nothing is prepared
abbrev pub purge_first : Shape → ℕ → World → LeaseView → Deed
purge_first shape number world lease = let floor = floor_of (run_of shape world.history) in
    if is_some (worker_of world number).prepared
    then nothing world number
    else option_map_or (purge_row number world lease floor)
    (find (may_forget floor) (rows_known shape world lease)) (nothing world number)

-- a worker purges a row of an interval that it has
abbrev pub purge : Shape → ℕ → ℕ → World → Deed
purge shape number interval world = option_map_or (purge_first shape number world)
    (lease_of (worker_of world number) interval) (nothing world number)

-- ---- the steps

-- a worker forgets all
abbrev pub crash : ℕ → World → Deed
crash number world = becomes world number outcomes.Crashed idle

-- the deed of a step
abbrev pub deed_of : CaseShape → World → Step → Deed
deed_of case world (steps.Claim worker interval) = claim case.topology worker interval world
deed_of case world (steps.Inject worker part) = inject case worker part world
deed_of case world (steps.Send worker) = send worker world
deed_of case world (steps.Take worker message) = take case.topology worker message world
deed_of case world (steps.Write worker) = write case worker world
deed_of case world (steps.Fire worker part) = fire case worker part world
deed_of case world (steps.Report worker interval) = report case worker interval world
deed_of case world (steps.Resend worker) = resend case.topology worker world
deed_of case world (steps.Purge worker interval) = purge case.topology worker interval world
deed_of case world (steps.Repeat message) = copy message world
deed_of case world (steps.Lose message) = lose message world
deed_of case world (steps.Relay number message) = relay number message world
deed_of case world (steps.Forget number) = forget number world
deed_of case world (steps.Crash worker) = crash worker world

-- what a step answers, and the world that it leaves
abbrev pub act : CaseShape → World → Step → Acted
act case world step = done case.topology world (deed_of case world step)

-- the world after one more step
abbrev pub world_then : CaseShape → World → Step → World
world_then case world step = (act case world step).1

-- the world after the steps of a script
abbrev pub world_after : CaseShape → World → List Step → World
world_after case world script = fold (world_then case) world script

-- what the steps of a script answer, in order
abbrev pub answers : CaseShape → World → List Step → List Outcome
answers case world [] = []
answers case world (step ∷ script) =
    (act case world step).0 ∷ answers case (world_then case world step) script

-- the history that a script writes
abbrev pub scripted_history : RoutesView → CaseShape → List Step → List Entry
scripted_history routes case script = (world_after case (empty_world routes case.topology) script).history

-- Each entry that a script writes is under the last claim of its row's interval.
use Rattle.std.proofs.Common.{◌≡◌, ◌∙◌, ◌++◌, ℕ, Bool, true, false, List, [], ◌∷◌, length, refl, sym, ap, subst, arith, inl, inr}
use Rattle.std.specs.Prelude.{◌⊎◌, if◌then◌else◌, ⊤, find, nat_le, Option, None, Some, slice_get}
use Rattle.std.specs.Option.{is_some, option_and_then, option_map, option_map_or, option_to_list}
use Rattle.std.proofs.lemmas.Bool.{cases_lt}
use Rattle.std.proofs.lemmas.List.{append-nil}
use Rattle.mw_types.specs.declared.entry.Entry.{Entry}
use Rattle.mw_types.specs.declared.entry.Entry.TheVariants as entries
use Rattle.mw_types.specs.declared.identity.RecordId.{RecordId}
use Rattle.mw_types.specs.declared.identity.RowName.{RowName}
use Rattle.mw_types.specs.declared.timer.Timer.{Timer}
use Rattle.key_intervals.specs.Intervals.{covers, rows_covered}
use Rattle.key_intervals.specs.declared.bounds.Bounds.{Bounds}
use Rattle.injector.specs.Sources.{item_at}
use Rattle.topology.specs.Rules.{IsTopology}
use Rattle.topology.specs.Shapes.{Shape}
use Rattle.row_parts.specs.Contents.{Contents, is_finished, cursor_in, found_delivery}
use Rattle.run_history.specs.Cases.{CaseShape, intervals_of, record_of, source_of}
use Rattle.run_history.specs.Fences.{IsCurrent, IsFenced, interval_of, sequencer_of}
use Rattle.computations.specs.Handlers.{OfRecord, OfTimer}
use Rattle.run_history.specs.Legal.{floor_of, outcome_of}
use Rattle.run_history.specs.Made.{row_written}
use Rattle.run_history.specs.Runs.{run_of}
use Rattle.run_history.specs.Watermarks.{least}
use Rattle.run_history.proofs.Claims.{last_claim-latest}
use Rattle.run_history.proofs.Fenced.{IsFenced-push, entry-under}
use Rattle.run_history.proofs.IntervalLaws.{are-intervals, has-interval_of}
use Rattle.list_lemmas.proofs.Lists.{filter-passes, find-each, none_some, some_same}
use Rattle.watermark.specs.Marks.{marks_of}
use Rattle.book.specs.Books.{LeaseView}
use Rattle.node.specs.Workers.{Worker, where_passes, with_written}
use Rattle.node.specs.declared.outcome.Outcome.TheVariants as outcomes
use Rattle.outbox.specs.declared.outgoing.Outgoing.{Outgoing}
use Rattle.outbox.specs.declared.outgoing.Outgoing.TheVariants as outgoing
use Rattle.world.specs.scripts.Acts.{Deed, copy_message, deed_of, done_unless, fire, fire_due, fire_effects, fire_under, has_numbers, inject, inject_item, inject_next, least_timer, lose_message, may_forget, must_wait, nothing, pass_on, passed_on, purge, purge_first, purge_row, relay_message, relay_next, report_own, report_under, send_all, sent_after, stale_in, stays, take, take_again, take_in, take_message, take_new, take_out, world_after, world_then, write, write_effects, write_prepared, write_under, writes}
use Rattle.world.specs.scripts.Keeping.{AreClaimed}
use Rattle.world.specs.scripts.Worlds.{World, held_by, in_flight, is_next, lease_of, lease_on, overtaken_by, relays_on, row_known, row_of_message, rows_known, run_known, to_pass, worker_of, world_on}
use Rattle.weak_relay.specs.Relays.{holds, with_id, without_id}
use Rattle.std.specs.Prelude.{nat_lt, ◌||◌, ◌++◌, ◌∷◌, []}
use Rattle.topology.specs.Folding.{RoutesView}
use Rattle.plans.specs.declared.step.Step.{Step}
use Rattle.plans.specs.declared.step.Step.TheVariants as steps
use Rattle.world.proofs.scripts.Leases.{AreClaimed-first}
use Rattle.world.proofs.scripts.OwnerLaws.{later-overtakes}
use Rattle.world.proofs.scripts.Steps.{along_script, step-claimed}

-- ---- leases

-- a lease that a worker has is for its interval, with the worker's sequencer
record IsLeaseHad (worker : Worker) (interval : ℕ) (lease : LeaseView) : Type 0 where
  pub of_interval : lease.interval ≡ interval
  pub seq : worker.leases lease.interval ≡ Some lease.seq

-- a lease that is found is one that the worker has
lease_of-had : (worker : Worker) (interval : ℕ) (lease : LeaseView) → lease_of worker interval ≡ Some lease
    → IsLeaseHad worker interval lease
lease_of-had worker interval lease found = by_seq (worker.leases interval) refl found
  where
    by_seq : (o : Option ℕ) → worker.leases interval ≡ o
        → option_map (λ (seq : ℕ). record { interval = interval; seq = seq }) o ≡ Some lease → IsLeaseHad worker interval lease
    by_seq None none is = absurd (none_some lease is)
    by_seq (Some seq) there is = let same = some_same (record { interval = interval; seq = seq }) lease is in
        subst (IsLeaseHad worker interval) same (record { of_interval = refl; seq = there })

-- a lease of a row's interval
record IsLeaseOn (shape : Shape) (worker : Worker) (name : RowName) (lease : LeaseView) : Type 0 where
  pub lies : interval_of shape name ≡ Some lease.interval
  pub seq : worker.leases lease.interval ≡ Some lease.seq

-- a lease that is found for a row
lease_on-had : (shape : Shape) (worker : Worker) (name : RowName) (lease : LeaseView) → lease_on shape worker name ≡ Some lease
    → IsLeaseOn shape worker name lease
lease_on-had shape worker name lease found = by_interval (interval_of shape name) refl found
  where
    by_interval : (o : Option ℕ) → interval_of shape name ≡ o → option_and_then (lease_of worker) o ≡ Some lease
        → IsLeaseOn shape worker name lease
    by_interval None none is = absurd (none_some lease is)
    by_interval (Some interval) there is = let had = lease_of-had worker interval lease is in
        record { lies = there ∙ sym (ap Some had.of_interval); seq = had.seq }

-- a claim that no later one has overtaken is the last
current-of : (history : List Entry) (lease : LeaseView) (worker : ℕ)
    → slice_get history lease.seq ≡ Some (entries.Claim worker lease.interval) → overtaken_by history lease ≡ None
    → IsCurrent lease.interval lease.seq history
current-of history lease worker there none = let last = last_claim-latest lease.interval lease.seq worker history there in
    elim (cases_lt lease.seq last.0) [
      | inl less ↦ absurd (none_some last.0 (sym none ∙ later-overtakes history lease last.0 (last.2, less)))
      | inr most ↦ last.2 ∙ ap Some (let at_least = last.1 in omega (arith, most, at_least))
    ]

-- ---- what a deed writes

-- an entry is on a row of the interval of the lease under which it is written
record IsWriteOf (shape : Shape) (world : World) (under : Option LeaseView) (number : ℕ) (entry : Entry) : Type 0 where
  pub lease : LeaseView
  pub is_under : under ≡ Some lease
  pub name : RowName
  pub on_row : row_written entry ≡ Some name
  pub on : IsLeaseOn shape (worker_of world number) name lease
  pub carries : sequencer_of entry ≡ Some lease.seq

-- what is written is a claim, or under a lease
abbrev IsUnder : Shape → World → Option LeaseView → ℕ → Option Entry → Type 0
IsUnder shape world under number None = ⊤
IsUnder shape world under number (Some entry) = (row_written entry ≡ None) ⊎ IsWriteOf shape world under number entry

-- the same of a deed
abbrev IsOwn : Shape → World → Deed → Type 0
IsOwn shape world deed = IsUnder shape world deed.under deed.number deed.entry

-- a deed by what is there, or nothing
own-option : {X : Type 0} (shape : Shape) (world : World) (number : ℕ) (f : X → Deed) (o : Option X)
    → ((x : X) → o ≡ Some x → IsOwn shape world (f x)) → IsOwn shape world (option_map_or f o (nothing world number))
own-option shape world number f None each = tt
own-option shape world number f (Some x) each = each x refl

-- one of two deeds
own-either : (shape : Shape) (world : World) (one other : Deed) → IsOwn shape world one → IsOwn shape world other → (test : Bool)
    → IsOwn shape world (if test then one else other)
own-either shape world one other first second true = first
own-either shape world one other first second false = second

-- a deed that writes under a lease of a row
own-writes : (shape : Shape) (world : World) (number : ℕ) (lease : LeaseView) (entry : Entry) (after : Worker) (name : RowName)
    → IsLeaseOn shape (worker_of world number) name lease → row_written entry ≡ Some name → sequencer_of entry ≡ Some lease.seq
    → IsOwn shape world (writes world number lease entry after)
own-writes shape world number lease entry after name on written carries =
    inr (record { lease = lease; is_under = refl; name = name; on_row = written; on = on; carries = carries })

-- ---- the steps

-- a line
own-inject : (case : CaseShape) (world : World) (number part : ℕ) → IsOwn case.topology world (inject case number part world)
own-inject case world number part = let shape = case.topology in let name : RowName = record { part = part; key = [] } in
    own-option shape world number (inject_next case number world name) (lease_on shape (worker_of world number) name)
    (λ lease found. let line = cursor_in (row_known shape world lease name).state in
    own-option shape world number (inject_item number world name lease line) (item_at (source_of case name.part) line)
    (λ item there. own-writes shape world number lease (entries.Inject lease.seq name.part line (record_of item))
    (worker_of world number) name (lease_on-had shape (worker_of world number) name lease found) refl refl))

-- a message that is taken in
own-take_in : (shape : Shape) (world : World) (number : ℕ) (lease : LeaseView) (message : Outgoing)
    → lease_on shape (worker_of world number) (row_of_message message) ≡ Some lease
    → IsOwn shape world (take_in shape number world lease message)
own-take_in shape world number lease (outgoing.Deliver delivery sender) found = own-either shape world
    (take_again number world delivery sender) (take_new number world delivery sender) tt tt
    (is_finished delivery.id (row_known shape world lease delivery.to))
own-take_in shape world number lease (outgoing.Ack to id) found = own-either shape world
    (writes world number lease (entries.Ack lease.seq to id) (worker_of world number)) (nothing world number)
    (own-writes shape world number lease (entries.Ack lease.seq to id) (worker_of world number) to
    (lease_on-had shape (worker_of world number) to lease found) refl refl) tt
    (is_some (found_delivery id (row_known shape world lease to).pending))

-- a message whose row a worker has, or not
own-mine : (shape : Shape) (world : World) (number message : ℕ) (taken : Outgoing) (lease : Option LeaseView)
    → lease_on shape (worker_of world number) (row_of_message taken) ≡ lease
    → IsOwn shape world (option_map_or (take_out shape number message world taken) lease (stays world number outcomes.NotMine))
own-mine shape world number message taken None found = tt
own-mine shape world number message taken (Some lease) found = own-take_in shape world number lease taken found

-- a message
own-take : (shape : Shape) (world : World) (number message : ℕ) → IsOwn shape world (take shape number message world)
own-take shape world number message = own-option shape world number (take_message shape number message world)
    (in_flight world.flight message) (λ taken there. let worker = worker_of world number in
    let lease = lease_on shape worker (row_of_message taken) in own-either shape world (nothing world number)
    (option_map_or (take_out shape number message world taken) lease (stays world number outcomes.NotMine)) tt
    (own-mine shape world number message taken lease refl) (nat_lt 0 (to_pass world message) || must_wait worker taken))

-- what is prepared
own-write : (case : CaseShape) (world : World) (number : ℕ) → IsOwn case.topology world (write case number world)
own-write case world number = let shape = case.topology in let worker = worker_of world number in
    own-option shape world number (write_prepared case number world) worker.prepared
    (λ sending there. let delivery = sending.delivery in
    own-option shape world number (write_under case number world sending) (lease_on shape worker delivery.to)
    (λ lease found. own-option shape world number (write_effects number world sending lease)
    (outcome_of case delivery.to (row_known shape world lease delivery.to) (OfRecord delivery.item))
    (λ effects does. own-writes shape world number lease (entries.Handle lease.seq delivery.to delivery.id effects)
    (with_written (Some sending) worker) delivery.to (lease_on-had shape worker delivery.to lease found) refl refl)))

-- a timer
own-fire : (case : CaseShape) (world : World) (number part : ℕ) → IsOwn case.topology world (fire case number part world)
own-fire case world number part = let shape = case.topology in let worker = worker_of world number in
    let mark = least (marks_of shape part world.marks) in own-option shape world number (fire_due case number world mark)
    (where_passes (λ (due : RowName × Timer). nat_le due.1.time mark) (least_timer shape world worker part))
    (λ due there. own-either shape world (nothing world number)
    (option_map_or (fire_under case number world mark due) (lease_on shape worker due.0) (nothing world number)) tt
    (own-option shape world number (fire_under case number world mark due) (lease_on shape worker due.0)
    (λ lease found. own-option shape world number (fire_effects number world mark due lease)
    (outcome_of case due.0 (row_known shape world lease due.0) (OfTimer due.1))
    (λ effects does. own-writes shape world number lease (entries.Fire lease.seq due.0 due.1 mark effects) worker due.0
    (lease_on-had shape worker due.0 lease found) refl refl)))
    (is_some worker.prepared))

-- a row that is known under a lease lies in the lease's interval
known-lies : (shape : Shape) (world : World) (lease : LeaseView) (test : RowName × Contents → Bool) (row : RowName × Contents)
    → IsTopology shape → find test (rows_known shape world lease) ≡ Some row → interval_of shape row.0 ≡ Some lease.interval
known-lies shape world lease test row topology found = by_bounds (slice_get (intervals_of shape) lease.interval) refl found
  where
    by_bounds : (o : Option Bounds) → slice_get (intervals_of shape) lease.interval ≡ o
        → find test (option_map_or (λ (bounds : Bounds). rows_covered bounds (run_known shape world lease).rows) o []) ≡ Some row
        → interval_of shape row.0 ≡ Some lease.interval
    by_bounds None none is = absurd (none_some row is)
    by_bounds (Some bounds) there is = has-interval_of shape lease.interval row.0 (are-intervals shape topology) (
      bounds,
      there,
      find-each (λ (r : RowName × Contents). covers bounds r.0 ≡ true) test (rows_covered bounds (run_known shape world lease).rows) row
          (filter-passes (λ (r : RowName × Contents). covers bounds r.0) (run_known shape world lease).rows) is,
    )

-- a purge
own-purge : (shape : Shape) (world : World) (number interval : ℕ) → IsTopology shape
    → IsOwn shape world (purge shape number interval world)
own-purge shape world number interval topology = let worker = worker_of world number in
    own-option shape world number (purge_first shape number world) (lease_of worker interval)
    (λ lease found. let floor = floor_of (run_of shape world.history) in
    let row = find (may_forget floor) (rows_known shape world lease) in own-either shape world (nothing world number)
    (option_map_or (purge_row number world lease floor) row (nothing world number)) tt
    (own-option shape world number (purge_row number world lease floor) row
    (λ r there. own-writes shape world number lease (entries.Purge lease.seq r.0 floor) worker r.0
    (record {
      lies = known-lies shape world lease (may_forget floor) r topology there;
      seq = (lease_of-had worker interval lease found).seq;
    }) refl refl))
    (is_some worker.prepared))

-- a message that goes on
own-pass_on : (shape : Shape) (world : World) (relay message : ℕ) (passed : Outgoing) (held : List RecordId)
    → IsOwn shape world (pass_on relay message world passed held)
own-pass_on shape world relay message passed held = own-either shape world (passed_on relay message world passed held)
    (nothing world 0) tt tt (has_numbers world.flight 1)

-- a message that comes to a relay
own-relayed : (shape : Shape) (world : World) (relay message : ℕ) (next : Outgoing) → IsOwn shape world (relay_message relay message world next)
own-relayed shape world relay message (outgoing.Deliver delivery sender) =
    own-pass_on shape world relay message (outgoing.Deliver delivery sender) (with_id delivery.id (held_by world relay))
own-relayed shape world relay message (outgoing.Ack to id) = own-either shape world
    (pass_on relay message world (outgoing.Ack to id) (without_id id (held_by world relay)))
    (lose_message message world (outgoing.Ack to id))
    (own-pass_on shape world relay message (outgoing.Ack to id) (without_id id (held_by world relay))) tt (holds (held_by world relay) id)

-- a relay that a message comes to next, or not
own-relay : (shape : Shape) (world : World) (relay message : ℕ) (next : Outgoing) → IsOwn shape world (relay_next relay message world next)
own-relay shape world relay message next = own-either shape world (relay_message relay message world next) (nothing world 0)
    (own-relayed shape world relay message next) tt (is_next relay (relays_on world.routes next) next (to_pass world message))

-- each step
own-step : (case : CaseShape) (world : World) (step : Step) → IsTopology case.topology
    → IsOwn case.topology world (deed_of case world step)
own-step case world (steps.Claim worker interval) topology = inl refl
own-step case world (steps.Inject worker part) topology = own-inject case world worker part
own-step case world (steps.Send worker) topology = own-either case.topology world (send_all worker world) (nothing world worker) tt tt
    (has_numbers world.flight (length (worker_of world worker).outbox))
own-step case world (steps.Take worker message) topology = own-take case.topology world worker message
own-step case world (steps.Write worker) topology = own-write case world worker
own-step case world (steps.Fire worker part) topology = own-fire case world worker part
own-step case world (steps.Report worker interval) topology = own-option case.topology world worker (report_under case worker world)
    (lease_of (worker_of world worker) interval) (λ lease found. own-option case.topology world worker
    (report_own case worker world lease) (slice_get (intervals_of case.topology) lease.interval) (λ bounds there. tt))
own-step case world (steps.Resend worker) topology = tt
own-step case world (steps.Purge worker interval) topology = own-purge case.topology world worker interval topology
own-step case world (steps.Repeat message) topology = own-option case.topology world 0 (copy_message message world)
    (in_flight world.flight message) (λ copied there. own-either case.topology world
    (record (stays world 0 (outcomes.Copied (length world.flight))) {
      flight = sent_after world.flight (copied ∷ []);
      left = world.left ++ to_pass world message ∷ [];
    })
    (nothing world 0) tt tt (has_numbers world.flight 1))
own-step case world (steps.Lose message) topology = own-option case.topology world 0 (lose_message message world)
    (in_flight world.flight message) (λ gone there. tt)
own-step case world (steps.Relay relay message) topology = own-option case.topology world 0 (relay_next relay message world)
    (in_flight world.flight message) (λ next there. own-relay case.topology world relay message next)
own-step case world (steps.Forget relay) topology = tt
own-step case world (steps.Crash worker) topology = tt

-- ---- the history

-- a lease that is not stale was not overtaken
not-stale : (history : List Entry) (under : Option LeaseView) (lease : LeaseView) → under ≡ Some lease → stale_in history under ≡ None
    → overtaken_by history lease ≡ None
not-stale history under lease is fresh = by_newer (overtaken_by history lease) refl (sym (ap (stale_in history) is) ∙ fresh)
  where
    by_newer : (o : Option ℕ) → overtaken_by history lease ≡ o → option_map {U = LeaseView × ℕ} (λ (newer : ℕ). (lease, newer)) o ≡ None
        → overtaken_by history lease ≡ None
    by_newer None none f = none
    by_newer (Some newer) there f = let both : LeaseView × ℕ = (lease, newer) in absurd (none_some both (sym f))

-- an entry that is written follows the last claim of its row's interval
fenced-entry : (shape : Shape) (world : World) (deed : Deed) (entry : Option Entry) → AreClaimed world
    → stale_in world.history deed.under ≡ None → IsUnder shape world deed.under deed.number entry → IsFenced shape world.history
    → IsFenced shape (world.history ++ option_to_list entry)
fenced-entry shape world deed None claimed fresh own fenced = subst (IsFenced shape) (sym (append-nil world.history)) fenced
fenced-entry shape world deed (Some entry) claimed fresh (inl claim) fenced = IsFenced-push shape world.history entry fenced
    (λ name written. absurd (none_some name (sym claim ∙ written)))
fenced-entry shape world deed (Some entry) claimed fresh (inr w) fenced = IsFenced-push shape world.history entry fenced
    (entry-under shape world.history entry w.name w.lease.interval w.lease.seq w.on_row w.on.lies
    (current-of world.history w.lease deed.number (claimed deed.number w.lease.interval w.lease.seq w.on.seq)
    (not-stale world.history deed.under w.lease w.is_under fresh)) w.carries)

-- a deed, done or not
done-fenced : (shape : Shape) (world : World) (deed : Deed) (stale : Option (LeaseView × ℕ)) → stale_in world.history deed.under ≡ stale
    → AreClaimed world → IsOwn shape world deed → IsFenced shape world.history
    → IsFenced shape (done_unless shape world deed stale).1.history
done-fenced shape world deed None fresh claimed own fenced = fenced-entry shape world deed deed.entry claimed fresh own fenced
done-fenced shape world deed (Some stale) is claimed own fenced = fenced

-- a world's history is fenced, and its leases are claims of their workers
abbrev IsFencedWorld : Shape → World → Type 0
IsFencedWorld shape world = AreClaimed world × IsFenced shape world.history

-- a step
fenced-step : (case : CaseShape) → IsTopology case.topology → (world : World) (step : Step) → IsFencedWorld case.topology world
    → IsFencedWorld case.topology (world_then case world step)
fenced-step case topology world step both = let deed = deed_of case world step in (
  step-claimed case world step both.0,
  done-fenced case.topology world deed (stale_in world.history deed.under) refl both.0 (own-step case world step topology) both.1,
)

-- a whole script
pub script-fenced : (case : CaseShape) (routes : RoutesView) (history : List Entry) (marks : List ℕ) (script : List Step) → IsTopology case.topology
    → IsFenced case.topology history → IsFenced case.topology (world_after case (world_on routes history marks) script).history
script-fenced case routes history marks script topology fenced =
    (along_script case (IsFencedWorld case.topology) (fenced-step case topology) script (world_on routes history marks)
    (AreClaimed-first routes history marks, fenced)).1

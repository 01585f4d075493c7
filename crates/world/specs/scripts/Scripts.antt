-- Scripts that were worked by hand, each step with its answer. All are of the first example of
-- `worked_examples`: three records of one key in windows of 60, of which most scripts inject the first alone.
use Rattle.std.specs.Prelude.{◌≡◌, ℕ, ◌+◌, [], ◌∷◌, ◌++◌, List, map, Option}
use Rattle.mw_types.specs.declared.TheConstants.{END}
use Rattle.mw_types.specs.declared.entry.Entry.{Entry}
use Rattle.mw_types.specs.declared.entry.Entry.TheVariants as entries
use Rattle.worked_examples.specs.Drained.{id_of, injector_row}
use Rattle.worked_examples.specs.First.{counts, first_case, record_at, row_a, window}
use Rattle.node.specs.declared.outcome.Outcome.{Outcome}
use Rattle.node.specs.declared.outcome.Outcome.TheVariants.{Claimed, Committed, Copied, Crashed, Duplicate, Lost, Marked, NotMine, Nothing, Prepared, Queued, Sent, Stale}
use Rattle.topology.specs.Folding.{RoutesView, routes_in}
use Rattle.outbox.specs.declared.outgoing.Outgoing.{Outgoing}
use Rattle.outbox.specs.declared.outgoing.Outgoing.TheVariants as outgoing
use Rattle.world.specs.scripts.Acts.{answers, scripted_history, world_after}
use Rattle.world.specs.scripts.Worlds.{empty_world}
use Rattle.plans.specs.declared.step.Step.{Step}
use Rattle.plans.specs.declared.step.Step.TheVariants.{Claim, Crash, Fire, Inject, Lose, Purge, Repeat, Report, Resend, Send, Take, Write}

-- the first example has no weak computation
abbrev pub no_routes : RoutesView
no_routes = routes_in first_case.topology

-- a script, each step with the answer that was worked out for it
abbrev pub Worked : Type 0
Worked = List (Step × Outcome)

-- the steps of a worked script
abbrev pub steps_of : Worked → List Step
steps_of worked = map (λ (w : Step × Outcome). w.0) worked

-- each step answers what was worked out for it
abbrev pub IsAnswered : Worked → Type 0
IsAnswered worked =
    answers first_case (empty_world no_routes first_case.topology) (steps_of worked)
    ≡ map (λ (w : Step × Outcome). w.1) worked

-- the messages in flight after a worked script
abbrev pub flight_of : Worked → List (Option Outgoing)
flight_of worked =
    (world_after first_case (empty_world no_routes first_case.topology) (steps_of worked)).flight

-- the history that a worked script writes
abbrev pub history_of : Worked → List Entry
history_of worked = scripted_history no_routes first_case (steps_of worked)

-- the first line, injected by the first worker, which has claimed both intervals
abbrev pub first_line : List Entry
first_line = entries.Claim 0 0 ∷ entries.Claim 0 1 ∷ entries.Inject 0 0 0 (record_at 10) ∷ []

-- the record of the first line is handled, under the claim of this number
abbrev pub handled : ℕ → Entry
handled seq = entries.Handle seq row_a (id_of 2) (counts (window 60 1 ∷ []) 60)

-- the record of the first line, on its way
abbrev pub first_record : Outgoing
first_record = outgoing.Deliver (record { id = id_of 2; to = row_a; item = record_at 10 }) injector_row

-- word that the record of the first line was handled
abbrev pub first_ack : Outgoing
first_ack = outgoing.Ack injector_row (id_of 2)

-- ---- an owner that is overtaken between its preparation and its write

-- the first worker has prepared the record, and the second claims the row; the write of the first is stale,
-- and the second handles the record, which is sent again
abbrev pub old_owner : Worked
old_owner =
    (Claim 0 0, Claimed 0)
    ∷ (Claim 0 1, Claimed 1)
    ∷ (Inject 0 0, Committed 2)
    ∷ (Send 0, Sent 1)
    ∷ (Take 0 0, Prepared)
    ∷ (Claim 1 1, Claimed 3)
    ∷ (Write 0, Stale 3)
    ∷ (Resend 0, Queued 1)
    ∷ (Send 0, Sent 1)
    ∷ (Take 1 1, Prepared)
    ∷ (Write 1, Committed 4)
    ∷ (Send 1, Sent 1)
    ∷ (Take 0 2, Committed 5)
    ∷ []

-- the record is handled once, by its new owner
abbrev pub old_owner_history : List Entry
old_owner_history = first_line ++ entries.Claim 1 1 ∷ handled 3 ∷ entries.Ack 0 injector_row (id_of 2) ∷ []

-- ---- a copy that comes after its acknowledgement and a purge

-- the record is copied, handled and acknowledged, and its row forgets its id; then the copy comes
abbrev pub late_copy : Worked
late_copy =
    (Claim 0 0, Claimed 0)
    ∷ (Claim 0 1, Claimed 1)
    ∷ (Inject 0 0, Committed 2)
    ∷ (Send 0, Sent 1)
    ∷ (Repeat 0, Copied 1)
    ∷ (Take 0 0, Prepared)
    ∷ (Write 0, Committed 3)
    ∷ (Send 0, Sent 1)
    ∷ (Take 0 2, Committed 4)
    ∷ (Purge 0 1, Committed 5)
    ∷ (Take 0 1, Duplicate)
    ∷ []

-- the record is handled once, and the purge goes to the floor 5
abbrev pub late_copy_history : List Entry
late_copy_history =
    first_line ++ handled 1 ∷ entries.Ack 0 injector_row (id_of 2) ∷ entries.Purge 1 row_a 5 ∷ []

-- ---- crashes

-- a worker has written a line and not yet sent its record; the next owner of the injector finds it pending
abbrev pub unsent : Worked
unsent =
    (Claim 0 0, Claimed 0)
    ∷ (Claim 0 1, Claimed 1)
    ∷ (Inject 0 0, Committed 2)
    ∷ (Crash 0, Crashed)
    ∷ (Claim 1 0, Claimed 3)
    ∷ (Resend 1, Queued 1)
    ∷ (Send 1, Sent 1)
    ∷ (Claim 1 1, Claimed 4)
    ∷ (Take 1 0, Prepared)
    ∷ (Write 1, Committed 5)
    ∷ []

-- the record is handled by the new owner
abbrev pub unsent_history : List Entry
unsent_history = first_line ++ entries.Claim 1 0 ∷ entries.Claim 1 1 ∷ handled 4 ∷ []

-- a worker has prepared a record and not yet written it; nothing of that is left, and the message is gone
abbrev pub unwritten : Worked
unwritten =
    (Claim 0 0, Claimed 0)
    ∷ (Claim 0 1, Claimed 1)
    ∷ (Inject 0 0, Committed 2)
    ∷ (Send 0, Sent 1)
    ∷ (Take 0 0, Prepared)
    ∷ (Crash 0, Crashed)
    ∷ []

-- what comes after such a crash: there is nothing to write, nothing to take, and no lease
abbrev pub after_crash : Worked
after_crash = unwritten
    ++ (Write 0, Nothing)
    ∷ (Take 0 0, Nothing)
    ∷ (Inject 0 0, Nothing)
    ∷ (Report 0 1, Nothing)
    ∷ (Resend 0, Queued 0)
    ∷ []

-- what a worker has to send that crashed before it sent: nothing
abbrev pub after_unsent : Worked
after_unsent = (Claim 0 0, Claimed 0) ∷ (Inject 0 0, Committed 1) ∷ (Crash 0, Crashed) ∷ (Send 0, Sent 0) ∷ []

-- ---- while a work is prepared

-- while a record is prepared another record waits in flight, and no row forgets; a line is injected and an
-- acknowledgement is written all the same; a copy that is lost is gone, as its number is
abbrev pub while_prepared : Worked
while_prepared =
    (Claim 0 0, Claimed 0)
    ∷ (Claim 0 1, Claimed 1)
    ∷ (Inject 0 0, Committed 2)
    ∷ (Inject 0 0, Committed 3)
    ∷ (Send 0, Sent 2)
    ∷ (Repeat 1, Copied 2)
    ∷ (Take 0 0, Prepared)
    ∷ (Take 0 1, Nothing)
    ∷ (Inject 0 0, Committed 4)
    ∷ (Inject 0 0, Nothing)
    ∷ (Write 0, Committed 5)
    ∷ (Take 0 1, Prepared)
    ∷ (Write 0, Committed 6)
    ∷ (Lose 2, Lost)
    ∷ (Lose 2, Nothing)
    ∷ (Take 0 2, Nothing)
    ∷ (Repeat 2, Nothing)
    ∷ (Send 0, Sent 3)
    ∷ (Take 0 4, Committed 7)
    ∷ (Take 0 3, Prepared)
    ∷ (Purge 0 1, Nothing)
    ∷ (Take 0 5, Committed 8)
    ∷ (Write 0, Committed 9)
    ∷ (Purge 0 1, Committed 10)
    ∷ []

-- ---- what has nothing to do

-- a worker without a lease has nothing to do, nor is there a message to take, to copy or to lose; a worker
-- whose row a message is not for leaves it; no timer fires before its time, and a message that was taken
-- can't be lost
abbrev pub without_work : Worked
without_work =
    (Write 3, Nothing)
    ∷ (Fire 3 1, Nothing)
    ∷ (Inject 3 0, Nothing)
    ∷ (Report 3 1, Nothing)
    ∷ (Purge 3 1, Nothing)
    ∷ (Resend 3, Queued 0)
    ∷ (Send 3, Sent 0)
    ∷ (Take 3 0, Nothing)
    ∷ (Repeat 0, Nothing)
    ∷ (Lose 0, Nothing)
    ∷ (Claim 3 0, Claimed 0)
    ∷ (Report 3 0, Marked 0)
    ∷ (Claim 3 1, Claimed 1)
    ∷ (Inject 3 0, Committed 2)
    ∷ (Send 3, Sent 1)
    ∷ (Take 2 0, NotMine)
    ∷ (Take 3 0, Prepared)
    ∷ (Write 3, Committed 3)
    ∷ (Fire 3 1, Nothing)
    ∷ (Lose 0, Nothing)
    ∷ []

-- ---- leases that were overtaken

-- an acknowledgement and a report under a lease that was overtaken are stale once, and then there is nothing
-- to do; the record is handled, so its copy is a duplicate, and its acknowledgement comes again
abbrev pub overtaken_leases : Worked
overtaken_leases =
    (Claim 0 0, Claimed 0)
    ∷ (Claim 0 1, Claimed 1)
    ∷ (Inject 0 0, Committed 2)
    ∷ (Send 0, Sent 1)
    ∷ (Take 0 0, Prepared)
    ∷ (Write 0, Committed 3)
    ∷ (Send 0, Sent 1)
    ∷ (Claim 1 0, Claimed 4)
    ∷ (Take 0 1, Stale 4)
    ∷ (Take 0 1, Nothing)
    ∷ (Claim 2 1, Claimed 5)
    ∷ (Report 0 1, Stale 5)
    ∷ (Report 0 1, Nothing)
    ∷ (Resend 1, Queued 1)
    ∷ (Send 1, Sent 1)
    ∷ (Take 2 2, Duplicate)
    ∷ (Send 2, Sent 1)
    ∷ (Take 1 3, Committed 6)
    ∷ []

-- ---- all of the example, by one worker

-- a line is injected as this entry, sent as this message, handled and acknowledged; then come further steps
abbrev pub line_worked : ℕ → ℕ → Worked → Worked
line_worked commit message rest =
    (Inject 0 0, Committed commit)
    ∷ (Send 0, Sent 1)
    ∷ (Take 0 message, Prepared)
    ∷ (Write 0, Committed (commit + 1))
    ∷ (Send 0, Sent 1)
    ∷ (Take 0 (message + 1), Committed (commit + 2))
    ∷ rest

-- its two timers fire under reported marks, each once its mark is there, and its row forgets
abbrev pub timers_worked : Worked
timers_worked =
    (Fire 0 1, Nothing)
    ∷ (Report 0 0, Marked END)
    ∷ (Report 0 1, Marked 60)
    ∷ (Fire 0 1, Committed 11)
    ∷ (Fire 0 1, Nothing)
    ∷ (Report 0 1, Marked 120)
    ∷ (Fire 0 1, Committed 12)
    ∷ (Report 0 1, Marked END)
    ∷ (Purge 0 1, Committed 13)
    ∷ (Purge 0 1, Nothing)
    ∷ []

-- one worker does all: three lines, two timers, and a purge
abbrev pub by_one_worker : Worked
by_one_worker = (Claim 0 0, Claimed 0) ∷ (Claim 0 1, Claimed 1)
    ∷ line_worked 2 0 (line_worked 5 2 (line_worked 8 4 timers_worked))

-- When a step is done for real as it is in the scripted world, what a fault leaves, and why a step is
-- answered so. Own.
use Rattle.std.specs.Prelude.{◌≡◌, ◌+◌, ◌++◌, ◌∷◌, [], ⊤, List, Some, IfSome, length}
use Rattle.mw_types.specs.declared.entry.Entry.{Entry}
use Rattle.run_history.specs.Cases.{CaseShape}
use Rattle.run_history.specs.Fences.{IsOvertakenBy}
use Rattle.book.specs.Books.{LeaseView}
use Rattle.node.specs.Workers.{Worker, idle}
use Rattle.node.specs.declared.outcome.Outcome.{Outcome}
use Rattle.node.specs.declared.outcome.Outcome.TheVariants as outcomes
use Rattle.world.specs.scripts.Acts.{act, without_message}
use Rattle.world.specs.scripts.Worlds.{World, lease_of, worker_of}
use Rattle.plans.specs.declared.step.Step.{Step}
use Rattle.plans.specs.declared.step.Step.TheVariants as steps
use Rattle.world.specs.scripts.WorldStates.{WorldState, world_of}

-- a step was answered as it is in the scripted world, and the world is that one then, where a contract can
-- see the keeper's rows
abbrev pub HasActed : Step → WorldState → WorldState → Outcome → Type 0
HasActed step old new outcome =
    IfSome old.book.rows (λ _. (outcome, world_of new) ≡ act old.book.case (world_of old) step)

-- a step ended with a fault: the world is as it was, but that a message which was taken is gone
abbrev pub HasFaulted : Step → WorldState → WorldState → Type 0
HasFaulted (steps.Take worker message) old new =
    world_of new ≡ record (world_of old) { flight = without_message message (world_of old).flight }
HasFaulted _ old new = world_of new ≡ world_of old

-- a step appends an entry in a scripted world
abbrev pub AppendsOne : CaseShape → World → Step → Type 0
AppendsOne case world step =
    (entry : Entry) × ((act case world step).1.history ≡ world.history ++ entry ∷ [])

-- a step would have appended an entry: it does in the scripted world, where a contract can see the keeper's
-- rows
abbrev pub WouldAppend : Step → WorldState → Type 0
WouldAppend step old = IfSome old.book.rows (λ _. AppendsOne old.book.case (world_of old) step)

-- ---- over every keeper

-- an answer that names a number has its cause in what a worker had, and in the history before and after: it
-- names the entry that was appended, or a claim that has overtaken a lease of this worker's; and no other had
-- the turn
abbrev pub IsCausedBy : Worker → List Entry → List Entry → Outcome → Type 0
IsCausedBy worker old new (outcomes.Committed commit) = (commit ≡ length old) × (length new ≡ commit + 1)
IsCausedBy worker old new (outcomes.Claimed seq) = (seq ≡ length old) × (length new ≡ seq + 1)
IsCausedBy worker old new (outcomes.Stale newer) = (lease : LeaseView)
    × (lease_of worker lease.interval ≡ Some lease) × IsOvertakenBy newer lease.interval lease.seq new
IsCausedBy worker old new (outcomes.Busy found) = ⊥
IsCausedBy worker old new _ = ⊤

-- an answer names no number that wants a cause
abbrev pub NamesNone : Outcome → Type 0
NamesNone outcome = (worker : Worker) (old new : List Entry) → IsCausedBy worker old new outcome

-- the worker that does a step; where a step is of a message alone it is one that has nothing
abbrev pub worker_of_step : World → Step → Worker
worker_of_step world (steps.Claim worker interval) = worker_of world worker
worker_of_step world (steps.Inject worker part) = worker_of world worker
worker_of_step world (steps.Send worker) = worker_of world worker
worker_of_step world (steps.Take worker message) = worker_of world worker
worker_of_step world (steps.Write worker) = worker_of world worker
worker_of_step world (steps.Fire worker part) = worker_of world worker
worker_of_step world (steps.Report worker interval) = worker_of world worker
worker_of_step world (steps.Resend worker) = worker_of world worker
worker_of_step world (steps.Purge worker interval) = worker_of world worker
worker_of_step world (steps.Repeat message) = idle
worker_of_step world (steps.Lose message) = idle
worker_of_step world (steps.Relay relay message) = idle
worker_of_step world (steps.Forget relay) = idle
worker_of_step world (steps.Crash worker) = worker_of world worker

-- a step's answer has its cause
abbrev pub HasCauseOf : Step → WorldState → WorldState → Outcome → Type 0
HasCauseOf step old new outcome =
    IsCausedBy (worker_of_step (world_of old) step) old.book.history new.book.history outcome

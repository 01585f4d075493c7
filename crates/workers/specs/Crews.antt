-- The workers of a run, what each knows, and what a step does to all of them. No public clause cites this module.
use Rattle.std.specs.Prelude.{◌≢◌, Bool, true, None, false, ◌≡◌, ◌<◌, ◌≤◌, ◌+◌, ◌∷◌, ◌++◌, [], ℕ, List, All, IfSome, IsSome, Some, length, slice_get, slice_index_or}
use Rattle.row_keeper.specs.declared.keeper.Keeper.{Ghosts}
use Rattle.atomic_table.specs.Seated.{TableId}
use Rattle.mw_types.specs.declared.entry.Entry.{Entry}
use Rattle.mw_types.specs.declared.entry.Entry.TheVariants as entries
use Rattle.run_history.specs.Cases.{CaseShape, intervals_of}
use Rattle.run_history.specs.Fences.{Begins}
use Rattle.book.specs.Desks.{DeskView}
use Rattle.node.specs.Answers.{refusal_of}
use Rattle.node.specs.Fits.{Fits}
use Rattle.node.specs.declared.outcome.NodeFault.{NodeFault}
use Rattle.node.specs.declared.outcome.NodeFault.TheVariants as faults
use Rattle.workers.specs.declared.mailbox.Mailbox.{Mailbox}
use Rattle.shared_book.specs.Lists.{IsIn}
use Rattle.shared_book.specs.declared.seats.Note.{Note}
use Rattle.shared_book.specs.SharedDesks.{shared_view}
use Rattle.workers.specs.Passing.{ArePasses}
use Rattle.workers.specs.Slices.{HasInjected, HasWorked, KeepsLeases}
use Rattle.workers.specs.Rounds.{IsDamageAt}
use Rattle.workers.specs.Seats.{IsSeated}
use Rattle.workers.specs.declared.crew.Worker.{Worker}

-- ---- one worker

-- what a worker's desk knows
abbrev pub desk_of : {K J : Type 0} {g : Ghosts K} → Worker K J g → DeskView
desk_of worker = shared_view worker.seat.place.me.0

-- a fault of a worker has its cause in what its desk knows: the keeper failed, the history is full, or a row was
-- damaged after as many entries as it has seen or fewer
pub record HasFaultCause (desk : DeskView) (why : NodeFault) : Type 0 where
  pub keeper : why ≡ faults.KeeperFault → 0 < desk.faults
  pub full : why ≡ faults.HistoryFull → desk.limit ≤ length desk.seen
  pub count : ℕ
  pub seen : count ≤ length desk.seen
  pub damaged : IsDamageAt desk.case desk.told count (refusal_of why)

-- a worker at a seat of this table, whose number it has, and which holds no turn; it fits its desk, and its fault,
-- where it has one, has a cause
pub record IsWorker {K J : Type 0} {g : Ghosts K} (id : TableId) (case : CaseShape) (worker : Worker K J g) : Type 0 where
  pub seated : IsSeated id case worker.seat.place
  pub numbers : worker.seat.place.me.0.numbers ≡ worker.node.number ∷ []
  pub fits : Fits case (desk_of worker) worker.node
  pub cause : IfSome worker.fault (HasFaultCause (desk_of worker))

-- a worker has a pass of each mailbox of the case
abbrev pub HasPasses : {K J : Type 0} {g : Ghosts K} → CaseShape → List (Mailbox (Note K g) J) → Worker K J g → Type 0
HasPasses case boxes worker = ArePasses (length (intervals_of case.topology)) boxes worker.passes

-- ---- what a step does to a worker

-- a desk came to see more; it appended at most so many entries, which stand behind what it had seen before, and its
-- count of faults has not fallen
pub record HasGoneOn (most : ℕ) (old new : DeskView) : Type 0 where
  pub case : new.case ≡ old.case
  pub limit : new.limit ≡ old.limit
  pub told : new.told ≡ old.told
  pub rest : List Entry
  pub more : new.seen ≡ old.seen ++ rest
  pub added : List ℕ
  pub own : new.own ≡ old.own ++ added
  pub few : length added ≤ most
  pub later : (number : ℕ) → IsIn number added → length old.seen ≤ number
  pub faults : old.faults ≤ new.faults

-- a worker did a turn of work, is at its seat still, and has its number, its orders and a pass of each mailbox; it
-- lost a lease only to another, and injected its lines where it neither failed nor stalled
pub record HasWorkedOnce {K J : Type 0} {g : Ghosts K} (id : TableId) (case : CaseShape) (boxes : List (Mailbox (Note K g) J))
    (was now : Worker K J g) : Type 0 where
  pub worker : IsWorker id case now
  pub number : now.node.number ≡ was.node.number
  pub orders : now.orders ≡ was.orders
  pub worked : HasWorked 6000 (desk_of was) (desk_of now)
  pub passes : HasPasses case boxes now
  pub kept : KeepsLeases (desk_of now).seen was.node now.node
  pub injected : now.fault ≡ None → was.orders.stall ≡ false → HasInjected case was.node (desk_of was) (desk_of now)

-- ---- all workers

-- each worker has the number of its place
abbrev pub AreNumbered : {K J : Type 0} {g : Ghosts K} → List (Worker K J g) → Type 0
AreNumbered {K} {J} {g} crew = (at : ℕ) (d : Worker K J g) → at < length crew → (slice_index_or crew at d).node.number ≡ at

-- the workers of a table, in the order of their numbers
pub record AreWorkers {K J : Type 0} {g : Ghosts K} (id : TableId) (case : CaseShape) (crew : List (Worker K J g)) : Type 0 where
  pub each : All (IsWorker id case) crew
  pub numbered : AreNumbered crew

-- a desk has appended a claim of this worker, which stands behind what it had seen before
pub record HasClaimedOne (worker interval : ℕ) (old new : DeskView) : Type 0 where
  pub number : ℕ
  pub later : length old.seen ≤ number
  pub own : new.own ≡ old.own ++ number ∷ []
  pub at : slice_get new.seen number ≡ Some (entries.Claim worker interval)

-- how many claims there may be of what a worker holds that stalls
abbrev pub stall_of : Bool → ℕ
stall_of true = 61
stall_of false = 0

-- how many entries a worker has appended, and 61 where it stalls, since all that it holds is then to be claimed
abbrev pub spent_by : {K J : Type 0} {g : Ghosts K} → Worker K J g → ℕ
spent_by worker = length (desk_of worker).own + stall_of worker.orders.stall

-- how many entries all workers have appended
abbrev pub own_total : {K J : Type 0} {g : Ghosts K} → List (Worker K J g) → ℕ
own_total [] = 0
own_total (worker ∷ crew) = length (desk_of worker).own + own_total crew

-- what all workers have spent
abbrev pub spent : {K J : Type 0} {g : Ghosts K} → List (Worker K J g) → ℕ
spent [] = 0
spent (worker ∷ crew) = spent_by worker + spent crew

-- a worker went on, however much it appended, and has the number that it had
pub record HasStepped {K J : Type 0} {g : Ghosts K} (was now : Worker K J g) : Type 0 where
  pub most : ℕ
  pub went_on : HasGoneOn most (desk_of was) (desk_of now)
  pub number : now.node.number ≡ was.node.number

-- the workers went on, each with the number that it had, and spent at most so many entries
pub record HasDone {K J : Type 0} {g : Ghosts K} (most : ℕ) (old new : List (Worker K J g)) : Type 0 where
  pub long : length new ≡ length old
  pub each : (at : ℕ) (d : Worker K J g) → at < length old →
      HasStepped (slice_index_or old at d) (slice_index_or new at d)
  pub few : spent new ≤ spent old + most

-- no worker stalls
abbrev pub AreCalm : {K J : Type 0} {g : Ghosts K} → List (Worker K J g) → Type 0
AreCalm crew = All (λ worker. worker.orders.stall ≡ false) crew

-- no worker has a fault
abbrev pub AreHealthy : {K J : Type 0} {g : Ghosts K} → List (Worker K J g) → Type 0
AreHealthy crew = All (λ worker. worker.fault ≡ None) crew

-- a part of each worker is as it was
abbrev pub KeepsEach : {K J X : Type 0} {g : Ghosts K} → (Worker K J g → X) → List (Worker K J g) → List (Worker K J g) → Type 0
KeepsEach {K} {J} {g} part old new = (at : ℕ) (d : Worker K J g) → at < length old →
    part (slice_index_or new at d) ≡ part (slice_index_or old at d)

-- each worker keeps its passes
abbrev pub KeepsPasses : {K J : Type 0} {g : Ghosts K} → List (Worker K J g) → List (Worker K J g) → Type 0
KeepsPasses old new = KeepsEach (λ worker. worker.passes) old new

-- each worker keeps what it holds, and its seat
pub record KeepsWork {K J : Type 0} {g : Ghosts K} (old new : List (Worker K J g)) : Type 0 where
  pub node : KeepsEach (λ (worker : Worker K J g). worker.node) old new
  pub desk : KeepsEach (λ (worker : Worker K J g). desk_of worker) old new

-- no worker stalls, and each keeps what it holds, and its seat
abbrev pub StayCalm : {K J : Type 0} {g : Ghosts K} → List (Worker K J g) → List (Worker K J g) → Type 0
StayCalm old new = AreCalm new × KeepsWork old new

-- each worker keeps its orders
abbrev pub KeepsOrders : {K J : Type 0} {g : Ghosts K} → List (Worker K J g) → List (Worker K J g) → Type 0
KeepsOrders old new = KeepsEach (λ worker. worker.orders) old new

-- each worker keeps its node
abbrev pub KeepsNodes : {K J : Type 0} {g : Ghosts K} → List (Worker K J g) → List (Worker K J g) → Type 0
KeepsNodes old new = KeepsEach (λ worker. worker.node) old new

-- no worker appended anything
abbrev pub KeepsOwn : {K J : Type 0} {g : Ghosts K} → List (Worker K J g) → List (Worker K J g) → Type 0
KeepsOwn old new = KeepsEach (λ worker. (desk_of worker).own) old new

-- no worker has appended anything
abbrev pub AreFresh : {K J : Type 0} {g : Ghosts K} → List (Worker K J g) → Type 0
AreFresh crew = All (λ worker. (desk_of worker).own ≡ []) crew

-- each worker has a pass of each mailbox of the case
abbrev pub AllHavePasses : {K J : Type 0} {g : Ghosts K} → CaseShape → List (Mailbox (Note K g) J) → List (Worker K J g) → Type 0
AllHavePasses case boxes crew = All (HasPasses case boxes) crew

-- what a worker had seen before begins what another has seen since
abbrev pub HasTold : {K J : Type 0} {g : Ghosts K} → ℕ → ℕ → List (Worker K J g) → List (Worker K J g) → Type 0
HasTold {K} {J} {g} from to old new = (d e : Worker K J g) →
    Begins (desk_of (slice_index_or old from d)).seen (desk_of (slice_index_or new to e)).seen

-- what a worker had seen before begins what each has seen since
abbrev pub HasToldAll : {K J : Type 0} {g : Ghosts K} → ℕ → List (Worker K J g) → List (Worker K J g) → Type 0
HasToldAll {K} {J} {g} from old new = (to : ℕ) → to < length old → HasTold from to old new

-- all workers but this one are as they were
abbrev pub OthersStay : {K J : Type 0} {g : Ghosts K} → ℕ → List (Worker K J g) → List (Worker K J g) → Type 0
OthersStay {K} {J} {g} at old new = (k : ℕ) (d : Worker K J g) → k ≢ at → slice_index_or new k d ≡ slice_index_or old k d

-- a worker has claimed an interval
abbrev pub ClaimsOne : {K J : Type 0} {g : Ghosts K} → ℕ → ℕ → List (Worker K J g) → List (Worker K J g) → Type 0
ClaimsOne {K} {J} {g} at interval old new = (d : Worker K J g) →
    HasClaimedOne at interval (desk_of (slice_index_or old at d)) (desk_of (slice_index_or new at d))

-- each worker did a turn of work, is at its seat still, and has its number and its orders
pub record HaveWorked {K J : Type 0} {g : Ghosts K} (id : TableId) (case : CaseShape) (boxes : List (Mailbox (Note K g) J))
    (old new : List (Worker K J g)) : Type 0 where
  pub long : length new ≡ length old
  pub each : (at : ℕ) (d : Worker K J g) → at < length old →
      HasWorkedOnce id case boxes (slice_index_or old at d) (slice_index_or new at d)

-- a worker has a fault
abbrev pub IsFaulty : {K J : Type 0} {g : Ghosts K} → List (Worker K J g) → Type 0
IsFaulty {K} {J} {g} crew = (at : ℕ) × (at < length crew) × ((d : Worker K J g) → IsSome (slice_index_or crew at d).fault)

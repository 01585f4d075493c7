-- What a run leaves at the seat that takes in those of all workers. No public clause cites this module.
use Rattle.std.specs.Prelude.{◌≡◌, ◌⊎◌, ◌<◌, ◌≤◌, ◌+◌, ◌*◌, ◌∷◌, ◌++◌, [], ℕ, List, Option, None, All, IfSome, IsSome, length, min, slice_index_or}
use Rattle.row_keeper.specs.declared.keeper.Keeper.{Ghosts}
use Rattle.mw_types.specs.declared.entry.Entry.{Entry}
use Rattle.topology.specs.Shapes.{injectors_of}
use Rattle.run_history.specs.Cases.{CaseShape, intervals_of, source_of}
use Rattle.run_history.specs.Fences.{Begins, IsClaimed}
use Rattle.node.specs.Answers.{refusal_of}
use Rattle.node.specs.declared.outcome.NodeFault.{NodeFault}
use Rattle.node.specs.declared.outcome.NodeFault.TheVariants as faults
use Rattle.shared_book.specs.Lists.{IsIn}
use Rattle.shared_book.specs.declared.views.View.{View}
use Rattle.shared_book.specs.declared.seats.Note.{Note}
use Rattle.workers.specs.declared.passes.MailPass.{MailPass}
use Rattle.workers.specs.Slices.{injected}
use Rattle.workers.specs.Claims.{IsClaimedTo, IsNoClaim}
use Rattle.workers.specs.Rounds.{IsDamageAt}
use Rattle.workers.specs.Crews.{desk_of, own_total, spent_by}
use Rattle.workers.specs.declared.crew.Worker.{Worker}

-- a worker has just got its seat, at which it has done nothing yet
pub record IsHired {K J : Type 0} {g : Ghosts K} (from : View) (worker : Worker K J g) : Type 0 where
  pub own : (desk_of worker).own ≡ []
  pub limit : (desk_of worker).limit ≡ from.basis.limit
  pub told : (desk_of worker).told ≡ from.basis.told
  pub fault : worker.fault ≡ None
  pub calm : spent_by worker ≡ 0

-- a number is one of a worker's own
abbrev pub IsOwnOf : {K J : Type 0} {g : Ghosts K} → List (Worker K J g) → ℕ → Type 0
IsOwnOf {K} {J} {g} crew number = (at : ℕ) × (at < length crew)
    × ((d : Worker K J g) → IsIn number (desk_of (slice_index_or crew at d)).own)

-- a seat took in those of some workers, the first of which has this number
pub record HasTakenIn {K J : Type 0} {g : Ghosts K} (old : View) (from : ℕ) (taken : List (Worker K J g)) (new : View) : Type 0 where
  pub basis : new.basis ≡ old.basis
  pub seen : Begins old.front new.front
  pub each : All (λ worker. Begins (desk_of worker).seen new.front) taken
  pub numbers : (n : ℕ) → IsIn n old.numbers → IsIn n new.numbers
  pub all : (n : ℕ) → from ≤ n → n < from + length taken → IsIn n new.numbers
  pub own : (n : ℕ) → IsIn n new.own → IsIn n old.own ⊎ IsOwnOf taken n
  pub few : length new.own ≡ length old.own + own_total taken
  pub faults : All (λ worker. (desk_of worker).faults ≤ new.faults) taken

-- the fault of the first worker that has one
abbrev pub IsFirstFault : {K J : Type 0} {g : Ghosts K} → List (Worker K J g) → Option NodeFault → Type 0
IsFirstFault [] fault = fault ≡ None
IsFirstFault (worker ∷ crew) fault = ((worker.fault ≡ fault) × IsSome fault)
    ⊎ ((worker.fault ≡ None) × IsFirstFault crew fault)

-- of all workers the last ones were taken in, and the others are left
pub record IsJoined {K J : Type 0} {g : Ghosts K} (all left : List (Worker K J g)) (old new : View) (fault : Option NodeFault) : Type 0 where
  pub taken : List (Worker K J g)
  pub whole : all ≡ left ++ taken
  pub has : HasTakenIn old (length left) taken new
  pub first : IsFirstFault taken fault

-- the first claims stand in what was seen, and nothing else was appended before a certain length
pub record HasRunFirst (workers : ℕ) (case : CaseShape) (view : View) : Type 0 where
  pub front : List Entry
  pub numbers : List ℕ
  pub claimed : IsClaimedTo workers (length (intervals_of case.topology)) numbers front
  pub begins : Begins front view.front
  pub own : (number : ℕ) → IsIn number view.own → IsIn number numbers ⊎ (length front ≤ number)

-- some first claims stand in what was seen, and nothing else was appended
pub record HasRunSome (workers : ℕ) (case : CaseShape) (view : View) : Type 0 where
  pub count : ℕ
  pub few : count ≤ length (intervals_of case.topology)
  pub numbers : List ℕ
  pub claimed : IsClaimedTo workers count numbers view.front
  pub own : (number : ℕ) → IsIn number view.own → IsIn number numbers

-- a fault of a run has its cause in what the seat has seen: the keeper failed, the history is full, or a row was
-- damaged after as many entries or fewer
pub record HasEndCause (view : View) (why : NodeFault) : Type 0 where
  pub keeper : why ≡ faults.KeeperFault → 0 < view.faults
  pub full : why ≡ faults.HistoryFull → view.basis.limit ≤ length view.front
  -- so many entries were seen when the row was read
  pub count : ℕ
  pub seen : count ≤ length view.front
  pub damaged : IsDamageAt view.basis.case view.basis.told count (refusal_of why)

-- the workers of a run have ended, and their seats are one again
pub record HasRun (case : CaseShape) (workers most : ℕ) (old new : View) (fault : Option NodeFault) : Type 0 where
  pub basis : new.basis ≡ old.basis
  pub seen : Begins old.front new.front
  pub numbers : (n : ℕ) → n < old.basis.seats → IsIn n new.numbers
  pub few : length new.own ≤ length old.own + most
  pub cause : IfSome fault (HasEndCause new)
  pub first : HasRunFirst workers case new ⊎ (IsSome fault × HasRunSome workers case new)

-- the claim of an interval that has this number stands in what was seen, and a later one, or so many lines of an
-- injector, or all
pub record HasLinesIn (case : CaseShape) (many part : ℕ) (seen : List Entry) : Type 0 where
  pub interval : ℕ
  pub seq : ℕ
  pub claimed : IsClaimed interval seq seen
  pub lines : ((newer : ℕ) × (seq < newer) × IsClaimed interval newer seen)
      ⊎ (min (length (source_of case part)) many ≤ injected part seen)

-- rounds without a plan left all first claims and no other in what the seat has seen, and of each injector 16 lines a
-- round, or all, where a contract can see the keeper's rows
pub record HasRunPlain (workers rounds : ℕ) (case : CaseShape) (view : View) : Type 0 where
  pub first : HasRunFirst workers case view
  pub no_more : (number : ℕ) → IsIn number view.own → length first.front ≤ number → IsNoClaim number view.front
  pub lines : IfSome view.basis.told (λ _. (part : ℕ) → part < injectors_of case.topology →
      HasLinesIn case (16 * rounds) part view.front)

-- a seat gave its first number away, and is else as it was
pub record HasDealt (old new : View) : Type 0 where
  pub basis : new.basis ≡ old.basis
  pub front : new.front ≡ old.front
  pub own : new.own ≡ old.own
  pub faults : new.faults ≡ old.faults

-- the passes of each worker
abbrev pub passes_in : {K J : Type 0} {g : Ghosts K} → List (Worker K J g) → List (List (MailPass (Note K g) J))
passes_in [] = []
passes_in (worker ∷ crew) = worker.passes ∷ passes_in crew

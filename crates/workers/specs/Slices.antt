-- What a worker does to its desk in one turn of work.
-- Akidau et al., VLDB 2013, section 5.2 for injectors, section 6.2 for a lease that another has overtaken.
-- Own: how much a turn of work may append, and how many lines it injects.
use Rattle.std.specs.Prelude.{◌≡◌, ◌<◌, ◌≤◌, ◌+◌, ◌==◌, ◌++◌, ◌⊎◌, [], ℕ, Bool, true, false, List, Some, IfSome, length, filter, min, slice_get, Contains}
use Rattle.mw_types.specs.Causes.{Rose}
use Rattle.mw_types.specs.declared.entry.Entry.{Entry}
use Rattle.mw_types.specs.declared.entry.Entry.TheVariants as entries
use Rattle.topology.specs.Shapes.{injectors_of}
use Rattle.run_history.specs.Cases.{CaseShape, source_of}
use Rattle.run_history.specs.Fences.{IsOvertakenBy, interval_of}
use Rattle.book.specs.Books.{LeaseView}
use Rattle.book.specs.Desks.{DeskView}
use Rattle.book.specs.DeskReasons.{IsNoDamage}
use Rattle.node.specs.Answers.{refusal_of}
use Rattle.node.specs.Workers.{NodeView, leases_of}
use Rattle.node.specs.declared.outcome.NodeFault.{NodeFault}
use Rattle.node.specs.declared.outcome.NodeFault.TheVariants as faults

-- ---- what was appended

-- an entry of a desk's own, by its number: it stands behind what was seen before, and is no claim
pub record IsAddedAt (old new : DeskView) (at : ℕ) : Type 0 where
  pub later : length old.seen ≤ at
  pub below : at < length new.seen
  pub no_claim : (worker interval : ℕ) →
      slice_get new.seen at ≡ Some (entries.Claim worker interval) → ⊥

-- a desk came to see more, and appended at most so many entries of its own, none of them a claim; it may use
-- the leases that it could use before, and its count of faults has not fallen
pub record HasWorked (most : ℕ) (old new : DeskView) : Type 0 where
  pub case : new.case ≡ old.case
  pub limit : new.limit ≡ old.limit
  pub told : new.told ≡ old.told
  pub alone : new.alone ≡ old.alone
  pub rest : List Entry
  pub more : new.seen ≡ old.seen ++ rest
  pub added : List ℕ
  pub own : new.own ≡ old.own ++ added
  pub few : length added ≤ most
  pub each : (at : ℕ) → Contains added at → IsAddedAt old new at
  pub leases : (lease : LeaseView) → old.leases lease ≡ true → new.leases lease ≡ true
  pub faults : old.faults ≤ new.faults

-- ---- which lines were injected

-- whether an entry injects a line of this injector
abbrev pub is_line : ℕ → Entry → Bool
is_line part (entries.Inject seq injector line item) = injector == part
is_line part _ = false

-- how many lines of an injector a history has injected
abbrev pub injected : ℕ → List Entry → ℕ
injected part history = length (filter (is_line part) history)

-- exactly so many lines more of an injector were injected, or all that were left
abbrev pub HasLines : ℕ → CaseShape → ℕ → List Entry → List Entry → Type 0
HasLines many case part old new =
    injected part new ≡ min (length (source_of case part)) (injected part old + many)

-- ---- what became of leases

-- a later claim of the interval is there
abbrev pub IsOvertaken : ℕ → ℕ → List Entry → Type 0
IsOvertaken interval seq history = (newer : ℕ) × IsOvertakenBy newer interval seq history

-- each lease that a worker held it holds still, unless another has overtaken it
abbrev pub KeepsLeases : List Entry → NodeView → NodeView → Type 0
KeepsLeases seen was node = (interval seq : ℕ) → leases_of was.held interval ≡ Some seq →
    (leases_of node.held interval ≡ Some seq) ⊎ IsOvertaken interval seq seen

-- an injector whose interval a worker held has exactly so many lines more, or all that were left, unless
-- another has overtaken its lease, where a contract can see the keeper's rows
abbrev pub HasLinesOf : ℕ → CaseShape → ℕ → NodeView → DeskView → DeskView → Type 0
HasLinesOf many case part was old new = IfSome old.told (λ _. (interval seq : ℕ) →
    interval_of case.topology (record { part = part; key = [] }) ≡ Some interval →
    leases_of was.held interval ≡ Some seq →
    IsOvertaken interval seq new.seen ⊎ HasLines many case part old.seen new.seen)

-- each injector has exactly 16 lines more, or all that were left, in this sense
abbrev pub HasInjected : CaseShape → NodeView → DeskView → DeskView → Type 0
HasInjected case was old new = (part : ℕ) → part < injectors_of case.topology →
    HasLinesOf 16 case part was old new

-- ---- why a turn of work ends before its end

-- a turn of work ends by the keeper's fault only where the desk's count rose, by a full history only where
-- what was seen is full, and by no damaged row, since it claims nothing
pub record IsSliceFault (old new : DeskView) (why : NodeFault) : Type 0 where
  pub keeper : why ≡ faults.KeeperFault → Rose old.faults new.faults
  pub full : why ≡ faults.HistoryFull → length new.seen ≡ new.limit
  pub no_row : IsNoDamage (refusal_of why)

-- What a worker's calls did so far in its turn of work. No public clause cites this module.
use Rattle.std.specs.Prelude.{◌≡◌, ◌<◌, ◌≤◌, ◌+◌, ◌==◌, ◌⊎◌, ℕ, [], List, Option, Some, None, IfSome, Result, Ok, Err, ⊤, if◌then◌else◌, length, min, nat_lt}
use Rattle.mw_types.specs.declared.entry.Entry.{Entry}
use Rattle.topology.specs.Shapes.{injectors_of}
use Rattle.run_history.specs.Cases.{CaseShape, source_of}
use Rattle.run_history.specs.Fences.{IsClaimed, IsFenced, interval_of}
use Rattle.book.specs.Desks.{DeskView}
use Rattle.node.specs.Fits.{Fits}
use Rattle.node.specs.Workers.{NodeView, leases_of}
use Rattle.node.specs.declared.outcome.NodeFault.{NodeFault}
use Rattle.node.specs.declared.outcome.Outcome.{Outcome}
use Rattle.node.specs.declared.outcome.Outcome.TheVariants as outcomes
use Rattle.workers.specs.Slices.{HasWorked, IsOvertaken, KeepsLeases, injected}

-- ---- how many lines of which injectors

-- so many lines of each injector
abbrev pub lines_each : ℕ → ℕ → ℕ
lines_each many = λ part. many

-- so many lines of one injector, and none of another
abbrev pub lines_of : ℕ → ℕ → ℕ → ℕ
lines_of injector many = λ part. if injector == part then many else 0

-- so many lines of each of the first injectors, and none of another
abbrev pub lines_below : ℕ → ℕ → ℕ → ℕ
lines_below injectors many = λ part. if nat_lt part injectors then many else 0

-- the next line of an injector, where there is one
abbrev pub lines_by : Option ℕ → ℕ → ℕ
lines_by None = lines_each 0
lines_by (Some injector) = lines_of injector 1

-- ---- at most so many lines

-- a worker holds the interval of an injector, and its desk has seen the claim
pub record HoldsInjector (case : CaseShape) (part interval seq : ℕ) (desk : DeskView) (was : NodeView) : Type 0 where
  pub lies : interval_of case.topology (record { part = part; key = [] }) ≡ Some interval
  pub holds : leases_of was.held interval ≡ Some seq
  pub claimed : IsClaimed interval seq desk.seen

-- where a worker fitted its desk and what is seen is fenced, each injector whose interval it held has at most
-- so many lines more, and no more than so many entries, unless another has overtaken its lease
abbrev pub HasFewLines : ℕ → (ℕ → ℕ) → CaseShape → DeskView → DeskView → NodeView → Type 0
HasFewLines most lines case old new was = Fits case old was → IsFenced case.topology new.seen →
    (part interval seq : ℕ) → HoldsInjector case part interval seq old was →
    IsOvertaken interval seq new.seen
    ⊎ (injected part new.seen ≤ injected part old.seen + min most (lines part))

-- a worker's calls appended at most so many entries, among them at most so many lines of each injector, and
-- the worker fits its desk
pub record HasServedLines (case : CaseShape) (most : ℕ) (lines : ℕ → ℕ) (old new : DeskView)
    (was node : NodeView) : Type 0 where
  pub fits : Fits case new node
  pub number : node.number ≡ was.number
  pub worked : HasWorked most old new
  pub kept : KeepsLeases new.seen was node
  pub few : HasFewLines most lines case old new was

-- a worker's calls appended at most so many entries, none of them a line, and the worker fits its desk
abbrev pub HasServed : CaseShape → ℕ → DeskView → DeskView → NodeView → NodeView → Type 0
HasServed case most old new was node = HasServedLines case most (lines_each 0) old new was node

-- ---- at least so many lines

-- at least so many lines more of an injector were injected, or all that it has
abbrev pub HasLeastLines : ℕ → CaseShape → ℕ → List Entry → List Entry → Type 0
HasLeastLines many case part old new =
    min (length (source_of case part)) (injected part old + many) ≤ injected part new

-- so it is of an injector whose interval a worker held, unless another has overtaken its lease, where a
-- contract can see the keeper's rows
abbrev pub HasLeastLinesOf : ℕ → CaseShape → ℕ → NodeView → DeskView → DeskView → Type 0
HasLeastLinesOf many case part was old new = IfSome old.told (λ _. (interval seq : ℕ) →
    interval_of case.topology (record { part = part; key = [] }) ≡ Some interval →
    leases_of was.held interval ≡ Some seq →
    IsOvertaken interval seq new.seen ⊎ HasLeastLines many case part old.seen new.seen)

-- each injector has 16 lines more at least, or all, in this sense
abbrev pub HasInjectedLeast : CaseShape → NodeView → DeskView → DeskView → Type 0
HasInjectedLeast case was old new = (part : ℕ) → part < injectors_of case.topology →
    HasLeastLinesOf 16 case part was old new

-- ---- what a call answers

-- how many entries a call appended that answered this
abbrev pub entries_of : Outcome → ℕ
entries_of (outcomes.Committed commit) = 1
entries_of _ = 0

-- and one that answered or failed
abbrev pub appended : Result Outcome NodeFault → ℕ
appended (Ok outcome) = entries_of outcome
appended (Err why) = 0

-- another had the turn
abbrev pub IsBusy : Result Outcome NodeFault → Type 0
IsBusy (Ok (outcomes.Busy found)) = ⊤
IsBusy _ = ⊥

-- how many lines more an answer tells of: all that a turn of work asks for, where there is none to inject
abbrev pub lines_told : Outcome → ℕ
lines_told outcomes.Nothing = 16
lines_told _ = 1

-- How the first claims of a run stand in what its workers have seen. No public clause cites this module.
use Rattle.std.specs.Prelude.{◌≢◌, Bool, true, false, ◌≡◌, ◌⊎◌, ◌<◌, ◌≤◌, ◌∷◌, [], ℕ, suc, List, IfSome, Some, ⊤, length, min, slice_get, slice_index_or}
use Rattle.row_keeper.specs.declared.keeper.Keeper.{Ghosts}
use Rattle.mw_types.specs.declared.entry.Entry.{Entry}
use Rattle.mw_types.specs.declared.entry.Entry.TheVariants as entries
use Rattle.topology.specs.Shapes.{injectors_of}
use Rattle.run_history.specs.Cases.{CaseShape, intervals_of, source_of}
use Rattle.run_history.specs.Fences.{Begins, IsClaimed, interval_of}
use Rattle.book.specs.Desks.{DeskView}
use Rattle.node.specs.Workers.{NodeView, leases_of}
use Rattle.shared_book.specs.Lists.{Ascends, IsIn}
use Rattle.workers.specs.Slices.{IsOvertaken, injected}
use Rattle.workers.specs.Crews.{AreCalm, desk_of}
use Rattle.workers.specs.Rounds.{first_claim}
use Rattle.workers.specs.declared.crew.Worker.{Worker}

-- the first claims, from an interval on, have these numbers in what was seen
abbrev pub AreClaimedAt : ℕ → ℕ → List ℕ → List Entry → Type 0
AreClaimedAt workers from [] seen = ⊤
AreClaimedAt workers from (number ∷ numbers) seen =
    (slice_get seen number ≡ Some (first_claim workers from)) × AreClaimedAt workers (suc from) numbers seen

-- so many first claims have these numbers in what was seen, and the numbers ascend
pub record IsClaimedTo (workers count : ℕ) (numbers : List ℕ) (seen : List Entry) : Type 0 where
  pub many : length numbers ≡ count
  pub ascend : Ascends numbers
  pub at : AreClaimedAt workers 0 numbers seen

-- the first claims so far: each entry that a worker appended is one of them, and this worker has seen all
pub record HasClaimedTo {K J : Type 0} {g : Ghosts K} (workers count last : ℕ) (crew : List (Worker K J g)) : Type 0 where
  pub numbers : List ℕ
  pub claimed : (d : Worker K J g) → last < length crew →
      IsClaimedTo workers count numbers (desk_of (slice_index_or crew last d)).seen
  pub own : (at : ℕ) (d : Worker K J g) → at < length crew → (number : ℕ) →
      IsIn number (desk_of (slice_index_or crew at d)).own → IsIn number numbers

-- a worker has seen the first claims, and appended nothing else before a certain length
pub record HasBegun {K J : Type 0} {g : Ghosts K} (front : List Entry) (numbers : List ℕ) (worker : Worker K J g) : Type 0 where
  pub seen : Begins front (desk_of worker).seen
  pub own : (number : ℕ) → IsIn number (desk_of worker).own → IsIn number numbers ⊎ (length front ≤ number)

-- an entry of this number was seen, and is no claim
pub record IsNoClaim (number : ℕ) (seen : List Entry) : Type 0 where
  pub below : number < length seen
  pub no_claim : (who interval : ℕ) → slice_get seen number ≡ Some (entries.Claim who interval) → ⊥

-- behind the first claims a worker has claimed nothing, and it has seen all that it appended
abbrev pub ClaimsNoMore : {K J : Type 0} {g : Ghosts K} → List Entry → Worker K J g → Type 0
ClaimsNoMore front worker = (number : ℕ) → IsIn number (desk_of worker).own → length front ≤ number →
    IsNoClaim number (desk_of worker).seen

-- all first claims stand in what each worker has seen
pub record HaveBegun {K J : Type 0} {g : Ghosts K} (workers : ℕ) (case : CaseShape) (crew : List (Worker K J g)) : Type 0 where
  pub front : List Entry
  pub numbers : List ℕ
  pub claimed : IsClaimedTo workers (length (intervals_of case.topology)) numbers front
  pub each : (at : ℕ) (d : Worker K J g) → at < length crew → HasBegun front numbers (slice_index_or crew at d)

-- so many intervals are claimed, once one more is, or not
abbrev pub claimed_by : Bool → ℕ → ℕ
claimed_by true interval = suc interval
claimed_by false interval = interval

-- some first claims stand in what a worker has seen, and nothing else was appended
pub record HaveClaimedSome {K J : Type 0} {g : Ghosts K} (workers : ℕ) (case : CaseShape) (crew : List (Worker K J g)) : Type 0 where
  pub count : ℕ
  pub few : count ≤ length (intervals_of case.topology)
  pub last : ℕ
  pub there : last < length crew
  pub claimed : HasClaimedTo workers count last crew

-- all first claims stand in what each worker has seen, and behind them no worker has claimed anything
pub record HaveClaimedOnly {K J : Type 0} {g : Ghosts K} (workers : ℕ) (case : CaseShape) (crew : List (Worker K J g)) : Type 0 where
  pub begun : HaveBegun workers case crew
  pub no_more : (at : ℕ) (d : Worker K J g) → at < length crew → ClaimsNoMore begun.front (slice_index_or crew at d)

-- ---- what became of the first claims

-- a node has a lease of an interval, whose number is that of a claim, and each other lease that it had
pub record HasLeased (interval seq : ℕ) (was now : NodeView) (desk : DeskView) : Type 0 where
  pub claimed : IsClaimed interval seq desk.seen
  pub lease : leases_of now.held interval ≡ Some seq
  pub others : (other : ℕ) → other ≢ interval → leases_of now.held other ≡ leases_of was.held other

-- a worker has the lease of an interval that it has claimed
abbrev pub LeasesOne : {K J : Type 0} {g : Ghosts K} → ℕ → ℕ → List (Worker K J g) → List (Worker K J g) → Type 0
LeasesOne {K} {J} {g} at interval old new = (seq : ℕ) × ((d : Worker K J g) → HasLeased interval seq
    (slice_index_or old at d).node (slice_index_or new at d).node (desk_of (slice_index_or new at d)))

-- a worker claimed an interval by an entry of this number, and holds it so still, unless another claim has overtaken that
pub record HoldsSince {K J : Type 0} {g : Ghosts K} (interval seq : ℕ) (worker : Worker K J g) : Type 0 where
  pub claimed : IsClaimed interval seq (desk_of worker).seen
  pub held : (leases_of worker.node.held interval ≡ Some seq) ⊎ IsOvertaken interval seq (desk_of worker).seen

-- some worker did
pub record HasHolder {K J : Type 0} {g : Ghosts K} (interval : ℕ) (crew : List (Worker K J g)) : Type 0 where
  pub at : ℕ
  pub there : at < length crew
  pub seq : ℕ
  pub holds : (d : Worker K J g) → HoldsSince interval seq (slice_index_or crew at d)

-- each of the first so many intervals has such a worker
abbrev pub HoldFirst : {K J : Type 0} {g : Ghosts K} → ℕ → List (Worker K J g) → Type 0
HoldFirst count crew = (interval : ℕ) → interval < count → HasHolder interval crew

-- a worker that claimed the interval of an injector has seen so many of its lines, or all, unless another claim has
-- overtaken its own, where a contract can see the keeper's rows
pub record HasLinesBy {K J : Type 0} {g : Ghosts K} (case : CaseShape) (many part : ℕ) (crew : List (Worker K J g)) : Type 0 where
  pub interval : ℕ
  pub lies : interval_of case.topology (record { part = part; key = [] }) ≡ Some interval
  pub at : ℕ
  pub there : at < length crew
  pub seq : ℕ
  pub holds : (d : Worker K J g) → HoldsSince interval seq (slice_index_or crew at d)
  pub lines : (d : Worker K J g) → IfSome (desk_of (slice_index_or crew at d)).told (λ _.
      IsOvertaken interval seq (desk_of (slice_index_or crew at d)).seen
      ⊎ (min (length (source_of case part)) many ≤ injected part (desk_of (slice_index_or crew at d)).seen))

-- and so of each injector
abbrev pub HaveLines : {K J : Type 0} {g : Ghosts K} → CaseShape → ℕ → List (Worker K J g) → Type 0
HaveLines case many crew = (part : ℕ) → part < injectors_of case.topology → HasLinesBy case many part crew

-- rounds without a plan left the workers so: none stalls, all first claims and no others are there, and each injector
-- has so many lines, or all
pub record AreQuiet {K J : Type 0} {g : Ghosts K} (workers : ℕ) (case : CaseShape) (many : ℕ) (crew : List (Worker K J g)) : Type 0 where
  pub calm : AreCalm crew
  pub only : HaveClaimedOnly workers case crew
  pub lines : HaveLines case many crew

-- The steps inside a node's calls. No public clause cites this module.
use Rattle.std.specs.Prelude.{◌≡◌, ◌<◌, ℕ, Bool, false, not, Option, None, IfSome, Result, Ok, Err}
use Rattle.std.specs.Option.{option_map_or}
use Rattle.topology.specs.Shapes.{Shape, parts_of}
use Rattle.book.specs.declared.desk_refusal.DeskRefusal.{DeskRefusal}
use Rattle.book.specs.declared.desk_refusal.DeskRefusal.TheVariants as refusals
use Rattle.holdings.specs.Holding.{KeepsOthers, held_at}
use Rattle.node.specs.Workers.{NodeView, Sending, WorkView, goes_into, sending_in, where_passes}
use Rattle.node.specs.declared.outcome.NodeFault.{NodeFault}
use Rattle.node.specs.declared.outcome.NodeFault.TheVariants as faults
use Rattle.node.specs.declared.outcome.Outcome.{Outcome}
use Rattle.node.specs.declared.outcome.Outcome.TheVariants as outcomes

-- what a node answers where its desk refused
abbrev pub answered : DeskRefusal → Result Outcome NodeFault
answered (refusals.Busy found) = Ok (outcomes.Busy found)
answered (refusals.Stale newer) = Ok (outcomes.Stale newer)
answered refusals.HistoryFull = Err faults.HistoryFull
answered refusals.KeeperFault = Err faults.KeeperFault
answered (refusals.RowDamaged name bytes) = Err (faults.RowDamaged name bytes)
answered refusals.NoMemory = Err faults.NoMemory

-- a work's record goes to a row of a part
abbrev pub IsWorkThere : Shape → WorkView → Type 0
IsWorkThere shape work =
    IfSome (sending_in work.sender work.proposal) (λ (s : Sending). s.delivery.to.part < parts_of shape)

-- whether a work's record goes to a row of this interval
abbrev pub is_work_in : Shape → ℕ → WorkView → Bool
is_work_in shape interval work =
    option_map_or (goes_into shape interval) (sending_in work.sender work.proposal) false

-- a work that is prepared, unless its record goes to a row of this interval
abbrev pub work_beside : Shape → ℕ → Option WorkView → Option WorkView
work_beside shape interval = where_passes (λ work. not (is_work_in shape interval work))

-- a node has let go of what it held of an interval, and of a work that was prepared there
pub record HasLetGo (shape : Shape) (interval : ℕ) (old new : NodeView) : Type 0 where
  pub number : new.number ≡ old.number
  pub gone : held_at new.held interval ≡ None
  pub others : KeepsOthers interval old.held new.held
  pub prepared : new.prepared ≡ work_beside shape interval old.prepared
  pub outbox : new.outbox ≡ old.outbox

-- what a refusal by the desk leaves of a node: a stale lease is let go
abbrev pub HasYielded : Shape → ℕ → DeskRefusal → NodeView → NodeView → Type 0
HasYielded shape interval (refusals.Stale newer) old new = HasLetGo shape interval old new
HasYielded shape interval _ old new = new ≡ old

-- A drain that is done turn by turn. Own.
use Rattle.std.specs.Prelude.{◌≡◌, ◌<◌, ◌≤◌, ◌⊎◌, ℕ, Bool, Option, IfSome, length}
use Rattle.std.specs.Option.{is_some}
use Rattle.mw_types.specs.declared.entry.Entry.{Entry}
use Rattle.topology.specs.Rules.{interval_count}
use Rattle.book.specs.Books.{BookView}
use Rattle.node.specs.Workers.{NodeView}
use Rattle.node.specs.declared.outcome.NodeFault.{NodeFault}
use Rattle.node.specs.declared.outcome.NodeFault.TheVariants.{HistoryFull}
use Rattle.world.specs.drains.Drains.{HasClaimedAll, HasEnded, IsDraining, IsNextEntry}
use Rattle.world.specs.drains.Turns.{HasGone, HasStepped, IsAtWork, IsClaiming, WhereTold}

-- a drain: how many entries there were when it began, and its one worker
pub record DrainView : Type 0 where
  pub from : ℕ
  pub node : NodeView

-- a drain has claimed so many intervals of a book, and nothing came since
pub record IsAtClaims (book : BookView) (drain : DrainView) : Type 0 where
  pub start : BookView
  pub count : ℕ
  pub from : drain.from ≡ length start.history
  pub most : count ≤ interval_count book.case.topology
  pub claiming : IsClaiming start book drain.node count

-- a drain has claimed all intervals of a book, and its worker has them
pub record IsPastClaims (book : BookView) (drain : DrainView) : Type 0 where
  pub at_work : IsAtWork book drain.node
  pub claimed : HasClaimedAll book.case drain.from book.history

-- a drain of a book was begun, and all that came since are its own turns
abbrev pub IsUnderWay : BookView → DrainView → Type 0
IsUnderWay book drain = IsAtClaims book drain ⊎ IsPastClaims book drain

-- one entry was appended, which is the drain's next where a contract can see the keeper's rows, or none
pub record HasDrained (from : ℕ) (old new : BookView) (more : Bool) : Type 0 where
  pub own : Option Entry
  pub stepped : HasStepped old new own
  pub is_more : is_some own ≡ more
  pub next : WhereTold old (IfSome own (IsNextEntry old.case from old.history))

-- a call fails since the history is full only where a drain has not ended; so where told
abbrev pub IsFullBefore : ℕ → BookView → NodeFault → Type 0
IsFullBefore from book why =
    why ≡ HistoryFull → WhereTold book (HasEnded book.case from book.history → ⊥)

-- ---- what no public clause cites

-- a drain claims this interval of a book next
pub record IsAtClaim (book : BookView) (drain : DrainView) (interval : ℕ) : Type 0 where
  pub start : BookView
  pub from : drain.from ≡ length start.history
  pub less : interval < interval_count book.case.topology
  pub claiming : IsClaiming start book drain.node interval

-- a drain that began with this many entries, and with this book at some time, goes on
pub record IsGoingOn (start book : BookView) (from : ℕ) (drain : DrainView) : Type 0 where
  pub gone : HasGone start book
  pub under_way : IsUnderWay book drain
  pub same : drain.from ≡ from
  pub goes : WhereTold start (IsDraining start.case from start.history → IsDraining start.case from book.history)

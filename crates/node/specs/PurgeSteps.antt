-- The steps of a purge. Public clauses cite `AreRowsWithin` alone, through `AreAllWithin`.
use Rattle.std.specs.Prelude.{◌≡◌, ◌<◌, ℕ, Option, Some, None, IsSome, IfSome}
use Rattle.mw_types.specs.declared.identity.RowName.{RowName}
use Rattle.topology.specs.Shapes.{Shape, parts_of}
use Rattle.run_history.specs.Fences.{interval_of}
use Rattle.run_history.specs.Runs.{cached, row_in}
use Rattle.holdings.specs.Holding.{HeldView}
use Rattle.node.specs.Asking.{MayAskForget, MayAskPurge, Request}
use Rattle.node.specs.Workers.{NodeView}

-- a node may have a row forget ids: nothing is prepared, and the row is held and has so many, and a
-- floor below this one
abbrev pub CanForget : Shape → NodeView → ℕ → ℕ → RowName → Type 0
CanForget shape node least floor name = (asked : Request) × MayAskForget shape node least floor name asked

-- the first row of an interval that a node may have forget ids, or none where there is none
abbrev pub IsToPurge : Shape → NodeView → ℕ → ℕ → ℕ → Option RowName → Type 0
IsToPurge shape node interval least floor None = (asked : Request) →
    MayAskPurge shape node interval least floor asked → ⊥
IsToPurge shape node interval least floor (Some name) = (name.part < parts_of shape)
    × (asked : Request) × (may : MayAskPurge shape node interval least floor asked) × (may.name ≡ name)

-- the rows that are cached of an interval lie in it
abbrev pub AreRowsWithin : Shape → ℕ → Option HeldView → Type 0
AreRowsWithin shape interval held = IfSome held (λ h. (name : RowName) →
    IsSome (row_in (cached h.rows) name) → interval_of shape name ≡ Some interval)

-- What a worker asks of the computations that are handed in: each does what the kind of its part does. Own.
use Rattle.std.specs.Prelude.{◌≡◌, ℕ, true, List, Option, Some, unwrap_or}
use Rattle.computations.specs.Handlers.{Cause, effects_of, has_kind}
use Rattle.computations.specs.Laws.{Doings}
use Rattle.mw_types.specs.declared.identity.RowName.{RowName}
use Rattle.mw_types.specs.declared.kind.Kind.{Kind}
use Rattle.mw_types.specs.declared.state.State.{State}
use Rattle.topology.specs.Shapes.{Shape, kind_of}
use Rattle.row_parts.specs.Contents.{Contents, fresh}
use Rattle.run_history.specs.Cases.{fresh_of}
use Rattle.holdings.specs.Holding.{HeldView, held_on, row_held}

-- each computation has the states of its kind, and leaves of a cause what its kind leaves
pub record IsWorkOf (shape : Shape) (does : Doings) : Type 0 where
  pub states : (part : ℕ) (kind : Kind) (state : State) → kind_of shape part ≡ Some kind →
      has_kind kind state ≡ true → does.has part state
  pub causes : (part : ℕ) (kind : Kind) (key : List ℕ) (state : State) (cause : Cause) →
      kind_of shape part ≡ Some kind → does.gives part key state cause ≡ effects_of kind key state cause

-- a part is a computation, and its rows may have the state
abbrev pub IsStateThere : Shape → ℕ → State → Type 0
IsStateThere shape part state =
    (kind : Kind) × (kind_of shape part ≡ Some kind) × (has_kind kind state ≡ true)

-- the row of this name has a state of its part's kind, where it is held
abbrev pub HasStates : Shape → List (Option HeldView) → RowName → Type 0
HasStates shape all name = (held : HeldView) → held_on shape all name ≡ Some held →
    IsStateThere shape name.part (row_held shape held name).state

-- the row that is there, or a fresh one of a part
abbrev pub row_or_fresh : Shape → ℕ → Option Contents → Contents
row_or_fresh shape part row = unwrap_or row (fresh (fresh_of shape part))

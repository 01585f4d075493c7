-- Which part of a topology has which kind of computation. Own.
use Rattle.std.specs.Prelude.{◌≡◌, ℕ, ◌-◌, true, nat_lt, if◌then◌else◌}
use Rattle.std.specs.Prelude.{List, slice_get, Option, None, Some}
use Rattle.std.specs.Option.{option_map_or}
use Rattle.mw_types.specs.declared.kind.Kind.{Kind}
use Rattle.mw_types.specs.declared.state.State.{State}
use Rattle.mw_types.specs.Kinds.{IsKind}
use Rattle.mw_types.specs.Outcomes.{EffectsView}
use Rattle.computations.specs.Handlers.{Cause, has_kind, unchanged, effects_of}
use Rattle.computations.specs.Laws.{Doings}

-- the parts by number: so many injectors, and then the computations, by kind
pub record Parts : Type 0 where
  pub injectors : ℕ
  pub kinds : List Kind

-- the kind of a part, where it is a computation
abbrev pub kind_at : Parts → ℕ → Option Kind
kind_at parts part =
    if nat_lt part parts.injectors then None else slice_get parts.kinds (part - parts.injectors)

-- the part is a computation, whose kind is in range, and a row of it may have the state
abbrev pub HasState : Parts → ℕ → State → Type 0
HasState parts part state =
    (kind : Kind) × (kind_at parts part ≡ Some kind) × IsKind kind × (has_kind kind state ≡ true)

-- what a part leaves of a cause; a part that is no computation changes nothing
abbrev pub part_effects : Parts → ℕ → List ℕ → State → Cause → EffectsView
part_effects parts part key state cause =
    option_map_or (λ kind. effects_of kind key state cause) (kind_at parts part) (unchanged state)

-- what the handlers of these parts do
abbrev pub part_doings : Parts → Doings
part_doings parts = record { has = HasState parts; gives = part_effects parts }

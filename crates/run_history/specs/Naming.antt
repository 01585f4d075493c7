-- Lists that only grow, and the short names among them. No public clause cites this module. Own.
use Rattle.std.specs.Prelude.{ℕ, ◌≡◌, ◌<◌, ◌≤◌, [], List, length, slice_index_or}
use Rattle.mw_types.specs.declared.identity.RowName.{RowName}

-- a name that lies in the value itself
abbrev pub IsShort : RowName → Type 0
IsShort name = length name.key ≤ 30

-- what is said of a number under which no name stands
abbrev pub no_name : RowName
no_name = record { part = 0; key = [] }

-- the name under a number
abbrev pub name_at : List RowName → ℕ → RowName
name_at names number = slice_index_or names number no_name

-- a number under which a name stands
abbrev pub IsNumbered : List RowName → ℕ → RowName → Type 0
IsNumbered names number name = (number < length names) × (name_at names number ≡ name)

-- each element stands where it stood
abbrev pub Keeps : {X : Type 0} → List X → List X → Type 0
Keeps {X} old new = (number : ℕ) (none : X) → number < length old →
    (number < length new) × (slice_index_or new number none ≡ slice_index_or old number none)

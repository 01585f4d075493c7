-- What a keeper of rows holds. Own.
use Rattle.std.specs.Prelude.{◌≡◌, ◌≤◌, ◌+◌, ◌++◌, ℕ, List, IsSome, Some, drop, length, option_map, take}
use Rattle.std.specs.BTreeMap.{insert_entry, is_at}
use Rattle.std.specs.Map.{keys_of, lookup}
use Rattle.std.specs.Option.{unwrap_or}
use Rattle.std.specs.List.Sorted.{IsStrictlySortedBy}
use Rattle.mw_types.specs.Orders.{row_cmp}
use Rattle.mw_types.specs.declared.identity.RowName.{RowName}
use Rattle.row_keeper.specs.declared.keeper.KeptRow.{KeptRow}

-- rows by their names, each with its bytes
abbrev pub Rows : Type 0
Rows = List (RowName × List ℕ)

-- the rows stand ascending by name, and no name twice
abbrev pub AreInOrder : Rows → Type 0
AreInOrder rows = IsStrictlySortedBy row_cmp (keys_of rows)

-- the rows with these bytes at this name, and each other row as it was
abbrev pub with_row : RowName → List ℕ → Rows → Rows
with_row name bytes rows = insert_entry row_cmp rows name bytes

-- a row of this name is there
abbrev pub IsThere : RowName → Rows → Type 0
IsThere name rows = IsSome (lookup (is_at (row_cmp name)) rows)

-- bytes with `head` in the place of as many at their front, and `put` in the place of so many from a
-- place on
abbrev pub edited : List ℕ → ℕ → ℕ → List ℕ → List ℕ → List ℕ
edited head at gone put bytes =
    head ++ (drop (length head) (take at bytes) ++ (put ++ drop (at + gone) bytes))

-- the rows with the bytes of this name so edited, where they have any
abbrev pub with_edit : RowName → List ℕ → ℕ → ℕ → List ℕ → Rows → Rows
with_edit name head at gone put rows = unwrap_or
    (option_map (λ bytes. with_row name (edited head at gone put bytes) rows)
    (lookup (is_at (row_cmp name)) rows)) rows

-- a row of this name is there, and has so many bytes at its front, and so many from a place behind on;
-- no public clause cites it
abbrev pub HasPlace : RowName → ℕ → ℕ → ℕ → Rows → Type 0
HasPlace name front at gone rows = (bytes : List ℕ)
    × ((lookup (is_at (row_cmp name)) rows ≡ Some bytes) × ((front ≤ at) × (at + gone ≤ length bytes)))

-- the name of a row that was answered, and its bytes
abbrev pub entry_of : KeptRow → RowName × List ℕ
entry_of row = (row.name, row.bytes)

-- The names of the rows that have seen ids. No public clause cites this module.
use Rattle.std.specs.Prelude.{◌≡◌, ℕ, Bool, true, false, List, Option, Some, None, length, nat_lt, if◌then◌else◌}
use Rattle.std.specs.Option.{is_some}
use Rattle.std.specs.List.Sorted.{IsStrictlySortedBy}
use Rattle.std.specs.Map.{keys_of, lookup}
use Rattle.std.specs.BTreeMap.{is_at}
use Rattle.mw_types.specs.Orders.{row_cmp}
use Rattle.mw_types.specs.declared.identity.RowName.{RowName}
use Rattle.row_parts.specs.Contents.{Contents}
use Rattle.holdings.specs.Firsts.{HasPicked}
use Rattle.holdings.specs.Keyed.{AreKeys}
use Rattle.holdings.specs.Purges.{forgets}

-- the name of a row, if the row has seen ids
abbrev pub seen_of : RowName → Contents → Option RowName
seen_of name row = if nat_lt 0 (length row.seen) then Some name else None

-- a name, if its row has seen ids
abbrev pub name_if : Bool → RowName → Option RowName
name_if seen name = if seen then Some name else None

-- whether a row has seen ids, if there is one
abbrev pub had_seen : Option Contents → Bool
had_seen None = false
had_seen (Some row) = nat_lt 0 (length row.seen)

-- a name is that of its row
abbrev pub own_name : RowName → RowName
own_name name = name

-- these are the names of the rows that have seen ids
abbrev pub AreSeen : List (RowName × Contents) → List (RowName × Unit {0}) → Type 0
AreSeen = AreKeys row_cmp own_name seen_of

-- the names that are left ascend, and each row that may forget ids is among them
pub record AreSeenLeft (floor least : ℕ) (rows : List (RowName × Contents))
    (left : List (RowName × Unit {0})) : Type 0 where
  pub ordered : IsStrictlySortedBy row_cmp (keys_of left)
  pub each : (other : RowName × Unit {0}) → HasPicked (forgets floor least) rows other
      → is_some (lookup (is_at (row_cmp other.0)) left) ≡ true

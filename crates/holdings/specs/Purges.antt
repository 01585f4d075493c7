-- Which row of an interval is the first that may forget ids. Own.
use Rattle.std.specs.Prelude.{ℕ, ◌&&◌, List, Option, Some, None, length, max, nat_le, nat_lt, option_copied, if◌then◌else◌}
use Rattle.std.specs.Option.{option_map}
use Rattle.std.specs.declared.cmp.Ordering.{Ordering}
use denote.Ref.{Bor}
use Rattle.mw_types.specs.Orders.{row_cmp}
use Rattle.mw_types.specs.declared.identity.RowName.{RowName}
use Rattle.row_parts.specs.Contents.{Contents}
use Rattle.holdings.specs.Firsts.{IsFirstOf}

-- a row has a floor below this one, and at least so many seen ids, and one
abbrev pub forgets : ℕ → ℕ → Contents → Option (Unit {0})
forgets floor least row =
    if nat_lt row.floor floor && nat_le (max 1 least) (length row.seen) then Some tt else None

-- rows stand by their names
abbrev pub by_name : RowName × Unit {0} → RowName × Unit {0} → Ordering
by_name a b = row_cmp a.0 b.0

-- the first row, by its name, that may forget ids, or none where none may
abbrev pub IsFirstToPurge : ℕ → ℕ → List (RowName × Contents) → Option RowName → Type 0
IsFirstToPurge floor least rows found =
    IsFirstOf (forgets floor least) by_name rows (option_map (λ n. (n, tt)) found)

-- ---- what no public clause cites

-- a row's name, as a contract sees it
abbrev pub seen_name : Option (Bor RowName) → Option (RowName × Unit {0})
seen_name best = option_map (λ n. (n, tt)) (option_copied best)

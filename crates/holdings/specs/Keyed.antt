-- Keys that are made of rows, at most one of each row, in an order of their own. No public clause cites this
-- module.
use Rattle.std.specs.Prelude.{◌≡◌, Bool, true, false, not, ◌&&◌, ◌||◌, List, Option, Some, None}
use Rattle.std.specs.Option.{is_some}
use Rattle.std.specs.List.{list_any}
use Rattle.std.specs.List.Sorted.{IsStrictlySortedBy}
use Rattle.std.specs.Map.{keys_of, lookup}
use Rattle.std.specs.BTreeMap.{is_at}
use Rattle.std.specs.declared.cmp.Ordering.{Ordering}
use Rattle.mw_types.specs.declared.identity.RowName.{RowName}
use Rattle.row_parts.specs.Contents.{Contents}
use Rattle.run_history.specs.Runs.{cached, row_in}

-- whether a key ties with one, if there is one
abbrev pub ties : {K : Type 0} → (K → K → Ordering) → K → Option K → Bool
ties {K} cmp k None = false
ties cmp k (Some j) = is_at (cmp k) j

-- whether a key is that of a row, if there is one
abbrev pub has_key : {K : Type 0} → (K → K → Ordering) → (RowName → Contents → Option K) → K → RowName
    → Option Contents → Bool
has_key {K} cmp key k name None = false
has_key cmp key k name (Some row) = ties cmp k (key name row)

-- the keys ascend, and are those of the rows, each at its row's name
pub record AreKeys {K : Type 0} (cmp : K → K → Ordering) (place : K → RowName)
    (key : RowName → Contents → Option K) (rows : List (RowName × Contents))
    (keys : List (K × Unit {0})) : Type 0 where
  pub ordered : IsStrictlySortedBy cmp (keys_of keys)
  pub each : (k : K) →
      is_some (lookup (is_at (cmp k)) keys) ≡ has_key cmp key k (place k) (row_in (cached rows) (place k))

-- the keys ascend, and one is there, if there is one, and another is not, if there is one
pub record HasRekeyed {K : Type 0} (cmp : K → K → Ordering) (before after : Option K)
    (old new : List (K × Unit {0})) : Type 0 where
  pub ordered : IsStrictlySortedBy cmp (keys_of new)
  pub each : (k : K) → is_some (lookup (is_at (cmp k)) new)
      ≡ (ties cmp k after || (not (ties cmp k before) && is_some (lookup (is_at (cmp k)) old)))

-- a key is among some, if there is one
pub record IsThere {K : Type 0} (cmp : K → K → Ordering) (key : Option K)
    (keys : List (K × Unit {0})) : Type 0 where
  pub there : (k : K) → ties cmp k key ≡ true → is_some (lookup (is_at (cmp k)) keys) ≡ true

-- whether a key is that of any of some rows
abbrev pub has_any : {K : Type 0} → (K → K → Ordering) → (RowName → Contents → Option K) → K →
    List (RowName × Contents) → Bool
has_any cmp key k rows = list_any (λ (r : RowName × Contents). ties cmp k (key r.0 r.1)) rows

-- the keys ascend, and there is one more for each row that has one
pub record HasKeyed {K : Type 0} (cmp : K → K → Ordering) (key : RowName → Contents → Option K)
    (rows : List (RowName × Contents)) (old new : List (K × Unit {0})) : Type 0 where
  pub ordered : IsStrictlySortedBy cmp (keys_of new)
  pub each : (k : K) → is_some (lookup (is_at (cmp k)) new)
      ≡ (has_any cmp key k rows || is_some (lookup (is_at (cmp k)) old))

-- the keys ascend, and what is there, with the keys of the rows that are left, is what was there with those
-- of all
pub record AreKeysLeft {K : Type 0} (cmp : K → K → Ordering) (key : RowName → Contents → Option K)
    (left all : List (RowName × Contents)) (now start : List (K × Unit {0})) : Type 0 where
  pub ordered : IsStrictlySortedBy cmp (keys_of now)
  pub each : (k : K) → (has_any cmp key k left || is_some (lookup (is_at (cmp k)) now))
      ≡ (has_any cmp key k all || is_some (lookup (is_at (cmp k)) start))

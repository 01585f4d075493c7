-- What is kept beside the rows of an interval, so that no step goes over all of them. No public clause cites
-- this module.
use Rattle.std.specs.Prelude.{◌≡◌, ℕ, ◌+◌, Box, IfSome, List, Option, sum_by, unwrap_or}
use Rattle.std.specs.Option.{option_map}
use Rattle.std.specs.List.Sorted.{IsStrictlySortedBy}
use Rattle.std.specs.Map.{keys_of, values_of}
use Rattle.mw_types.specs.declared.TheConstants.{END}
use Rattle.mw_types.specs.Orders.{row_cmp}
use Rattle.mw_types.specs.declared.identity.RowName.{RowName}
use Rattle.row_parts.specs.Contents.{Contents}
use Rattle.run_history.specs.Marks.{row_marks}
use Rattle.run_history.specs.Watermarks.{least}
use Rattle.holdings.specs.Dues.{AreDues}
use Rattle.holdings.specs.Seens.{AreSeen}
use Rattle.holdings.specs.declared.index.Index.{Index}

-- ---- the oldest work, one stamp a row that has any

-- the oldest work of a row, or the end where it has none
abbrev pub work_of : Contents → ℕ
work_of row = least (row_marks row)

-- some stamps are the oldest work of the rows, one a row that has any: whatever is added up, and nothing for
-- the end, both have the same sum
pub record AreStamps (rows : List (RowName × Contents)) (stamps : List ℕ) : Type 0 where
  pub sums : (weigh : ℕ → ℕ) → weigh END ≡ 0 →
      sum_by weigh stamps ≡ sum_by (λ row. weigh (work_of row)) (values_of rows)

-- there is one stamp more, and this one less, where there is one; the end is no stamp
pub record HasRestamped (before : Option ℕ) (after : ℕ) (old new : List ℕ) : Type 0 where
  pub sums : (weigh : ℕ → ℕ) → weigh END ≡ 0 →
      sum_by weigh new + unwrap_or (option_map weigh before) 0 ≡ sum_by weigh old + weigh after

-- there is one stamp less, unless it is the end
pub record HasUnstamped (stamp : ℕ) (old new : List ℕ) : Type 0 where
  pub sums : (weigh : ℕ → ℕ) → weigh END ≡ 0 → sum_by weigh old ≡ sum_by weigh new + weigh stamp

-- there is one stamp more for each row that has work
pub record HasStamped (rows : List (RowName × Contents)) (old new : List ℕ) : Type 0 where
  pub sums : (weigh : ℕ → ℕ) → weigh END ≡ 0 →
      sum_by weigh new ≡ sum_by weigh old + sum_by (λ row. weigh (work_of row)) (values_of rows)

-- what is there, with a stamp for each row that is left, is what was there with a stamp for each row of all
pub record AreLeft (left all : List (RowName × Contents)) (now start : List ℕ) : Type 0 where
  pub sums : (weigh : ℕ → ℕ) → weigh END ≡ 0 →
      sum_by weigh now + sum_by (λ row. weigh (work_of row)) (values_of left)
      ≡ sum_by weigh start + sum_by (λ row. weigh (work_of row)) (values_of all)

-- ---- the index

-- an index is that of the rows
pub record IsIndexOf (rows : List (RowName × Contents)) (index : Index) : Type 0 where
  pub work : AreStamps rows index.work
  pub dues : AreDues rows index.dues.entries
  pub seen : AreSeen rows index.seen.entries

-- rows stand in order of their names, and the index, where there is one, is theirs
pub record IsIndexed {A : Type 0} (rows : List (RowName × Contents))
    (index : Option (Box Index A)) : Type 0 where
  pub ordered : IsStrictlySortedBy row_cmp (keys_of rows)
  pub kept : IfSome index (λ (b : Box Index A). IsIndexOf rows b.value)

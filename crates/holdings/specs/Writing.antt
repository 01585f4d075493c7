-- A write on one row of what is held. No public clause cites this module.
use Rattle.std.specs.Prelude.{◌≡◌, Box, IfSome, List, Option, Some, length, nat_lt}
use Rattle.std.specs.List.Sorted.{IsStrictlySortedBy}
use Rattle.std.specs.Map.{keys_of}
use Rattle.std.specs.BTreeMap.{insert_entry}
use Rattle.mw_types.specs.Orders.{row_cmp}
use Rattle.mw_types.specs.declared.identity.RowName.{RowName}
use Rattle.row_parts.specs.Contents.{Contents}
use Rattle.run_history.specs.Runs.{cached, row_in}
use Rattle.holdings.specs.Holding.{HeldView, with_row}
use Rattle.holdings.specs.Indexes.{IsIndexOf, work_of}
use Rattle.holdings.specs.Timers.{timer_of}
use Rattle.holdings.specs.declared.index.Before.{Before}
use Rattle.holdings.specs.declared.index.Index.{Index}

-- this is what an index has of a row
pub record IsBefore (row : Contents) (before : Before) : Type 0 where
  pub work : before.work ≡ work_of row
  pub timer : before.timer ≡ timer_of row
  pub seen : before.seen ≡ nat_lt 0 (length row.seen)

-- rows, one of which is to be changed: what their index has of it, and the index, if there is one
pub record IsNoted {A : Type 0} (name : RowName) (rows : List (RowName × Contents)) (before : Before)
    (index : Option (Box Index A)) : Type 0 where
  pub row : Contents
  pub was : row_in (cached rows) name ≡ Some row
  pub has : IsBefore row before
  pub ordered : IsStrictlySortedBy row_cmp (keys_of rows)
  pub kept : IfSome index (λ (b : Box Index A). IsIndexOf rows b.value)

-- these are such rows once that one is changed
pub record WasNoted {A : Type 0} (name : RowName) (rows : List (RowName × Contents)) (before : Before)
    (index : Option (Box Index A)) : Type 0 where
  pub old : List (RowName × Contents)
  pub row : Contents
  pub is : rows ≡ insert_entry row_cmp old name row
  pub now : row_in (cached rows) name ≡ Some row
  pub noted : IsNoted name old before index

-- a row that is cached was written, as is said of it and of the row that it is now
pub record IsRewritten (name : RowName) (IsWrite : Contents → Contents → Type 0) (old new : HeldView) : Type 0 where
  pub row : Contents
  pub left : Contents
  pub was : row_in (cached old.rows) name ≡ Some row
  pub write : IsWrite row left
  pub is : new ≡ with_row name left old

-- the same, and what is held then stands in a place
abbrev pub IsRewrittenAt : RowName → (Contents → Contents → Type 0) → HeldView → Option HeldView → Type 0
IsRewrittenAt name IsWrite old place = (new : HeldView) × ((place ≡ Some new) × IsRewritten name IsWrite old new)

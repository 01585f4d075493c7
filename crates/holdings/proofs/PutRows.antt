-- A row that is held, changed where it lies.
use Rattle.std.proofs.Common.{◌≡◌, ◌∙◌, ℕ, List, ap, refl, subst, sym}
use Rattle.std.specs.Prelude.{Box, IfOk, OnErr, Option, Result, Some}
use Rattle.std.specs.List.Sorted.{IsStrictlySortedBy}
use Rattle.std.specs.Map.{keys_of}
use Rattle.std.specs.BTreeMap.{insert_entry}
use Rattle.std.proofs.lemmas.Result.{IfOk-weaker, on_err_weaker}
use Rattle.mw_types.specs.Orders.{row_cmp}
use Rattle.mw_types.specs.declared.identity.RowName.{RowName}
use Rattle.row_parts.specs.Contents.{Contents}
use Rattle.run_history.specs.Runs.{cached, row_in}
use Rattle.book.specs.Books.{LeaseView}
use Rattle.book.specs.declared.desk_refusal.DeskRefusal.{DeskRefusal}
use Rattle.holdings.specs.Holding.{HeldView}
use Rattle.holdings.specs.Writing.{IsRewritten, IsNoted, WasNoted}
use Rattle.holdings.specs.declared.index.Before.{Before}
use Rattle.holdings.specs.declared.index.Index.{Index}
use Rattle.holdings.proofs.HeldRows.{found-put, insert-same}

-- rows of which one was noted, once that one is changed
pub WasNoted-put : {A : Type 0} (name : RowName) (rows now : List (RowName × Contents)) (row : Contents) (before : Before)
    (index : Option (Box Index A)) → now ≡ rows → IsNoted name rows before index → WasNoted name (insert_entry row_cmp now name row) before index
WasNoted-put {A} name rows now row before index same noted = record {
  old = now;
  row = row;
  is = refl;
  now = found-put now name row;
  noted = subst (λ (l : List (RowName × Contents)). IsNoted name l before index) (sym same) noted;
}

-- what is held, by its lease and its rows
held-is : (held : HeldView) (lease : LeaseView) (rows : List (RowName × Contents)) → lease ≡ held.lease → rows ≡ held.rows
    → record { lease = lease; rows = rows } ≡ held
held-is held lease rows same_lease same_rows = λ i. record { lease = same_lease i; rows = same_rows i }

module _ (held : HeldView) (name : RowName) (row left : Contents) (lease : LeaseView) (after : List (RowName × Contents))
    (result : Result ℕ DeskRefusal) (same : lease ≡ held.lease) (was : row_in (cached held.rows) name ≡ Some row)
    (put : after ≡ insert_entry row_cmp held.rows name left) where
  -- a row that was written is held
  pub IsRewritten-put : (IsWrite : LeaseView → Contents → Contents → ℕ → Type 0) → IfOk result (IsWrite lease row left)
      → IfOk result (λ commit. IsRewritten name (λ r l. IsWrite held.lease r l commit) held (record { lease = lease; rows = after }))
  IsRewritten-put IsWrite = IfOk-weaker result (IsWrite lease row left)
      (λ commit. IsRewritten name (λ r l. IsWrite held.lease r l commit) held (record { lease = lease; rows = after }))
      (λ commit write. record {
        row = row;
        left = left;
        was = was;
        write = subst (λ (l : LeaseView). IsWrite l row left commit) same write;
        is = λ i. record { lease = same i; rows = put i };
      })

  -- a refused write leaves what is held
  pub held-refused : IsStrictlySortedBy row_cmp (keys_of held.rows) → OnErr result (left ≡ row)
      → OnErr result (record { lease = lease; rows = after } ≡ held)
  held-refused ordered = on_err_weaker result (λ (stays : left ≡ row). held-is held lease after same
      (put ∙ ap (insert_entry row_cmp held.rows name) stays ∙ insert-same held.rows name row ordered was))

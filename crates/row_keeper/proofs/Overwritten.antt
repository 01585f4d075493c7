-- A row's bytes put in the place of those that are held, among rows in order.
use Rattle.std.proofs.Common.{◌≡◌, ◌∷◌, [], List, ℕ, true≢false, cond, ap, refl, sym, ◌∙◌}
use Rattle.std.specs.Prelude.{Some, IsSome}
use Rattle.std.specs.Option.{is_some}
use Rattle.std.specs.declared.cmp.Ordering.{Ordering}
use Rattle.std.specs.declared.cmp.Ordering.TheVariants.{Less, Equal, Greater}
use Rattle.std.specs.Ordering.{is_eq, match_ordering}
use Rattle.std.specs.Cmp.{IsTotalOrder}
use Rattle.std.specs.List.Sorted.{IsStrictlySortedBy}
use Rattle.std.specs.Map.{lookup, keys_of, set_value}
use Rattle.std.specs.BTreeMap.{insert_entry, is_at}
use Rattle.std.proofs.lemmas.Map.{lookup-none}
use Rattle.std.proofs.lemmas.Map.Entries.{none_below_head}
use Rattle.mw_types.specs.Orders.{row_cmp}
use Rattle.mw_types.specs.declared.identity.RowName.{RowName}
use Rattle.mw_types.proofs.OrderLaws.{row_cmp-total}
use Rattle.row_keeper.specs.Rows.{Rows, AreInOrder, with_row}

-- among entries in order, a value set at a key that is there is one that is put at it
pub insert_entry-there : {K X : Type 0} {R : K → K → Ordering} → IsTotalOrder R → (es : List (K × X)) (k : K) (v : X)
    → IsStrictlySortedBy R (keys_of es) → IsSome (lookup (is_at (R k)) es) → insert_entry R es k v ≡ set_value (is_at (R k)) es v
unfolding IsStrictlySortedBy
insert_entry-there o [] k v sorted there = absurd (true≢false (sym there))
insert_entry-there {R = R} o (e ∷ es) k v sorted there =
    elim (R k e.0) as (λ r. R k e.0 ≡ r → IsSome (cond (is_eq r) (Some e.1) (lookup (is_at (R k)) es))
    → match_ordering r ((k, v) ∷ e ∷ es) ((e.0, v) ∷ es) (e ∷ insert_entry R es k v)
    ≡ cond (is_eq r) ((e.0, v) ∷ es) (e ∷ set_value (is_at (R k)) es v)) [
      | Less ↦ λ p at. absurd (true≢false (sym at ∙ ap is_some (lookup-none (is_at (R k)) es (none_below_head o k e es sorted p).1)))
      | Equal ↦ λ p at. refl
      | Greater ↦ λ p at. ap (λ rest. e ∷ rest) (insert_entry-there o es k v sorted.1 at)
    ] refl there

-- a row whose name is there, with other bytes in their place
pub row_put : (rows : Rows) (name : RowName) (was bytes : List ℕ) → AreInOrder rows
    → lookup (is_at (row_cmp name)) rows ≡ Some was → set_value (is_at (row_cmp name)) rows bytes ≡ with_row name bytes rows
row_put rows name was bytes o at = sym (insert_entry-there row_cmp-total rows name bytes o (ap is_some at))

use Rattle.std.proofs.Common.{List, subst, sym}
use Rattle.std.specs.List.Sorted.{IsStrictlySortedBy}
use Rattle.std.specs.Map.{keys_of}
use Rattle.mw_types.specs.Orders.{row_cmp}
use Rattle.mw_types.specs.declared.identity.RowName.{RowName}
use Rattle.row_parts.specs.Contents.{Contents}
use Rattle.holdings.proofs.ClaimSteps.{names-named}
use Rattle.holdings.proofs.indexed.Indexed.of.Goals as goal

-- the rows of a claim stand in order, and there is no index yet
pub invariant_of-result : goal.invariant_of-result
invariant_of-result c = record {
  ordered = subst (λ (l : List (RowName × Contents)). IsStrictlySortedBy row_cmp (keys_of l)) (sym c.of.ensures)
      (subst (IsStrictlySortedBy row_cmp) (sym (names-named c.args.rows)) c.requires);
  kept = tt;
}

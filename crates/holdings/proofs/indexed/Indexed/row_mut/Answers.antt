use Rattle.std.proofs.Common.{◌∙◌, ap, refl, sym, List}
use Rattle.std.specs.BTreeMap.{insert_entry}
use Rattle.mw_types.specs.Orders.{row_cmp}
use Rattle.mw_types.specs.declared.identity.RowName.{RowName}
use Rattle.mw_types.proofs.OrderLaws.{row_cmp-total}
use Rattle.row_parts.specs.Contents.{Contents}
use Rattle.run_history.specs.Runs.{cached, row_in}
use Rattle.run_history.proofs.Lookups.{sorted-insert_entry}
use Rattle.holdings.proofs.indexed.Indexed.row_mut.Goals as goal

-- another row in the place of one keeps the names, and there is no index
pub invariant_of-self-lent : goal.invariant_of-self-lent
invariant_of-self-lent c w = record {
  ordered = sorted-insert_entry row_cmp-total c.self.inside.rows c.args.name.now w c.self.invariant.ordered;
  kept = tt;
}

-- the row is lent by the rows
pub returns : goal.returns
returns c = (
  (refl, λ w. ap (λ (l : List (RowName × Contents)). insert_entry row_cmp l c.args.name.now w) c.self.view_is),
  record {
    lends = tt;
    row = ap (λ (l : List (RowName × Contents)). row_in (cached l) c.args.name.now) (sym c.self.view_is) ∙ c.row_mut.ensures.row;
  },
)

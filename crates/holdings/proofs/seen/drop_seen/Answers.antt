use Rattle.mw_types.specs.Orders.{row_cmp}
use Rattle.mw_types.proofs.OrderLaws.{row_cmp-total}
use Rattle.history_laws.proofs.RowSteps.{same_row}
use Rattle.holdings.proofs.KeyLaws.{rekeyed-gone}
use Rattle.holdings.proofs.seen.drop_seen.Goals as goal

-- the name is taken away
pub returns : goal.returns
returns c = record {
  gone = rekeyed-gone row_cmp row_cmp-total same_row c.args.name.now c.args.names.now.entries c.remove.new.self.entries c.requires.ordered
      c.remove.ensures.ordered c.remove.ensures.entries;
}

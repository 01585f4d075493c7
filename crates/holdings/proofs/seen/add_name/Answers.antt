use Rattle.std.proofs.Common.{subst}
use Rattle.std.specs.Prelude.{None, Some}
use Rattle.mw_types.specs.Orders.{row_cmp}
use Rattle.mw_types.specs.declared.identity.RowName.{RowName}
use Rattle.mw_types.proofs.OrderLaws.{row_cmp-total}
use Rattle.history_laws.proofs.RowSteps.{same_row}
use Rattle.holdings.specs.Keyed.{HasRekeyed}
use Rattle.holdings.proofs.KeyLaws.{rekeyed-put}
use Rattle.holdings.proofs.seen.add_name.Goals as goal

-- the name is put
pub returns : goal.returns
returns c =
    let old = c.args.names.now.entries in
    let new = c.insert.new.self.entries in record {
      added = subst (λ (n : RowName). HasRekeyed row_cmp None (Some n) old new) c.in_ok-own.ensures.copied
          (rekeyed-put row_cmp row_cmp-total same_row c.in_ok-own.own old new c.in_ok-insert.ensures.ordered c.in_ok-insert.ensures.entries);
    }

use Rattle.std.proofs.Common.{◌∙◌}
use Rattle.row_parts.proofs.RowLemmas.{has_delivery}
use Rattle.row_parts.proofs.deliveries.has_delivery.Goals as goal

pub returns : goal.returns
returns c = c.is_ok.ensures.value ∙ has_delivery c.args.id c.args.deliveries.now c.delivery_place.result c.delivery_place.ensures

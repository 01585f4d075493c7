use Rattle.std.proofs.Common.{◌∙◌}
use Rattle.row_parts.proofs.RowLemmas.{has_id}
use Rattle.row_parts.proofs.ids.has_id.Goals as goal

pub returns : goal.returns
returns c = c.is_ok.ensures.value ∙ has_id c.args.id c.args.ids.now c.id_place.result c.id_place.ensures

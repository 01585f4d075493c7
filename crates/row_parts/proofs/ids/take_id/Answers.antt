use Rattle.std.proofs.Common.{rules}
use Rattle.std.specs.Prelude.{not}
use Rattle.std.proofs.lemmas.Fn.{filter_same}
use Rattle.mw_types.specs.declared.identity.RecordId.{RecordId}
use Rattle.row_parts.specs.Contents.{same_id}
use Rattle.row_parts.proofs.ids.take_id.Goals as goal

pub returns : goal.returns
returns c = filter_same _ (λ (other : RecordId). not (same_id c.args.id other)) _ (λ x b f' k. search rules) _ _ c.retain.ensures

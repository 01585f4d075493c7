use Rattle.serde_json.specs.View.{view}
use Rattle.topology.proofs.Forms.{full_shape}
use Rattle.topology.proofs.reader.file_of.Goals as goal

pub returns-in-Ok-clause-full : goal.returns-in-Ok-clause-full
returns-in-Ok-clause-full c = full_shape (view c.in-Some.value) c.in-Ok.file c.in-Ok.ensures

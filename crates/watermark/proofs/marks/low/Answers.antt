use Rattle.watermark.proofs.Parts.{some_marks}
use Rattle.watermark.proofs.marks.low.Goals as goal

pub returns-clause-some : goal.returns-clause-some
returns-clause-some c = some_marks c.args.case.now.topology c.args.part c.args.marks.now c.requires.part c.requires.marks

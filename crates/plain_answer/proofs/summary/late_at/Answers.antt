use Rattle.plain_answer.proofs.Working.{late-more}
use Rattle.plain_answer.proofs.summary.late_at.Goals as goal

pub returns : goal.returns
returns c = late-more c.args.source.now c.args.line c.at.result.now c.from.result c.at.ensures.item c.from.ensures

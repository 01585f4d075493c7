use Rattle.history_laws.proofs.MarkLaws.{work_above-rises}
use Rattle.history_laws.proofs.marks.work_above_never_falls.Goals as goal

pub returns : goal.returns
returns c = record { work = work_above-rises }

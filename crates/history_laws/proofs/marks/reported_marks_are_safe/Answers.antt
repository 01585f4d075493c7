use Rattle.history_laws.proofs.ReportLaws.{IsSafe-reported}
use Rattle.history_laws.proofs.marks.reported_marks_are_safe.Goals as goal

pub returns : goal.returns
returns c = record { safe = IsSafe-reported }

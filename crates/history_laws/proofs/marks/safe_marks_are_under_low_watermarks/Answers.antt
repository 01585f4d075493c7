use Rattle.history_laws.proofs.ReportLaws.{marks-low}
use Rattle.history_laws.proofs.marks.safe_marks_are_under_low_watermarks.Goals as goal

pub returns : goal.returns
returns c = record { low = marks-low }

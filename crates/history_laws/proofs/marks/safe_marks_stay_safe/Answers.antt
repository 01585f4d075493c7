use Rattle.history_laws.proofs.MarkLaws.{IsSafe-stays}
use Rattle.history_laws.proofs.ReportLaws.{IsSafe-zero, IsSafe-greater}
use Rattle.history_laws.proofs.marks.safe_marks_stay_safe.Goals as goal

pub returns : goal.returns
returns c = record { stays = IsSafe-stays; zero = IsSafe-zero; greater = IsSafe-greater }

use Rattle.history_laws.proofs.PrintLaws.{legal-on_parts, legal-printable}
use Rattle.history_laws.proofs.printing.legal_histories_can_be_printed.Goals as goal

pub returns : goal.returns
returns c = record { printable = legal-printable; parts = λ case history name legal. (legal-on_parts case history legal).rows name }

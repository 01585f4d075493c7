use Rattle.plain_answer.proofs.OneText.{one-text}
use Rattle.plain_answer.proofs.law.a_case_has_one_plain_text.Goals as goal

pub returns : goal.returns
returns c = record { one = λ case one other is also. one-text case one other is also }

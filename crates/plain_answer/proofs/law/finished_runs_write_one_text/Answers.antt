use Rattle.plain_answer.proofs.Headline.{plain-result}
use Rattle.plain_answer.proofs.OneText.{one-text}
use Rattle.plain_answer.proofs.law.finished_runs_write_one_text.Goals as goal

pub returns : goal.returns
returns c = record {
  same = λ case one other text again runs run also is too.
      one-text case text again (plain-result case one text runs run is) (plain-result case other again runs also too);
}

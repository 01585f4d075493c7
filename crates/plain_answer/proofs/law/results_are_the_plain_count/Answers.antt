use Rattle.plain_answer.proofs.Headline.{plain-result}
use Rattle.plain_answer.proofs.law.results_are_the_plain_count.Goals as goal

pub returns : goal.returns
returns c = record { plain = λ case h text runs run is. plain-result case h text runs run is }

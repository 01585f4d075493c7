use Rattle.plain_answer.proofs.Tallying.{given-plain}
use Rattle.plain_answer.proofs.windows.windows_of.Goals as goal

pub returns : goal.returns
returns c = record {
  windows = given-plain (λ records. records.items) c.args.size c.args.members.now c.in_ok-tally.tally.entries c.given.result
      c.in_ok-tally.ensures c.given.ensures;
}

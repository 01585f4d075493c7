use Rattle.plans.specs.Steps.{IsStep}
use Rattle.plans.proofs.Choices.{of-either}
use Rattle.plans.proofs.step_lines.step_of_one.Goals as goal

pub returns-clause-there : goal.returns-clause-there
returns-clause-there c shape =
    let there = IsStep shape c.args.weaks in
    let first = of-either there c.done_alone.result c.befalls.result c.or.result c.or.ensures
    (c.done_alone.ensures.there shape c.args.weaks) (c.befalls.ensures.there shape c.args.weaks) in
    of-either there c.or.result c.relay_alone.result c.or-2.result c.or-2.ensures first (c.relay_alone.ensures.there shape)

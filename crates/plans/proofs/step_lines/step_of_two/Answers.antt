use Rattle.plans.specs.Steps.{IsStep}
use Rattle.plans.proofs.Choices.{of-either}
use Rattle.plans.proofs.step_lines.step_of_two.Goals as goal

pub returns-clause-there : goal.returns-clause-there
returns-clause-there c =
    let shape = c.args.case.now.topology in
    let there = IsStep shape c.args.weaks in
    let first = of-either there c.over_interval.result c.for_part.result c.or.result c.or.ensures
    (c.over_interval.ensures.there c.args.weaks) (c.for_part.ensures.there c.args.weaks) in
    of-either there c.or.result c.taken_by.result c.or-2.result c.or-2.ensures first (c.taken_by.ensures.there shape)

use Rattle.plans.proofs.step_lines.step_with.Goals as goal

pub returns-clause-there : goal.returns-clause-there
returns-clause-there c = c.step_of_one.ensures.there c.args.case.now.topology

use Rattle.std.proofs.Common.{rules}
use Rattle.std.specs.Prelude.{drop}
use Rattle.list_lemmas.proofs.Told.{if-there}
use Rattle.plans.specs.declared.step.Step.TheVariants as steps
use Rattle.world.proofs.RunLaws.{faulted-history, run-begun, run-stopped}
use Rattle.world.proofs.scripts.script_runs.run_script.Goals as goal

-- after a fault the history begins what the script writes
pub returns-in_err-step-clause-begun : goal.returns-in_err-step-clause-begun
returns-in_err-step-clause-begun g c = if-there c.args.world.now.book.rows (λ told.
    run-begun c.args.world.now c.loop-step.world c.step.new.self (drop c.loop-step.step-index c.args.steps.now) c.args.steps.now
    c.loop-step.invariant (faulted-history _ c.loop-step.world c.step.new.self c.in_err-step.ensures.kept) told)

-- where the history is full the script writes more
pub returns-in_err-step-clause-more : goal.returns-in_err-step-clause-more
returns-in_err-step-clause-more g c = λ full. if-there c.args.world.now.book.rows (λ told.
    run-stopped c.args.world.now c.loop-step.world c.step.new.self c.args.steps.now c.loop-step.step-index (steps.Claim 0 0)
    c.loop-step.invariant c.loop-step-test.true c.in_err-step.ensures.kept (c.in_err-step.ensures.more (search rules)) told)

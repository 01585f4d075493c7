use Rattle.std.proofs.Common.{◌∙◌, ap, rules}
use Rattle.run_history.specs.Cases.{CaseShape}
use Rattle.millwheel_cli.proofs.Foldings.{inputs_task}
use Rattle.millwheel_cli.proofs.Reasons.{events_refused, first_refused}
use Rattle.millwheel_cli.proofs.call.read_inputs.Goals as goal

pub returns-in_err-bare-clause-refused : goal.returns-in_err-bare-clause-refused
returns-in_err-bare-clause-refused g c =
    search (rules, first_refused _ c.args.call.now c.args.inputs.now _ c.in_err-bare.ensures.refused)

pub returns-in-Err-clause-refused : goal.returns-in-Err-clause-refused
returns-in-Err-clause-refused g c =
    let first = c.in_ok-bare.ensures in
    search (
      rules,
      events_refused _ _ _ _ _ _ _ _ c.args.call.now c.args.inputs.now _ _ _ _ _ c.as_slice.ensures.elements first.files
          first.left first.before first.faults_later first.lacks_later c.in-Err.ensures.refused,
    )

-- the task is that of what was read
pub returns-in_ok-task_of-in-Ok-clause-asked : goal.returns-in_ok-task_of-in-Ok-clause-asked
returns-in_ok-task_of-in-Ok-clause-asked g c =
    let first = c.in_ok-bare.ensures in
    let made = c.in_ok-task_of-in-Ok.ensures in
    inputs_task _ c.args.call.now c.args.inputs.now _ _ _ _ _ first.left first.before (search rules) made.case made.routes made.before
    (search rules)

-- and folds a topology
pub returns-in_ok-task_of-in-Ok-clause-folding : goal.returns-in_ok-task_of-in-Ok-clause-folding
returns-in_ok-task_of-in-Ok-clause-folding g c =
    let first = c.in_ok-bare.ensures in
    let made = c.in_ok-task_of-in-Ok.ensures in
    record {
      file = first.left.shape;
      left = ap (λ (c : CaseShape). c.topology) made.case ∙ first.left.folding;
      ways = made.routes ∙ first.left.ways;
    }

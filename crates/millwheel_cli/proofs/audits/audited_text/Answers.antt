use Rattle.std.proofs.Common.{rules, subst, sym}
use Rattle.std.proofs.lemmas.Result.{IfErr-weaker, IfOk-weaker}
use Rattle.command_line.specs.Grammar.{HasSizes}
use Rattle.millwheel_cli.proofs.Reasons.{audit_inputs_refused, audit_trace_refused, run_held}
use Rattle.millwheel_cli.proofs.audits.audited_text.Goals as goal

-- an audit has no numbers
pub read_inputs-requires : goal.read_inputs-requires
read_inputs-requires g c = record { sizes = subst HasSizes (sym c.requires.audit) tt }

-- the files of the run were refused
pub returns-in_err-task-clause-refused : goal.returns-in_err-task-clause-refused
returns-in_err-task-clause-refused g c =
    search (
      rules,
      audit_inputs_refused _ c.args.call.now c.args.inputs.now c.args.trace.now _ c.requires.audit c.in_err-task.ensures.refused,
    )

-- what is written of the trace
pub returns-clause-text : goal.returns-clause-text
returns-clause-text g c =
    let read = c.in_ok-task.ensures in
    IfOk-weaker c.trace_text-text.result _ _
    (λ text counts. run_held _ _ c.args.call.now c.args.inputs.now c.args.trace.now text _ read.files read.asked counts)
    c.trace_text-text.ensures.text

-- or the trace was refused
pub returns-clause-refused : goal.returns-clause-refused
returns-clause-refused g c =
    let read = c.in_ok-task.ensures in
    IfErr-weaker c.trace_text-text.result _ _
    (λ refusal why. audit_trace_refused _ _ _ _ _ _ _ _ c.args.call.now c.args.inputs.now c.args.trace.now _ refusal
    read.files read.asked read.faults_later read.lacks_later why)
    c.trace_text-text.ensures.refused

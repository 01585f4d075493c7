use Rattle.std.proofs.Common.{rules}
use Rattle.std.proofs.lemmas.Result.{IfErr-weaker, IfOk-weaker}
use Rattle.millwheel_cli.proofs.Auditing.{counts_trace, trace_unread, trace_wrong}
use Rattle.millwheel_cli.proofs.audits.trace_text.Goals as goal

-- the trace was not read
pub returns-in_err-bytes-clause-refused : goal.returns-in_err-bytes-clause-refused
returns-in_err-bytes-clause-refused g c =
    search (rules, trace_unread _ c.args.trace.now c.args.case.now _ c.in_err-bytes.ensures.refused)

-- what is written of it
pub returns-clause-text : goal.returns-clause-text
returns-clause-text g c =
    let read = c.in_ok-bytes.ensures in
    IfOk-weaker c.count_text.result _ _
    (λ text count. counts_trace _ c.args.trace.now _ _ text c.args.case.now c.as_slice.ensures.elements read.content read.within count)
    c.count_text.ensures.text

-- or it is wrong
pub returns-clause-refused : goal.returns-clause-refused
returns-clause-refused g c =
    let read = c.in_ok-bytes.ensures in
    IfErr-weaker c.count_text.result _ _
    (λ refusal why. trace_wrong _ c.args.trace.now _ _ c.args.case.now refusal c.as_slice.ensures.elements read.content read.within why)
    c.count_text.ensures.refused

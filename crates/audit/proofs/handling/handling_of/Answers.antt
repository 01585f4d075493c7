use Rattle.std.proofs.Common.{◌≡◌, IfOk, Some, rules, subst, sym}
use Rattle.mw_types.specs.declared.identity.RecordId.{RecordId}
use Rattle.row_parts.specs.Contents.{found_delivery}
use Rattle.run_history.specs.Runs.{run_of}
use Rattle.trace_lines.specs.declared.choice.Choice.TheVariants as choices
use Rattle.audit.specs.Choices.{IsChosen}
use Rattle.audit.specs.Waits.{waiting_in}
use Rattle.audit.proofs.FoundLaws.{waits-kept}
use Rattle.audit.proofs.handling.handling_of.Goals as goal

-- what is found under the id waits under its own
pub delivered-requires-clause-waits : goal.delivered-requires-clause-waits
delivered-requires-clause-waits c =
    let found : waiting_in c.args.kept.now.waiting.entries c.args.id ≡ Some c.in-Some.delivery.now = search rules in
    let waits = waits-kept c.args.case.now c.args.history.now c.args.kept.now c.args.id c.in-Some.delivery.now c.requires.kept found in
    subst (λ (i : RecordId). found_delivery i (run_of c.args.case.now.topology c.args.history.now).unhandled ≡ Some
    c.in-Some.delivery.now)
    (sym waits.1) waits.0

-- and its own is the id
pub returns-in-Some : goal.returns-in-Some
returns-in-Some c =
    let found : waiting_in c.args.kept.now.waiting.entries c.args.id ≡ Some c.in-Some.delivery.now = search rules in
    let waits = waits-kept c.args.case.now c.args.history.now c.args.kept.now c.args.id c.in-Some.delivery.now c.requires.kept found in
    subst (λ (i : RecordId). IfOk c.delivered.result (IsChosen c.args.case.now c.args.history.now (choices.Handle i)))
    waits.1 c.delivered.ensures

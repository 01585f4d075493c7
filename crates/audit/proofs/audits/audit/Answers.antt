use Rattle.std.proofs.Common.{◌≡◌, ◌∙◌, [], rules, subst}
use Rattle.run_history.specs.Cases.{CaseShape}
use Rattle.trace_lines.specs.Lines.{entry_lines_in}
use Rattle.trace_lines.specs.Refusals.{IsAuditRefusal}
use Rattle.audit.specs.Steps.{IsLineRefusal}
use Rattle.audit.proofs.Ending.{end-answer, line-wrong, ok-text}
use Rattle.audit.proofs.Reading.{read-few, read-more}
use Rattle.audit.proofs.audits.audit.Goals as goal

-- what has been read is not too long
pub followed-requires-clause-few : goal.followed-requires-clause-few
followed-requires-clause-few c =
    read-few c.args.bytes.now c.loop-line.rest.now c.loop-line.standing.history c.loop-line.invariant.read c.requires.few

pub concluded-requires-clause-few : goal.concluded-requires-clause-few
concluded-requires-clause-few c =
    read-few c.args.bytes.now c.loop-line.rest.now c.loop-line.standing.history c.loop-line.invariant.read c.requires.few

-- one more line has been read
pub loop-line-preserved : goal.loop-line-preserved
loop-line-preserved c = record {
  same_case = c.in_ok-standing-2.ensures.case ∙ c.loop-line.invariant.same_case;
  read = read-more c.args.bytes.now c.loop-line.rest.now c.in-Some.line.now c.in-Some.after.now c.loop-line.standing.history
      c.in_ok-standing-2.standing.history c.loop-line.invariant.read c.in-Some.ensures c.in_ok-standing-2.ensures.read;
}

-- a line that is refused is the first that is wrong
pub returns-in_err-standing-2-clause-wrong : goal.returns-in_err-standing-2-clause-wrong
returns-in_err-standing-2-clause-wrong c =
    let why = c.in_err-standing-2.field-0.0 in
    let wrong : IsAuditRefusal c.args.case.now c.args.bytes.now c.in_err-standing-2.field-0.0 =
    line-wrong c.args.case.now c.args.bytes.now c.loop-line.rest.now c.in-Some.line.now c.in-Some.after.now c.loop-line.standing.history
    why c.is_real.ensures c.requires.few c.loop-line.invariant.read c.in-Some.ensures
    (subst (λ (s : CaseShape). IsLineRefusal s c.loop-line.standing.history c.in-Some.line.now why) c.loop-line.invariant.same_case
    c.in_err-standing-2.ensures.wrong) in
    search rules

-- so is the line behind the entries
pub returns-clause-wrong : goal.returns-clause-wrong
returns-clause-wrong c =
    let none : entry_lines_in c.loop-line.rest.now ≡ [] = search rules in
    end-answer c.args.case.now c.args.bytes.now c.loop-line.rest.now c.loop-line.standing.history c.loop-line.invariant.read none
    c.concluded.result c.concluded.ensures.wrong

-- and where it is the result, the text is that of a run
pub returns-clause-lawful : goal.returns-clause-lawful
returns-clause-lawful c =
    ok-text c.args.case.now c.args.bytes.now c.loop-line.rest.now c.loop-line.standing.history c.loop-line.invariant.read
    c.concluded.result c.concluded.ensures.whole

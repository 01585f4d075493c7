use Rattle.std.proofs.Common.{◌≡◌, ◌∙◌, ◌+◌, List, IsTrue, rules, sym, ap, subst, arith, length}
use Rattle.std.specs.Prelude.{◌↔◌}
use Rattle.std.proofs.lemmas.Bool.{both_ways}
use Rattle.mw_types.specs.declared.entry.Entry.{Entry}
use Rattle.run_history.specs.Cases.{CaseShape}
use Rattle.run_history.specs.Finished.{IsFinished}
use Rattle.run_history.specs.Legal.{IsLegal}
use Rattle.run_history.specs.Printing.{IsPrintable}
use Rattle.run_history.specs.Runs.{run_of}
use Rattle.run_history.specs.Texts.{IsResultText}
use Rattle.history_laws.specs.Writes.{IsLegalAndFenced}
use Rattle.history_laws.proofs.PrintLaws.{legal-printable}
use Rattle.audit.proofs.OneResult.{one-result}
use Rattle.audit.proofs.behind.concluded.Goals as goal

-- a lawful history can be printed
pub result_text-requires : goal.result_text-requires
result_text-requires c = record {
  printable = subst (λ (h : List Entry). IsPrintable c.args.case.now.topology h) (sym c.into_history-history.ensures.history)
      (legal-printable c.args.case.now c.args.standing.history
      (subst (λ (s : CaseShape). IsLegal s c.args.standing.history) c.requires.case c.history.ensures.lawful.legal)
      (omega (arith, c.requires.few)));
}

-- another text is not the result
pub returns-else-eq-clause-wrong : goal.returns-else-eq-clause-wrong
returns-else-eq-clause-wrong c =
    let shape = c.args.case.now.topology in
    let history = c.args.standing.history in
    let both : IsTrue c.eq.result ↔ (c.as_slice.result.now ≡ c.args.rest.now) = search rules in
    let written : IsResultText shape history c.in_ok-text.text = subst (λ (h : List Entry). IsResultText shape h c.in_ok-text.text)
    c.into_history-history.ensures.history c.in_ok-text.ensures.written in (
      ap (λ n. n + 1) (c.len.ensures.count ∙ ap length c.history.ensures.history),
      subst (λ (s : CaseShape). IsLegalAndFenced s history) c.requires.case c.history.ensures.lawful,
      (
        subst (λ (s : CaseShape). IsFinished s (run_of s.topology history)) c.requires.case
            (c.is_finished.ensures.finished.0 c.if-not-is_finished.false),
        λ is. both_ways c.eq.result c.if-eq.false
            (both.1 (c.as_slice.ensures.elements ∙ one-result shape history c.in_ok-text.text c.args.rest.now written is)),
      ),
    )

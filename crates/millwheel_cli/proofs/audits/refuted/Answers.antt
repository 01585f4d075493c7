use Rattle.std.proofs.Common.{rules}
use Rattle.millwheel_cli.proofs.Auditing.{refuted_says}
use Rattle.millwheel_cli.proofs.audits.refuted.Goals as goal

-- bytes that are refused are those of no run
pub returns : goal.returns
returns c = record {
  wrong = search (
    rules,
    refuted_says c.args.case.now c.args.bytes.now c.args.refusal c.requires.refused (λ number why first history.
        c.refused_texts_are_of_no_run.ensures.none c.args.case.now c.args.bytes.now number why history
        c.case_is_runnable.ensures.runnable c.case_is_keyed.ensures.keyed c.case_is_keyed.ensures.valued c.requires.few first),
  );
}

-- The result text of a run that is at its end is the plain count.
use Rattle.std.proofs.Common.{ℕ, List, arith}
use Rattle.mw_types.specs.declared.entry.Entry.{Entry}
use Rattle.run_history.specs.Cases.{CaseShape}
use Rattle.run_history.specs.Inputs.{IsRunnable}
use Rattle.run_history.specs.Texts.{IsResultText}
use Rattle.history_laws.proofs.UnfinishedLaws.{finished-done}
use Rattle.plain_answer.specs.Ends.{IsFinishedRun}
use Rattle.plain_answer.specs.Plain.{IsPlainText}
use Rattle.plain_answer.proofs.Results.{result-plain}
use Rattle.plain_answer.proofs.SpikePlain.{spikes-plain}

-- for all three kinds
pub plain-result : (case : CaseShape) (h : List Entry) (text : List ℕ) → IsRunnable case → IsFinishedRun case h
    → IsResultText case.topology h text → IsPlainText case text
plain-result case h text runs run is =
    let done = finished-done case h run.legal run.finished in
    result-plain case h runs run.legal done (omega (arith, run.few)) (spikes-plain case runs h run.legal done) text is

use Rattle.std.proofs.Common.{◌≡◌, ◌+◌, ◌∙◌, ap, subst, sym}
use Rattle.run_history.specs.Runs.{Run, run_of, row_of}
use Rattle.run_history.proofs.RunLaws.{run_of-push}
use Rattle.run_history.specs.Finished.{unfinished, work_in}
use Rattle.history_laws.proofs.LowLaws.{rows-in_order}
use Rattle.history_laws.proofs.UnfinishedLaws.{unfinished-followed, unfinished-kept}
use Rattle.history_laws.proofs.unfinished.work_is_counted_row_by_row.Goals as goal

pub returns : goal.returns
returns c = record {
  written = λ case history entry name written.
      subst (λ (r : Run). unfinished case r + work_in case name (row_of case.topology (run_of case.topology history) name)
      ≡ unfinished case (run_of case.topology history) + work_in case name (row_of case.topology r name))
      (sym (run_of-push case.topology history entry))
      (unfinished-followed case (run_of case.topology history) entry name (rows-in_order case.topology history) written);
  claimed = λ case history entry none. ap (unfinished case) (run_of-push case.topology history entry)
      ∙ unfinished-kept case (run_of case.topology history) entry none;
}

use Rattle.std.proofs.Common.{◌∙◌, ap}
use Rattle.run_history.specs.Runs.{Run, run_of, row_in}
use Rattle.run_history.proofs.RunLaws.{run_of-push}
use Rattle.history_laws.proofs.RowSteps.{row_in-elsewhere}
use Rattle.history_laws.proofs.rows.rows_change_by_their_entries.Goals as goal

pub returns : goal.returns
returns c = record {
  others = λ shape history entry name apart. ap (λ (r : Run). row_in r name) (run_of-push shape history entry)
      ∙ row_in-elsewhere shape (run_of shape history) entry name apart;
}

use Rattle.std.proofs.Common.{◌≡◌, true}
use Rattle.std.proofs.lemmas.List.Elements.{All-from_recursion}
use Rattle.mw_types.specs.declared.delivery.Delivery.{Delivery}
use Rattle.run_history.specs.Runs.{run_of}
use Rattle.run_history.specs.Finished.{is_handled, is_acknowledged}
use Rattle.history_laws.proofs.OnceLaws.{done-handled, finished-acknowledged}
use Rattle.history_laws.proofs.once.finished_runs_handled_each_record.Goals as goal

pub returns : goal.returns
returns c = record {
  handled = λ case history legal none. All-from_recursion (λ (d : Delivery). is_handled d.id history ≡ true)
      (run_of case.topology history).made (done-handled case history legal none);
  acknowledged = λ case history legal finished. All-from_recursion (λ (d : Delivery). is_acknowledged d.id history ≡ true)
      (run_of case.topology history).made (finished-acknowledged case history legal finished);
}

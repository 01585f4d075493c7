use Rattle.std.proofs.Common.{◌≡◌, false}
use Rattle.std.proofs.lemmas.List.Elements.{All-from_recursion}
use Rattle.mw_types.specs.declared.delivery.Delivery.{Delivery}
use Rattle.run_history.specs.Runs.{run_of, row_of}
use Rattle.run_history.specs.Finished.{is_acknowledged}
use Rattle.history_laws.specs.Ids.{IsSentBy}
use Rattle.history_laws.proofs.CountLaws.{legal-counted}
use Rattle.history_laws.proofs.AckLaws.{legal-acknowledged}
use Rattle.history_laws.proofs.senders.pending_is_unacknowledged.Goals as goal

pub returns : goal.returns
returns c = record {
  pending = λ case history legal. All-from_recursion
      (λ (d : Delivery). is_acknowledged d.id history ≡ false → IsSentBy case.topology (run_of case.topology history) d)
      (run_of case.topology history).made (legal-acknowledged case history legal).sent;
  unacknowledged = λ case history name legal. All-from_recursion (λ (d : Delivery). is_acknowledged d.id history ≡ false)
      (row_of case.topology (run_of case.topology history) name).pending ((legal-acknowledged case history legal).left name);
  count = λ case history legal. (legal-counted case history legal).count;
}

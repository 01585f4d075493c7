use Rattle.std.proofs.Common.{◌≡◌, ◌<◌, subst}
use Rattle.std.proofs.lemmas.List.Elements.{All-from_recursion}
use Rattle.mw_types.specs.declared.delivery.Delivery.{Delivery}
use Rattle.run_history.specs.Made.{deliveries_of}
use Rattle.run_history.specs.Runs.{run_of}
use Rattle.history_laws.proofs.Made.{each_of_commit}
use Rattle.history_laws.proofs.IdLaws.{next-length, made-in_order}
use Rattle.history_laws.proofs.RowSteps.{pending-in_order, row_of-in_order}
use Rattle.history_laws.proofs.ids.ids_ascend.Goals as goal

pub returns : goal.returns
returns c = record {
  next = next-length;
  of_entry = λ shape made commit entry. All-from_recursion (λ (d : Delivery). d.id.commit ≡ commit)
      (deliveries_of shape made commit entry) (each_of_commit shape made commit entry);
  commits = λ shape history. subst (λ n. Rattle.std.specs.List.All (λ (d : Delivery). d.id.commit < n) (run_of shape history).made)
      (next-length shape history)
      (All-from_recursion (λ (d : Delivery). d.id.commit < (run_of shape history).next) (run_of shape history).made
      (made-in_order shape history).below);
  made = λ shape history. (made-in_order shape history).ascending;
  pending = λ shape history name. (row_of-in_order shape (run_of shape history) name (pending-in_order shape history)).ascending;
}

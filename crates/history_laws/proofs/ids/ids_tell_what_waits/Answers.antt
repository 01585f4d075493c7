use Rattle.std.proofs.lemmas.List.Elements.{All-from_recursion}
use Rattle.run_history.specs.Runs.{run_of}
use Rattle.history_laws.specs.Ids.{IsSentBy}
use Rattle.history_laws.proofs.IdLaws.{legal-tells}
use Rattle.history_laws.proofs.PendingLaws.{legal-sent}
use Rattle.history_laws.proofs.ids.ids_tell_what_waits.Goals as goal

pub returns : goal.returns
returns c = record {
  waits = legal-tells;
  sent = λ case history legal. All-from_recursion (IsSentBy case.topology (run_of case.topology history))
      (run_of case.topology history).unhandled
      (legal-sent case history legal).each;
}

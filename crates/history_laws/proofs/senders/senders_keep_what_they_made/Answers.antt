use Rattle.std.proofs.lemmas.List.Elements.{All-from_recursion}
use Rattle.run_history.specs.Runs.{run_of, row_of}
use Rattle.history_laws.specs.Ids.{IsMadeOn}
use Rattle.history_laws.proofs.SentLaws.{pending-as_made}
use Rattle.history_laws.proofs.SenderLaws.{pending-on, one_sender}
use Rattle.history_laws.proofs.senders.senders_keep_what_they_made.Goals as goal

pub returns : goal.returns
returns c = record {
  made = pending-as_made;
  on_row = λ shape history name. All-from_recursion (IsMadeOn history name) (row_of shape (run_of shape history) name).pending
      ((pending-on shape history).each name);
  one_sender = one_sender;
}

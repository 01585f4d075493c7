use Rattle.world.proofs.scripts.Messages.{gone-stays}
use Rattle.world.proofs.scripts.Steps.{step-messages}
use Rattle.world.proofs.scripts.keeping.messages_keep_their_numbers.Goals as goal

pub returns : goal.returns
returns c = record { messages = step-messages; gone = gone-stays }

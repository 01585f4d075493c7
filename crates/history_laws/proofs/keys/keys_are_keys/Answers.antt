use Rattle.history_laws.proofs.KeyLaws.{legal-keys}
use Rattle.history_laws.proofs.keys.keys_are_keys.Goals as goal

pub returns : goal.returns
returns c = record { keys = legal-keys }

use Rattle.world.proofs.scripts.CopyLaws.{copy-answered, copy-known}
use Rattle.world.proofs.scripts.copies.copies_are_known.Goals as goal

pub returns : goal.returns
returns c = record { known = copy-known; answered = copy-answered }

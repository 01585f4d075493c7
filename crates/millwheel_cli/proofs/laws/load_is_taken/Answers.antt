use Rattle.millwheel_cli.proofs.LoadTaken.{load-taken, load-answered}
use Rattle.millwheel_cli.proofs.laws.load_is_taken.Goals as goal

pub returns : goal.returns
returns c = record { taken = load-taken; answered = load-answered }

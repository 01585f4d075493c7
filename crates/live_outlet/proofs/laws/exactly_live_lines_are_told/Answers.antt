use Rattle.live_outlet.proofs.Spelling.{told_id-own, told_id-is}
use Rattle.live_outlet.proofs.laws.exactly_live_lines_are_told.Goals as goal

pub returns : goal.returns
returns c = record { each = told_id-own; only = told_id-is }

use Rattle.live_outlet.proofs.Prefixes.{no_more}
use Rattle.live_outlet.proofs.laws.no_live_line_begins_another.Goals as goal

pub returns : goal.returns
returns c = no_more

use Rattle.live_outlet.proofs.Pumping.{pumped-grown}
use Rattle.live_outlet.proofs.laws.outlets_go_on_as_histories_grow.Goals as goal

pub returns : goal.returns
returns c = record { grown = pumped-grown }

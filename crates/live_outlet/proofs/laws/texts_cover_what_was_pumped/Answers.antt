use Rattle.live_outlet.proofs.Covering.{steps-cover}
use Rattle.live_outlet.proofs.laws.texts_cover_what_was_pumped.Goals as goal

pub returns : goal.returns
returns c = steps-cover

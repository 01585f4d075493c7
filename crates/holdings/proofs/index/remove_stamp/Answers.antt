use Rattle.holdings.proofs.StampLaws.{unstamped-gone}
use Rattle.holdings.proofs.index.remove_stamp.Goals as goal

-- one less
pub returns : goal.returns
returns c = unstamped-gone c.args.stamp c.args.stamps.now c.remove.new.self c.remove.ensures.removed

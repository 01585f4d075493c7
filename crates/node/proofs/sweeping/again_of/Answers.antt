use Rattle.node.proofs.SweepLaws.{again-found}
use Rattle.node.proofs.sweeping.again_of.Goals as goal

-- what was found, in order and each once
pub returns : goal.returns
returns c = again-found c.args.case.now.topology c.args.held.now c.in_ok-again.again.items c.sort.new.again.items c.keep_once.new.again.items
    c.requires.within c.in_ok-again.ensures c.sort.ensures.same c.keep_once.ensures.once c.keep_once.ensures.sorted

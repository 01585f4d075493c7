use Rattle.std.proofs.Common.{rules, arith, ◌≡◌, [], length, subst, sym}
use Rattle.run_history.specs.Cases.{intervals_of}
use Rattle.node.specs.SweepSteps.{AreFoundBelow}
use Rattle.node.proofs.SweepLaws.{found-next, found-none}
use Rattle.node.proofs.sweeping.found_in.Goals as goal

-- before the first interval
pub loop-interval-init : goal.loop-interval-init
loop-interval-init c =
    let none : c.new-found.result.items ≡ [] = search rules in
    subst (AreFoundBelow c.args.held.now 0) (sym none) (found-none c.args.held.now)

-- with one interval more
pub loop-interval-preserved : goal.loop-interval-preserved
loop-interval-preserved c = found-next c.args.held.now c.loop-interval.interval c.loop-interval.found.items c.push_pending.new.found.items
    c.loop-interval.invariant c.in_ok-push_pending.ensures

-- after the last
pub returns : goal.returns
returns c =
    let last : c.loop-interval.interval ≡ length (intervals_of c.args.case.now.topology) = search (rules, arith) in
    subst (λ n. AreFoundBelow c.args.held.now n c.loop-interval.found.items) last c.loop-interval.invariant

use Rattle.std.proofs.Common.{◌<◌, length, arith}
use Rattle.run_history.specs.Lent.{lent}
use Rattle.run_history.proofs.Reaching.{reached_none, reached_step}
use Rattle.run_history.proofs.emitted.emitted.Goals as goal

pub loop-commit-init : goal.loop-commit-init
loop-commit-init c =
    reached_none c.args.topology.now c.args.history.now _ _ (c.new-emitter.ensures.none c.args.topology.now)
    c.new-emissions.ensures.empty

pub loop-commit-preserved : goal.loop-commit-preserved
loop-commit-preserved c =
    let within : c.loop-commit.commit < length c.args.history.now = omega arith in
    reached_step c.args.topology.now c.args.history.now c.loop-commit.commit (lent c.at-entry.result) _ _ _ _
    within c.at-entry.ensures c.loop-commit.invariant
    c.in_ok-follow.ensures.followed c.in_ok-follow.ensures.emitted c.in_ok-follow.ensures.parts

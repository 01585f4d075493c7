use Rattle.std.proofs.Common.{rules, subst}
use Rattle.std.specs.Prelude.{None}
use Rattle.world.specs.drains.DrainTurns.{HasDrained}
use Rattle.world.proofs.DrainTurnLaws.{going-ended, going-failed, going-first, going-full, going-on}
use Rattle.world.proofs.GoLaws.{gone-step}
use Rattle.world.proofs.drains.draining.turn_all.Goals as goal

-- the drain begins to turn
pub loop-init : goal.loop-init
loop-init g c = going-first c.args.book.now c.args.drain.now c.requires.under_way

-- a turn more
pub loop-preserved : goal.loop-preserved
loop-preserved g c =
    going-on c.args.book.now c.loop.book c.drain_turn.new.book c.args.drain.now.from c.loop.drain c.drain_turn.new.drain
    c.in_ok-drain_turn.field-0 c.loop.invariant c.in_ok-drain_turn.ensures.drained c.in_ok-drain_turn.ensures.under_way
    c.drain_turn.ensures.from

-- the drain has gone on
pub returns-clause-gone : goal.returns-clause-gone
returns-clause-gone g c =
    (going-on c.args.book.now c.loop.book c.drain_turn.new.book c.args.drain.now.from c.loop.drain c.drain_turn.new.drain
    c.in_ok-drain_turn.field-0 c.loop.invariant c.in_ok-drain_turn.ensures.drained c.in_ok-drain_turn.ensures.under_way
    c.drain_turn.ensures.from).gone

-- as a drain does
pub returns-clause-draining : goal.returns-clause-draining
returns-clause-draining g c =
    (going-on c.args.book.now c.loop.book c.drain_turn.new.book c.args.drain.now.from c.loop.drain c.drain_turn.new.drain
    c.in_ok-drain_turn.field-0 c.loop.invariant c.in_ok-drain_turn.ensures.drained c.in_ok-drain_turn.ensures.under_way
    c.drain_turn.ensures.from).goes

-- to its end
pub returns-clause-ended : goal.returns-clause-ended
returns-clause-ended g c =
    going-ended c.args.book.now c.loop.book c.drain_turn.new.book c.args.drain.now.from c.loop.drain c.loop.invariant
    (subst (HasDrained c.loop.drain.from c.loop.book c.drain_turn.new.book) (search rules) c.in_ok-drain_turn.ensures.drained)
    (c.in_ok-drain_turn.ensures.ended (search rules))

-- a drain that failed has gone on
pub returns-in_err-drain_turn-clause-gone : goal.returns-in_err-drain_turn-clause-gone
returns-in_err-drain_turn-clause-gone g c =
    gone-step c.args.book.now c.loop.book c.drain_turn.new.book None c.loop.invariant.gone
    c.in_err-drain_turn.ensures.failed.stepped

-- as a drain does
pub returns-in_err-drain_turn-clause-draining : goal.returns-in_err-drain_turn-clause-draining
returns-in_err-drain_turn-clause-draining g c =
    going-failed c.args.book.now c.loop.book c.drain_turn.new.book c.args.drain.now.from c.loop.drain _ c.loop.invariant
    c.in_err-drain_turn.ensures.failed

-- and has not ended where the history is full
pub returns-in_err-drain_turn-clause-more : goal.returns-in_err-drain_turn-clause-more
returns-in_err-drain_turn-clause-more g c = λ full.
    going-full c.args.book.now c.loop.book c.drain_turn.new.book c.args.drain.now.from c.loop.drain
    c.in_err-drain_turn.field-0.0 c.loop.invariant c.in_err-drain_turn.ensures.failed c.in_err-drain_turn.ensures.unended
    (search rules)

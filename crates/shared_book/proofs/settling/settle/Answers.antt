use Rattle.std.proofs.Common.{arith}
use Rattle.shared_book.proofs.Filling.{filled-none, filled-next}
use Rattle.shared_book.proofs.settling.settle.Goals as goal

pub loop-interval-init : goal.loop-interval-init
loop-interval-init g c = (filled-none _ _, tt)

pub loop-interval-preserved : goal.loop-interval-preserved
loop-interval-preserved g c =
    let less = c.loop-interval-test.true in (
      filled-next _ _ _ _ _ (omega (arith, less)) c.settled_input-input.ensures.input c.loop-interval.invariant.0,
      c.settled_input-input.ensures.last,
    )

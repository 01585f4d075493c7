use Rattle.std.proofs.Common.{arith}
use Rattle.shared_book.proofs.Filling.{filled-none, filled-next}
use Rattle.shared_book.proofs.joined_arrays.greater_of.Goals as goal

pub loop-at-init : goal.loop-at-init
loop-at-init c = filled-none _ _

pub loop-at-preserved : goal.loop-at-preserved
loop-at-preserved c =
    let less = c.loop-at-test.true in
    filled-next _ _ _ _ _ (omega (arith, less)) c.max.ensures c.loop-at.invariant

use Rattle.std.proofs.Common.{arith}
use Rattle.std.proofs.lemmas.Grind.{common_steps}
use Rattle.key_intervals.proofs.Steps.{range-more}
use Rattle.key_intervals.proofs.making.order_from.Goals as goal

pub loop-number-preserved : goal.loop-number-preserved
loop-number-preserved c = grind (arith, common_steps, range-more, c.loop-number.invariant)

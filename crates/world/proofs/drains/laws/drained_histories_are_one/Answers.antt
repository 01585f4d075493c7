use Rattle.std.proofs.Common.{length, arith}
use Rattle.world.proofs.WholeDrains.{one_rest}
use Rattle.world.proofs.drains.laws.drained_histories_are_one.Goals as goal

pub returns : goal.returns
returns c = record { same = λ case front one other x f y g. one_rest case (length front) front one other (omega arith) x f y g }

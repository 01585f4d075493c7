use Rattle.std.proofs.Common.{length, refl}
use Rattle.key_intervals.proofs.MergeOrder.{merge-kept}
use Rattle.key_intervals.proofs.merging.merged_order.Goals as goal

pub returns-clause-ordered : goal.returns-clause-ordered
returns-clause-ordered c =
    (merge-kept c.args.all.now c.args.low c.args.high c.args.orders.now c.in_ok-part.part (length c.args.all.now)
    c.index-orders-part.result
    c.in_ok-order.order c.requires.divided c.requires.ordered c.in_ok-part.ensures.may c.in_ok-part.ensures.part
    c.index-orders-part.is refl c.in_ok-order.ensures).1

use Rattle.std.proofs.Common.{length, refl}
use Rattle.key_intervals.proofs.SplitOrder.{split-kept}
use Rattle.key_intervals.proofs.splitting.split_order.Goals as goal

pub returns-clause-ordered : goal.returns-clause-ordered
returns-clause-ordered c =
    (split-kept c.args.injectors c.args.all.now c.args.interval c.args.cut.now c.args.orders.now c.in_ok-part.part
    (length c.args.all.now) c.index-orders-part.result c.in_ok-order.order c.requires.divided c.requires.ordered c.in_ok-part.ensures.may c.in_ok-part.ensures.part
    c.index-orders-part.is refl c.in_ok-order.ensures).1

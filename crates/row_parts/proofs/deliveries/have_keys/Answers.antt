use Rattle.std.proofs.Common.{arith}
use Rattle.row_parts.proofs.ChangeLaws.{keys_all, keys_more}
use Rattle.row_parts.proofs.deliveries.have_keys.Goals as goal

pub loop-delivery-preserved : goal.loop-delivery-preserved
loop-delivery-preserved c = keys_more c.args.deliveries.now c.loop-delivery.delivery-index c.delivery-item.result
    c.loop-delivery-test.true c.delivery-item.is c.loop-delivery.invariant (c.has_keys.ensures.to, c.has_keys.ensures.key)

pub returns : goal.returns
returns c = keys_all c.args.deliveries.now c.loop-delivery.delivery-index (omega (arith, c.loop-delivery-test.false))
    c.loop-delivery.invariant

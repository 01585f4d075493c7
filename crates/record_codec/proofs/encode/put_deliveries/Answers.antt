use Rattle.row_parts.specs.Spelling.{DeliveryFits, delivery_spelling}
use Rattle.row_parts.proofs.Times.{put_more}
use Rattle.record_codec.proofs.encode.put_deliveries.Goals as goal

-- and those of one more
pub loop-delivery-preserved : goal.loop-delivery-preserved
loop-delivery-preserved c = put_more delivery_spelling DeliveryFits c.args.deliveries.now c.loop-delivery.delivery-index c.delivery-item.result
    c.args.out.now.items c.loop-delivery.out.items c.put.new.out.items
    c.loop-delivery-test.true c.delivery-item.is c.in_ok-put.ensures.written c.in_ok-put.ensures.typed c.loop-delivery.invariant

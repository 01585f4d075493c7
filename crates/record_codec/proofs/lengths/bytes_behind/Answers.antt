use Rattle.std.proofs.Common.{◌≡◌, ◌+◌, ◌∙◌, rules}
use Rattle.record_codec.proofs.EditLaws.{behind-more}
use Rattle.record_codec.proofs.lengths.bytes_behind.Goals as goal

-- and one more
pub loop-delivery-preserved : goal.loop-delivery-preserved
loop-delivery-preserved c =
    let more : c.in_ok-bytes.bytes ≡ c.loop-delivery.bytes + c.bytes_of.result = search rules in
    more ∙ behind-more c.args.so_far c.loop-delivery.bytes c.bytes_of.result c.args.deliveries.now c.loop-delivery.delivery-index
    c.delivery-item.result c.loop-delivery-test.true c.delivery-item.is c.bytes_of.ensures c.loop-delivery.invariant

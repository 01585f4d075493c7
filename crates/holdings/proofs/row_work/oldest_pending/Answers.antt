use Rattle.std.proofs.Common.{◌∙◌, arith}
use Rattle.mw_types.specs.declared.delivery.Delivery.{Delivery}
use Rattle.holdings.proofs.WorkLaws.{least-past, least-past_all}
use Rattle.holdings.proofs.row_work.oldest_pending.Goals as goal

-- one more is past
pub loop-delivery-preserved : goal.loop-delivery-preserved
loop-delivery-preserved c = (
  omega (arith, c.lesser-oldest.type_inv),
  least-past (λ (d : Delivery). d.item.stamp) (λ (d : Delivery). d.item.late) c.args.pending.now c.loop-delivery.delivery-index
      c.delivery-item.result c.delivery-item.result c.loop-delivery.oldest c.lesser-oldest.result c.loop-delivery-test.true
      c.delivery-item.is c.lesser-oldest.ensures
      ∙ c.loop-delivery.invariant.1,
)

-- nothing is left
pub returns : goal.returns
returns c = least-past_all (λ (d : Delivery). d.item.stamp) (λ (d : Delivery). d.item.late) c.args.pending.now
    c.loop-delivery.delivery-index c.loop-delivery.oldest _ c.loop-delivery-test.false c.loop-delivery.invariant.0 c.loop-delivery.invariant.1

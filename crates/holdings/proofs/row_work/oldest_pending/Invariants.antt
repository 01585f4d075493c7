use Rattle.std.proofs.Common.{◌≡◌, ◌≤◌, map, filter, min, not, drop}
use Rattle.mw_types.specs.declared.TheConstants.{END}
use Rattle.mw_types.specs.declared.delivery.Delivery.{Delivery}
use Rattle.run_history.specs.Watermarks.{least}
use Rattle.holdings.proofs.row_work.oldest_pending.Given as goal

-- the lesser of the oldest so far and of what is left is the oldest of all
abbrev pub invariant-loop-delivery : goal.invariant-loop-delivery
invariant-loop-delivery l = (l.oldest ≤ END)
    × (min l.oldest (least (map (λ (d : Delivery). d.item.stamp)
    (filter (λ (d : Delivery). not d.item.late) (drop l.delivery-index l.pending))))
    ≡ min l.mark (least (map (λ (d : Delivery). d.item.stamp) (filter (λ (d : Delivery). not d.item.late) l.pending))))

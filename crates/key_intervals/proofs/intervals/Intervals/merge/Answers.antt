use Rattle.key_intervals.proofs.MergeOrder.{merge-done}
use Rattle.key_intervals.proofs.intervals.Intervals.merge.Goals as goal

pub invariant_of-self-2 : goal.invariant_of-self-2
invariant_of-self-2 c =
    merge-done c.self.inside.all.items c.as_slice-all.result.now c.merge_in.new.all.items c.args.low c.args.high
    c.self.inside.orders.items c.as_slice-orders.result.now c.put.new.orders.items c.in_ok-part.part c.in_ok-part.order
    c.self.invariant.0 c.as_slice-all.ensures.value c.as_slice-orders.ensures.value c.in_ok-part.ensures.may c.in_ok-part.ensures.ordered
    c.in_ok-first.ensures.merged c.put.ensures

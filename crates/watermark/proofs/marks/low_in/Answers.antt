use Rattle.std.proofs.Common.{arith, rules}
use Rattle.run_history.specs.Cases.{intervals_of}
use Rattle.watermark.proofs.Steps.{so_far_none, so_far_yes, so_far_no}
use Rattle.watermark.proofs.marks.low_in.Goals as goal
use Rattle.watermark.proofs.marks.low_in.Goals.{then-bounds-part, else-bounds-part}

pub loop-interval-init : goal.loop-interval-init
loop-interval-init c = so_far_none (intervals_of c.args.case.now.topology) c.args.part c.args.marks.now

pub loop-interval-preserved : goal.loop-interval-preserved
loop-interval-preserved c =
    let part = c.args.part in
    let all = intervals_of c.args.case.now.topology in
    let marks = c.args.marks.now in
    let at = c.loop-interval.interval in
    elim c.if-bounds-part.branch [
      | then-bounds-part w ↦
          so_far_yes all part marks at c.bounds.result.now c.mark_at-mark.result c.loop-interval.low c.if-bounds-part.low
          c.bounds.ensures.at
          c.mark_at-mark.ensures (search (rules, arith)) (search (rules, arith)) c.loop-interval.invariant
      | else-bounds-part w ↦
          so_far_no all part marks at c.bounds.result.now c.mark_at-mark.result c.loop-interval.low c.if-bounds-part.low c.bounds.ensures.at
          c.mark_at-mark.ensures (search (rules, arith)) (search (rules, arith)) c.loop-interval.invariant
    ]

use Rattle.std.proofs.Common.{◌∙◌, sym, arith, rules}
use Rattle.run_history.specs.Cases.{intervals_of}
use Rattle.watermark.proofs.Steps.{among_none, among_yes, among_no}
use Rattle.watermark.proofs.marks.least_among.Goals as goal
use Rattle.watermark.proofs.marks.least_among.Goals.{then-is_among, else-is_among}

pub loop-interval-init : goal.loop-interval-init
loop-interval-init c = among_none c.args.parts.now (intervals_of c.args.case.now.topology) c.args.marks.now

pub loop-interval-preserved : goal.loop-interval-preserved
loop-interval-preserved c =
    let parts = c.args.parts.now in
    let all = intervals_of c.args.case.now.topology in
    let marks = c.args.marks.now in
    let at = c.loop-interval.interval in
    elim c.if-is_among.branch [
      | then-is_among w ↦
          among_yes parts all marks at c.bounds.result.now c.mark_at-mark.result c.loop-interval.least c.if-is_among.least
          c.bounds.ensures.at
          c.mark_at-mark.ensures (sym w.if-is_among.true ∙ c.is_among.ensures) (search (rules, arith)) c.loop-interval.invariant
      | else-is_among w ↦
          among_no parts all marks at c.bounds.result.now c.loop-interval.least c.if-is_among.least c.bounds.ensures.at
          (sym w.if-is_among.false ∙ c.is_among.ensures) (search (rules, arith)) c.loop-interval.invariant
    ]

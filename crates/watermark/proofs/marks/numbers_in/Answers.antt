use Rattle.std.proofs.Common.{◌∙◌, ◌++◌, ◌+◌, drop, ap, sym}
use Rattle.run_history.specs.Cases.{intervals_of}
use Rattle.watermark.specs.Marks.{numbers_in}
use Rattle.watermark.proofs.Steps.{numbers_step_yes, numbers_step_no}
use Rattle.watermark.proofs.marks.numbers_in.Goals as goal
use Rattle.watermark.proofs.marks.numbers_in.Goals.{then-is_among+in_ok-push, else-is_among}

pub loop-interval-preserved : goal.loop-interval-preserved
loop-interval-preserved c =
    let parts = c.args.parts.now in
    let all = intervals_of c.args.case.now.topology in
    let at = c.loop-interval.interval in
    let left = numbers_in parts (at + 1) (drop (at + 1) all) in
    elim c.if-is_among.branch [
      | then-is_among+in_ok-push w ↦
          ap (λ l. l ++ left) (w.numbers-is ∙ w.in_ok-push.ensures.appended)
          ∙ numbers_step_yes parts all at _ c.loop-interval.numbers _ c.bounds.ensures.at
          (sym w.if-is_among.true ∙ c.is_among.ensures) c.loop-interval.invariant
      | else-is_among w ↦
          ap (λ l. l ++ left) w.numbers-is
          ∙ numbers_step_no parts all at _ c.loop-interval.numbers _ c.bounds.ensures.at
          (sym w.if-is_among.false ∙ c.is_among.ensures) c.loop-interval.invariant
    ]

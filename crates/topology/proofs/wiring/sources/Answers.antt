use Rattle.std.proofs.Common.{◌∙◌, ◌++◌, ◌<◌, ◌+◌, ap, sym, length, drop, arith}
use Rattle.topology.specs.Folding.{are_reading}
use Rattle.topology.specs.Kept.{numbers_from}
use Rattle.topology.proofs.Steps.{numbers_step_yes, numbers_step_no}
use Rattle.topology.proofs.wiring.sources.Goals as goal
use Rattle.topology.proofs.wiring.sources.Goals.{then-are_reading+in_ok-push, else-are_reading}

pub loop-at-preserved : goal.loop-at-preserved
loop-at-preserved c =
    let at = c.loop-at.at in
    let test = are_reading c.args.reads.now in
    let left = numbers_from test (at + 1) (drop (at + 1) c.args.streams.now) in
    let within : at < length c.args.streams.now = omega arith in
    let told = ap test (sym c.text.ensures.bytes) ∙ sym c.are_reading.ensures in
    elim c.if-are_reading.branch [
      | then-are_reading+in_ok-push w ↦
          ap (λ l. l ++ left) (w.found-is ∙ w.in_ok-push.ensures.appended)
          ∙ numbers_step_yes test _ at _ c.loop-at.found _ within c.index-streams-at.is c.loop-at.invariant (told ∙ w.if-are_reading.true)
      | else-are_reading w ↦
          ap (λ l. l ++ left) w.found-is
          ∙ numbers_step_no test _ at _ c.loop-at.found _ within c.index-streams-at.is c.loop-at.invariant (told ∙ w.if-are_reading.false)
    ]

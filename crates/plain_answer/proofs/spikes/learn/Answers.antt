use Rattle.std.proofs.Common.{◌∙◌, ap, arith}
use Rattle.std.specs.List.{remove}
use Rattle.computations.proofs.Totals.{remove-drop_more}
use Rattle.plain_answer.proofs.spikes.learn.Goals as goal

-- one more of the first goes
pub loop-preserved : goal.loop-preserved
loop-preserved c = (
  c.remove.ensures.items ∙ ap (λ l. remove l 0) c.loop.invariant.0 ∙ remove-drop_more c.loop.counter c.push.new.self.items,
  omega (arith, c.loop-test.true),
)

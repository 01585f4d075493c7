use Rattle.std.proofs.Common.{arith}
use Rattle.topology.specs.Grammar.{computation_in}
use Rattle.topology.proofs.Stating.{each_of-step}
use Rattle.topology.proofs.grammar.each_computation.Goals as goal

pub loop-value-preserved : goal.loop-value-preserved
loop-value-preserved c =
    each_of-step computation_in c.args.values.now c.loop-value.value-index c.value-item.result _ _ _ _
    (omega arith) c.value-item.is c.in_ok-computation_in.ensures c.in_ok-push.ensures.appended c.loop-value.invariant

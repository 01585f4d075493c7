use Rattle.std.proofs.Common.{arith, ap, length}
use Rattle.topology.specs.Shapes.{stream_of, injectors_of}
use Rattle.run_history.proofs.Making.{consumers_few}
use Rattle.run_history.proofs.made.consumers.Goals as goal

pub returns-clause-few : goal.returns-clause-few
returns-clause-few c =
    let shape = c.args.topology.now in
    omega (
      arith,
      consumers_few (stream_of shape c.args.part) (injectors_of shape) shape.computations,
      ap length c.consumers.ensures.subscribed,
      c.parts-parts.ensures.rules.few_readings,
    )

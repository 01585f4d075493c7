use Rattle.std.proofs.Common.{◌<◌, subst, sym, ap}
use Rattle.topology.specs.Shapes.{Shape, parts_of}
use Rattle.run_history.specs.Cases.{CaseShape}
use Rattle.watermark.proofs.Parts.{part_within}
use Rattle.watermark.proofs.marks.inputs.Goals as goal

pub feeds-feeds-requires : goal.feeds-feeds-requires
feeds-feeds-requires c =
    subst (λ (shape : Shape). c.bounds.result.now.part < parts_of shape) (sym (ap (λ (case : CaseShape). case.topology) c.case.view_is))
    (part_within c.args.case.now.topology c.args.interval c.bounds.result.now c.bounds.ensures.at)

use Rattle.std.proofs.Common.{ap, ◌∙◌}
use Rattle.topology.specs.Shapes.{feeds_of, reads_of}
use Rattle.topology.specs.Folding.{are_reading}
use Rattle.topology.specs.Kept.{numbers_from}
use Rattle.topology.proofs.ByPart.{by_part_push}
use Rattle.topology.proofs.wiring.feeds_in.Goals as goal

pub loop-part-preserved : goal.loop-part-preserved
loop-part-preserved c =
    by_part_push (feeds_of c.args.parts.now) c.loop-part.part _ _ _ c.loop-part.invariant
    (c.in_ok-sources.ensures
    ∙ ap (λ r. numbers_from (are_reading r) 0 c.args.streams.now) c.reads.ensures
    ∙ ap (numbers_from (are_reading (reads_of c.args.parts.now c.loop-part.part)) 0) c.requires.published)
    c.in_ok-push.ensures.appended

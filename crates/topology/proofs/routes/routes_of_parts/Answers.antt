use Rattle.std.proofs.Common.{◌∙◌, ap}
use Rattle.topology.specs.Shapes.{stream_of}
use Rattle.topology.specs.Folding.{routes_to}
use Rattle.topology.proofs.ByPart.{by_part_push}
use Rattle.topology.proofs.routes.routes_of_parts.Goals as goal

pub loop-number-preserved : goal.loop-number-preserved
loop-number-preserved c =
    let readers = c.args.readers.now in
    let one_more = c.in_ok-routes_from.ensures ∙ ap (routes_to readers) c.stream.ensures.published in
    by_part_push (λ number. routes_to readers (stream_of c.args.topology.now number)) c.loop-number.number _ _ _
    c.loop-number.invariant one_more c.in_ok-push.ensures.appended

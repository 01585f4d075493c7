use Rattle.std.proofs.Common.{ap, ◌∙◌, ◌<◌, length, arith, unwrap_or, slice_get, []}
use Rattle.topology.specs.Shapes.{consumers_of, injectors_of}
use Rattle.topology.specs.Kept.{subscriptions_from}
use Rattle.topology.proofs.ByPart.{by_part_push}
use Rattle.topology.proofs.Steps.{unwrap_or_read}
use Rattle.topology.proofs.wiring.consumers_in.Goals as goal

pub loop-stream-preserved : goal.loop-stream-preserved
loop-stream-preserved c =
    let within : c.loop-stream.stream-index < length c.args.streams.now = omega arith in
    let shape = c.args.parts.now in
    by_part_push (consumers_of shape) c.loop-stream.stream-index _ _ _ c.loop-stream.invariant
    (c.in_ok-subscriptions.ensures
    ∙ ap (λ s. subscriptions_from s (injectors_of shape) shape.computations)
    (c.text.ensures.bytes
    ∙ unwrap_or_read _ _ _ within c.stream-item.is
    ∙ ap (λ l. unwrap_or (slice_get l c.loop-stream.stream-index) []) c.requires.published))
    c.in_ok-push.ensures.appended

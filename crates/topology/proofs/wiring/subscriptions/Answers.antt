use Rattle.std.proofs.Common.{◌≡◌, ◌∙◌, ◌++◌, ◌<◌, ◌+◌, ap, length, get_or, drop, arith}
use Rattle.topology.specs.Shapes.{subscriptions_to, injectors_of}
use Rattle.topology.specs.Kept.{subscriptions_by, subscriptions_from}
use Rattle.topology.proofs.Steps.{flat_map_step}
use Rattle.topology.proofs.wiring.subscriptions.Goals as goal

pub loop-at-preserved : goal.loop-at-preserved
loop-at-preserved c =
    let shape = c.args.parts.now in
    let at = c.loop-at.at in
    let stream = c.args.stream.now in
    let item = c.computation-item.result in
    let same = c.computations-computation-items.ensures in
    let within : at < length shape.computations = omega (arith, ap length same) in
    let number : c.injector_count-injectors.result + at ≡ injectors_of shape + at = ap (λ n. n + at) c.injector_count-injectors.ensures in
    ap (λ l. l ++ subscriptions_from stream (injectors_of shape + (at + 1)) (drop (at + 1) shape.computations))
    (c.in_ok-subscribe.ensures
    ∙ ap (λ n. c.loop-at.found ++ subscriptions_by stream n c.reads.result.now) number
    ∙ ap (λ r. c.loop-at.found ++ subscriptions_by stream (injectors_of shape + at) r) c.reads.ensures)
    ∙ flat_map_step (subscriptions_to stream) shape.computations (injectors_of shape) at item c.loop-at.found _ within
    (c.computation-item.is ∙ ap (λ l. get_or l at item) same) c.loop-at.invariant

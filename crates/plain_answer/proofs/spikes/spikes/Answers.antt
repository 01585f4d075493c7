use Rattle.std.proofs.Common.{[]}
use Rattle.plain_answer.specs.Spiked.{spikes_along}
use Rattle.plain_answer.proofs.Noting.{along-step}
use Rattle.plain_answer.proofs.spikes.spikes.Goals as goal

-- one place further along
pub loop-place-preserved : goal.loop-place-preserved
loop-place-preserved c =
    along-step c.args.last c.args.times (spikes_along c.args.last c.args.times [] [] c.args.places.now.entries)
    c.loop-place.records.items c.loop-place.row.key c.loop-place.row.known.items (c.in-Some.place.now, c.in-Some.value.now)
    c.in_ok-go_on.ensures.spike c.in_ok-go_on.ensures.row c.in_ok-go_on.ensures.known c.in-Some.ensures.steps
    c.loop-place.invariant

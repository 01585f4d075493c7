use Rattle.std.proofs.Common.{◌∙◌, ap, length}
use Rattle.plain_answer.proofs.Noting.{noted-spikes, places-fire}
use Rattle.plain_answer.proofs.spikes.spikes_of.Goals as goal

pub returns : goal.returns
returns c = record {
  spikes = noted-spikes c.args.last c.args.times c.args.members.now c.in_ok-places.places.entries c.from_vec.result
      c.in_ok-places.ensures (c.from_vec.ensures ∙ c.in_ok-spikes.ensures);
  fires = c.len.ensures.len ∙ ap length c.in_ok-places.ensures ∙ places-fire c.args.last c.args.times c.args.members.now;
}

use Rattle.key_intervals.proofs.Steps.{set-ended}
use Rattle.key_intervals.proofs.splitting.end.Goals as goal

pub returns : goal.returns
returns c = record {
  ended = set-ended c.args.interval c.args.all.now.items c.index_mut.result.now c.requires.there c.index_mut.ensures.value;
}

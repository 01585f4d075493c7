use Rattle.key_intervals.proofs.Steps.{split-made}
use Rattle.key_intervals.proofs.splitting.split_in.Goals as goal

pub returns-clause-split : goal.returns-clause-split
returns-clause-split c =
    split-made c.args.interval c.args.cut.now c.args.all.now.items c.reserve.new.self.items c.push_reserved.new.self.items
    c.push_reserved-2.new.self.items c.end.new.all.items c.index.result.now c.fresh.result c.fresh-2.result c.in_ok-lower.lower
    c.in_ok-lower.upper c.requires.there c.reserve.ensures.items c.index.ensures c.in_ok-lower.ensures.lower c.in_ok-lower.ensures.upper
    c.fresh.ensures c.push_reserved.ensures.items c.fresh-2.ensures c.push_reserved-2.ensures.items c.end.ensures.ended

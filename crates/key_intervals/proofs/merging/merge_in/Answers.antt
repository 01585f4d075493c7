use Rattle.key_intervals.proofs.Steps.{merge-made, still-within}
use Rattle.key_intervals.proofs.merging.merge_in.Goals as goal

pub end-requires-2 : goal.end-requires-2
end-requires-2 c = record {
  there = still-within c.args.low c.args.high c.args.all.now.items c.reserve.new.self.items c.push_reserved.new.self.items
      c.end.new.all.items _ c.requires.high c.reserve.ensures.items c.push_reserved.ensures.items c.end.ensures.ended;
}

pub returns-clause-merged : goal.returns-clause-merged
returns-clause-merged c =
    merge-made c.args.low c.args.high c.args.all.now.items c.reserve.new.self.items c.push_reserved.new.self.items
    c.end.new.all.items c.end-2.new.all.items c.index.result.now c.index-2.result.now c.fresh.result c.in_ok-bounds.bounds
    c.requires.low c.requires.high c.reserve.ensures.items c.index.ensures c.index-2.ensures c.in_ok-bounds.ensures c.fresh.ensures
    c.push_reserved.ensures.items c.end.ensures.ended c.end-2.ensures.ended

use Rattle.row_parts.proofs.Times.{put_more}
use Rattle.row_parts.proofs.lists.put_each.Goals as goal

pub loop-x-preserved : goal.loop-x-preserved
loop-x-preserved g c = put_more g.X.Spelled.spelling g.X.Spelled.typed c.args.xs.now c.loop-x.x-index c.x-item.result
    c.args.out.now.items c.loop-x.out.items c.put.new.out.items
    c.loop-x-test.true c.x-item.is c.in_ok-put.ensures.written c.in_ok-put.ensures.typed c.loop-x.invariant

use Rattle.std.proofs.Common.{rules, arith}
use Rattle.live_outlet.proofs.Pumping.{lines-step, live-step}
use Rattle.live_outlet.proofs.outlet.append_lines.Goals as goal

pub loop-emission-preserved : goal.loop-emission-preserved
loop-emission-preserved c = record {
  same = lines-step c.args.case.now.topology c.args.emissions.now c.loop-emission.emission-index c.emission-item.result
      c.loop-emission.piece.items _ _ (search (rules, arith)) c.emission-item.is (search rules) c.loop-emission.invariant.same;
  live = live-step c.args.case.now.topology c.args.emissions.now c.loop-emission.emission-index c.emission-item.result
      (search (rules, arith)) c.emission-item.is c.in_ok-line.ensures.live c.loop-emission.invariant.live;
}

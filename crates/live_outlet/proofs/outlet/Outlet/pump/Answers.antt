use Rattle.std.proofs.Common.{rules, arith}
use Rattle.live_outlet.proofs.Pumping.{writes-more}
use Rattle.live_outlet.proofs.outlet.Outlet.pump.Goals as goal

pub loop-self-preserved : goal.loop-self-preserved
loop-self-preserved g c = record {
  extends = c.put.ensures.extends;
  written = writes-more c.args.case.now.topology c.args.history.now c.args.self.now c.loop-self.self c.put.new.self
      (g.O.Sink.text c.args.out.now) (g.O.Sink.text c.loop-self.out) (g.O.Sink.text c.put.new.out)
      c.loop-self.invariant.written (search rules);
  faults = search (rules, arith);
}

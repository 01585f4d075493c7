use Rattle.std.proofs.Common.{◌≤◌, ◌-◌, length}
use Rattle.live_outlet.specs.Outlets.{IsPumpedFrom, WritesTo}
use Rattle.live_outlet.proofs.outlet.Outlet.pump.Given as goal

-- the lines of the entries up to its place were written, and no fault is forgotten
abbrev pub invariant-loop-self : goal.invariant-loop-self
invariant-loop-self g l = record {
  extends : IsPumpedFrom l.case.topology l.self l.history;
  written : WritesTo l.case.topology l.history l.initial.self l.self (g.O.Sink.text l.initial.out) (g.O.Sink.text l.out);
  faults : g.O.Sink.faults l.initial.out ≤ g.O.Sink.faults l.out;
}

abbrev pub decreases-loop-self : goal.decreases-loop-self
decreases-loop-self g l = length l.history - l.self.place

use Rattle.std.proofs.Common.{sym}
use Rattle.audit.proofs.FiringLaws.{timer-computes, timer-state}
use Rattle.audit.proofs.firing.firing_in.Goals as goal

-- a row with a timer is that of a computation
pub low-requires-clause-part : goal.low-requires-clause-part
low-requires-clause-part c =
    (timer-computes c.args.case.now c.args.history.now c.args.name.now c.args.row.now c.in-Some.timer c.requires.followed c.requires.row
    (sym c.in-Some.ensures.first)).1

pub sequencer-requires : goal.sequencer-requires
sequencer-requires c = record {
  part = (timer-computes c.args.case.now c.args.history.now c.args.name.now c.args.row.now c.in-Some.timer c.requires.followed
      c.requires.row (sym c.in-Some.ensures.first)).1;
}

-- and has a state of its kind
pub fired-requires-clause-there : goal.fired-requires-clause-there
fired-requires-clause-there c =
    timer-state c.args.case.now c.args.history.now c.args.kept.now c.args.name.now c.args.row.now c.in-Some.timer c.requires.followed
    c.requires.kept c.requires.row (sym c.in-Some.ensures.first)

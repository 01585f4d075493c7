use Rattle.world.proofs.drains.ThereLaws.{timer-part, timer-computation, seen-part}
use Rattle.world.proofs.drains.laws.drains_look_at_parts_that_are_there.Goals as goal

pub returns : goal.returns
returns c = record {
  timers = λ case history row timer legal is.
      (timer-computation case history row timer legal is.set, timer-part case history row timer legal is.set);
  seen = seen-part;
}

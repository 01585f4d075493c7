use Rattle.std.proofs.Common.{List, length, subst, sym}
use Rattle.std.specs.Prelude.{Option}
use Rattle.run_history.specs.Cases.{intervals_of}
use Rattle.holdings.specs.Holding.{HeldView}
use Rattle.node.specs.FireSteps.{AreAllWithin, IsLeastTimerBelow, IsTimerToFire}
use Rattle.node.proofs.FireLaws.{next-timer}
use Rattle.node.proofs.fires.first_due.Goals as goal

-- the least timer of the part, where it is due
pub returns-clause-found : goal.returns-clause-found
returns-clause-found c = λ node held free.
    let shape = c.args.case.now.topology in
    let part = c.args.part in
    let mark = c.args.mark in
    let first = c.in_ok-first.first in
    let within = subst (AreAllWithin shape) (sym held) c.requires.within in
    let least = subst (λ (all : List (Option HeldView)). IsLeastTimerBelow (intervals_of shape) all part (length (intervals_of shape)) first)
    (sym held) c.in_ok-first.ensures.first in
    subst (IsTimerToFire shape node part mark) (sym c.due.ensures) (next-timer shape node part mark first free within least)

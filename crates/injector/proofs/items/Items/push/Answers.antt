use Rattle.injector.proofs.Growth.{IsSource-push, room-push}
use Rattle.injector.proofs.items.Items.push.Goals as goal

-- the line is within bounds, so the lines are a source still
pub invariant_of-self-2 : goal.invariant_of-self-2
invariant_of-self-2 c =
    rw (c.in_ok-push.ensures.items) (
      IsSource-push _ _ c.self.invariant.0
          c.requires.stamp
          c.requires.mark
          (rw (← c.self.view_is) at c.requires.rising)
          c.requires.lateness,
      room-push _ _ _ (rw (← c.self.view_is) at c.requires.room),
    )

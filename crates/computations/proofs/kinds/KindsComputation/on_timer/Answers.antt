use Rattle.computations.proofs.kinds.KindsComputation.on_timer.Goals as goal

-- the part is a count of this size
pub returns-in-Count-clause-effects : goal.returns-in-Count-clause-effects
returns-in-Count-clause-effects c = rw c.in-Count.ensures.kind (c.on_timer.ensures.effects c.in-Count.size)

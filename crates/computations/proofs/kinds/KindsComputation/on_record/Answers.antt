use Rattle.computations.proofs.kinds.KindsComputation.on_record.Goals as goal

-- the part is a spike that compares so many totals by this factor
pub returns-in-Spike-clause-effects : goal.returns-in-Spike-clause-effects
returns-in-Spike-clause-effects c =
    rw c.in-Spike.ensures.kind (c.on_record-in-Spike.ensures.effects c.in-Spike.last c.in-Spike.times)

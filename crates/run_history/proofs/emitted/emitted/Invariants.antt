use Rattle.run_history.proofs.Reaching.{Reached}
use Rattle.run_history.proofs.emitted.emitted.Given as goal

-- the emissions are those of the entries so far
abbrev pub invariant-loop-commit : goal.invariant-loop-commit
invariant-loop-commit l = Reached l.topology l.history l.commit l.emitter l.emissions

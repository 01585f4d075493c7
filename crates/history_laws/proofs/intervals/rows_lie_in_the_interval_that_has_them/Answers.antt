use Rattle.run_history.proofs.IntervalLaws.{interval_of-has, has-interval_of}
use Rattle.history_laws.proofs.intervals.rows_lie_in_the_interval_that_has_them.Goals as goal

pub returns : goal.returns
returns c = record { has = interval_of-has; lies = has-interval_of }

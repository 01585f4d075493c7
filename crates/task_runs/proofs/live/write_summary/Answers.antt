use Rattle.std.proofs.Common.{arith, sym}
use Rattle.live_outlet.proofs.Pumping.{append_known-none}
use Rattle.task_runs.proofs.live.write_summary.Goals as goal

-- nothing of the line was written
pub returns-in-Err-clause-written : goal.returns-in-Err-clause-written
returns-in-Err-clause-written g c = (0, omega arith, sym (append_known-none (g.O.Sink.text c.args.out.now)))

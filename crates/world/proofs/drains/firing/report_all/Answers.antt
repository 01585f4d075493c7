use Rattle.std.proofs.Common.{arith, rules}
use Rattle.topology.specs.Rules.{IsTopology}
use Rattle.world.specs.drains.Turns.{worker_of}
use Rattle.world.proofs.drains.FedLaws.{fed-none, fed-on}
use Rattle.world.proofs.drains.ReportLaws.{reports-all, reports-on}
use Rattle.world.proofs.drains.firing.report_all.Goals as goal

-- no interval is reported, and none is of the part behind the last one
pub loop-interval-init : goal.loop-interval-init
loop-interval-init g c = record {
  reporting = search rules;
  fed = λ told. fed-none c.args.book.now c.parts.result _ (search rules);
}

-- an interval more
pub loop-interval-preserved : goal.loop-interval-preserved
loop-interval-preserved g c =
    let old = c.loop-interval.book in
    let new = c.report.new.book in
    let rules_there : IsTopology old.case.topology = search rules in
    record {
      reporting = reports-on c.args.book.now old new (worker_of c.loop-interval.held) (worker_of c.report.new.held)
          c.loop-interval.interval
          c.loop-interval.invariant.reporting (search (rules, arith)) (search rules) (search rules) (search rules);
      fed = fed-on old new c.loop-interval.interval _ _ rules_there (search rules) (search (rules, arith)) (search rules) (search rules)
          (search rules);
    }

-- after the last the marks are those of a round
pub returns-clause-round : goal.returns-clause-round
returns-clause-round g c = λ told.
    reports-all c.args.book.now c.loop-interval.book (worker_of c.loop-interval.held) c.loop-interval.interval (search (rules, arith))
    c.loop-interval.invariant.reporting told

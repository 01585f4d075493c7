use Rattle.std.proofs.Common.{◌∙◌, length, ap}
use Rattle.key_intervals.specs.Division.{Division}
use Rattle.topology.specs.Rules.{interval_count}
use Rattle.run_history.specs.Cases.{CaseShape, intervals_of}
use Rattle.run_history.proofs.CaseIntervals.{length-intervals}
use Rattle.run_history.proofs.IntervalLaws.{count-first}
use Rattle.run_history.proofs.case.Case.interval_count.Goals as goal

pub returns-clause-all : goal.returns-clause-all
returns-clause-all c =
    c.count.ensures.count ∙ ap (λ (d : Division). length d.given) c.self.invariant.all_intervals
    ∙ count-first c.self.inside.topology ∙ ap (λ (case : CaseShape). length (intervals_of case.topology)) c.self.view_is

pub returns-clause-count : goal.returns-clause-count
returns-clause-count c =
    c.count.ensures.count ∙ ap (λ (d : Division). length d.given) c.self.invariant.all_intervals
    ∙ count-first c.self.inside.topology ∙ length-intervals c.self.inside.topology
    ∙ ap (λ (case : CaseShape). interval_count case.topology) c.self.view_is

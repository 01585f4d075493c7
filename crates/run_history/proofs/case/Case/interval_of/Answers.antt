use Rattle.std.proofs.Common.{◌≡◌, ◌<◌, sym, subst}
use Rattle.std.specs.Prelude.{Some}
use Rattle.key_intervals.specs.Division.{Division, HasLive}
use Rattle.key_intervals.proofs.First.{live-has}
use Rattle.topology.specs.Shapes.{parts_of}
use Rattle.run_history.specs.Cases.{CaseShape, intervals_of}
use Rattle.run_history.specs.Fences.{interval_of}
use Rattle.run_history.proofs.IntervalLaws.{are-intervals, has-interval_of}
use Rattle.run_history.proofs.case.Case.interval_of.Goals as goal

pub find-requires : goal.find-requires
find-requires c =
    let part = c.args.name.now.part in
    let there = subst (λ (case : CaseShape). part < parts_of case.topology) (sym c.self.view_is) c.requires.part in record {
      part = subst (λ (d : Division). part < d.parts) (sym c.self.invariant.all_intervals) there;
    }

pub returns : goal.returns
returns c =
    let name = c.args.name.now in
    let live = subst (λ (d : Division). HasLive d.given c.find.result name) c.self.invariant.all_intervals c.find.ensures.found in
    let has = live-has (intervals_of c.self.inside.topology) c.find.result name live in
    let lies = has-interval_of c.self.inside.topology c.find.result name
    (are-intervals c.self.inside.topology c.parts-parts.ensures.rules) has in record {
      interval = subst (λ (case : CaseShape). interval_of case.topology name ≡ Some c.find.result) c.self.view_is lies;
    }

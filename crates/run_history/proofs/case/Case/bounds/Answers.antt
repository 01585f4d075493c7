use Rattle.std.proofs.Common.{◌∙◌, ◌<◌, length, slice_get, ap, subst, sym}
use Rattle.key_intervals.specs.Division.{Division, bounds_at}
use Rattle.run_history.specs.Cases.{CaseShape, intervals_of}
use Rattle.run_history.proofs.IntervalLaws.{bounds-first, count-first}
use Rattle.run_history.proofs.case.Case.bounds.Goals as goal

pub bounds-requires : goal.bounds-requires
bounds-requires c =
    let all = ap (λ (d : Division). length d.given) c.self.invariant.all_intervals ∙ count-first c.self.inside.topology in
    let there = subst (λ (case : CaseShape). c.args.interval < length (intervals_of case.topology)) (sym c.self.view_is) c.requires.there in
    record { exists = subst (λ n. c.args.interval < n) (sym all) there }

pub returns : goal.returns
returns c = record {
  at = ap (λ (case : CaseShape). slice_get (intervals_of case.topology) c.args.interval) (sym c.self.view_is)
      ∙ sym (bounds-first c.self.inside.topology c.args.interval)
      ∙ ap (λ (d : Division). bounds_at d.given c.args.interval) (sym c.self.invariant.all_intervals) ∙ c.bounds.ensures.at;
}

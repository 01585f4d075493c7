use Rattle.std.proofs.Common.{rules, arith, ◌≡◌, ◌∙◌, ◌+◌, List, length, subst, sym}
use Rattle.std.specs.Prelude.{Option, ◌==◌}
use Rattle.key_intervals.specs.declared.bounds.Bounds.{Bounds}
use Rattle.run_history.specs.Cases.{intervals_of}
use Rattle.holdings.specs.Holding.{HeldView}
use Rattle.node.specs.FireSteps.{IsFirstIn, IsLeastTimerBelow}
use Rattle.node.proofs.FireLaws.{first-more}
use Rattle.node.proofs.fires.first_of_part.Goals as goal

-- with one interval more
pub loop-interval-preserved : goal.loop-interval-preserved
loop-interval-preserved c =
    let intervals = intervals_of c.args.case.now.topology in
    let all = c.args.held.now in
    let part = c.args.part in
    let i = c.loop-interval.interval in
    let bounds = c.bounds.result.now in
    let here = subst (λ (h : List (Option HeldView)). IsFirstIn (bounds.part == part) h i c.in_ok-here.here) c.loop-interval.invariant.same
    c.in_ok-here.ensures.first in record {
      so_far = subst (IsLeastTimerBelow intervals all part (i + 1)) (sym c.earlier-first.ensures)
          (first-more intervals all part i bounds c.loop-interval.first c.in_ok-here.here c.bounds.ensures.at
          c.loop-interval.invariant.so_far here);
      same = c.in_ok-here.ensures.same ∙ c.loop-interval.invariant.same;
    }

-- after the last interval
pub returns-clause-first : goal.returns-clause-first
returns-clause-first c =
    let intervals = intervals_of c.args.case.now.topology in
    let all = c.args.held.now in
    let part = c.args.part in
    let last : c.loop-interval.interval ≡ length intervals = search (rules, arith) in
    subst (λ n. IsLeastTimerBelow intervals all part n c.loop-interval.first) last
    c.loop-interval.invariant.so_far

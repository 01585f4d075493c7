use Rattle.std.proofs.Common.{◌≡◌, ◌∙◌, ◌+◌, refl, subst, arith, rules}
use Rattle.node.specs.declared.outcome.Outcome.{Outcome}
use Rattle.node.specs.declared.outcome.Outcome.TheVariants as outcomes
use Rattle.workers.specs.Serving.{HasLeastLinesOf, lines_of, lines_told}
use Rattle.workers.specs.Slices.{IsSliceFault}
use Rattle.workers.proofs.PartLines.{lines_of-less, lines_of-then}
use Rattle.workers.proofs.LineLaws.{lines-less, lines-none, lines-then, told-some}
use Rattle.workers.proofs.Serving.{fault-after, served-lines, served-more, served-not, served-within}
use Rattle.workers.proofs.steps.inject_part.Goals as goal

pub loop-done-init : goal.loop-done-init
loop-done-init g c = record {
  served = served-more (lines_of c.args.part 0) (served-not c.requires.fits);
  lines = lines-none c.args.part (served-not c.requires.fits);
  loan = refl;
  home = refl;
}

-- a call that fails
pub returns-in_err-outcome-clause-served : goal.returns-in_err-outcome-clause-served
returns-in_err-outcome-clause-served g c = served-lines (lines_of c.args.part 16) c.loop-done.done 1 16
    (omega (arith, c.loop-done-test.true)) (lines_of-then c.args.part c.loop-done.done 1 16 (omega (arith, c.loop-done-test.true)))
    c.loop-done.invariant.served c.until_free.ensures.served

-- has its cause
pub returns-in_err-outcome-clause-fault : goal.returns-in_err-outcome-clause-fault
returns-in_err-outcome-clause-fault g c =
    let fault : IsSliceFault (g.D.Desk.view c.args.desk.now) (g.D.Desk.view c.until_free.new.desk) c.in_err-outcome.field-0.0 =
    fault-after c.loop-done.invariant.served.worked c.in_err-outcome.ensures.fault in search rules

-- there was nothing to do
pub returns-then-is_nothing-clause-served : goal.returns-then-is_nothing-clause-served
returns-then-is_nothing-clause-served g c = served-lines (lines_of c.args.part 16) c.loop-done.done 1 16
    (omega (arith, c.loop-done-test.true)) (lines_of-then c.args.part c.loop-done.done 1 16 (omega (arith, c.loop-done-test.true)))
    c.loop-done.invariant.served c.until_free.ensures.served

-- so all lines are injected
pub returns-then-is_nothing-clause-lines : goal.returns-then-is_nothing-clause-lines
returns-then-is_nothing-clause-lines g c =
    let case = c.args.case.now in
    let nothing : c.in_ok-outcome.outcome ≡ outcomes.Nothing = c.if-is_nothing.ensures.nothing search in
    lines-then c.args.part c.loop-done.done 16 16 (omega arith) c.loop-done.invariant.served c.until_free.ensures.served
    c.loop-done.invariant.lines (subst (λ (o : Outcome). HasLeastLinesOf (lines_told o) case c.args.part c.loop-done.node
    (g.D.Desk.view c.loop-done.desk) (g.D.Desk.view c.until_free.new.desk)) nothing c.in_ok-outcome.ensures.lines)

pub loop-done-preserved : goal.loop-done-preserved
loop-done-preserved g c = record {
  served = served-lines (lines_of c.args.part (c.loop-done.done + 1)) c.loop-done.done 1 (c.loop-done.done + 1) (omega arith)
      (lines_of-then c.args.part c.loop-done.done 1 (c.loop-done.done + 1) (omega arith)) c.loop-done.invariant.served
      c.until_free.ensures.served;
  lines = lines-then c.args.part c.loop-done.done (lines_told c.in_ok-outcome.outcome) (c.loop-done.done + 1)
      (let some = told-some c.in_ok-outcome.outcome in omega (arith, some)) c.loop-done.invariant.served c.until_free.ensures.served
      c.loop-done.invariant.lines c.in_ok-outcome.ensures.lines;
  loan = c.until_free.ensures.loan ∙ c.loop-done.invariant.loan;
  home = c.until_free.ensures.home ∙ c.loop-done.invariant.home;
}

-- the loop is done
pub returns-clause-served : goal.returns-clause-served
returns-clause-served g c = served-within (lines_of c.args.part 16) c.loop-done.done 16 (grind arith)
    (lines_of-less c.args.part c.loop-done.done 16 (grind arith)) c.loop-done.invariant.served

-- and 16 lines were injected
pub returns-clause-lines : goal.returns-clause-lines
returns-clause-lines g c = lines-less c.args.case.now c.args.part c.loop-done.done 16 (g.D.Desk.view c.args.desk.now)
    (g.D.Desk.view c.loop-done.desk) c.args.node.now (grind arith) c.loop-done.invariant.lines

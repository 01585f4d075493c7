use Rattle.std.proofs.Common.{◌∙◌, ◌+◌, ◌*◌, refl, arith, rules}
use Rattle.workers.specs.Slices.{IsSliceFault}
use Rattle.workers.specs.Serving.{lines_below, lines_each}
use Rattle.workers.proofs.PartLines.{lines_below-each, lines_below-then, lines_both-each}
use Rattle.workers.proofs.LineLaws.{lines-more}
use Rattle.workers.proofs.Serving.{fault-after, served-lines, served-more, served-not, served-within}
use Rattle.workers.proofs.steps.inject_all.Goals as goal

pub loop-part-init : goal.loop-part-init
loop-part-init g c = record {
  served = served-more (lines_below 0 16) (served-not c.requires.fits);
  lines = λ part less. absurd (omega (arith, less));
  loan = refl;
  home = refl;
}

-- a call that fails
pub returns-in_err-inject_part-clause-served : goal.returns-in_err-inject_part-clause-served
returns-in_err-inject_part-clause-served g c = served-lines (lines_each 16)
    (16 * c.loop-part.part) 16 256 (omega (arith, c.loop-part-test.true, c.injectors_in-injectors.ensures.few))
    (lines_both-each c.loop-part.part 16) c.loop-part.invariant.served c.inject_part.ensures.served

-- has its cause
pub returns-in_err-inject_part-clause-fault : goal.returns-in_err-inject_part-clause-fault
returns-in_err-inject_part-clause-fault g c =
    let fault : IsSliceFault (g.D.Desk.view c.args.desk.now) (g.D.Desk.view c.inject_part.new.desk) c.in_err-inject_part.field-0.0 =
    fault-after c.loop-part.invariant.served.worked c.in_err-inject_part.ensures.fault in search rules

pub loop-part-preserved : goal.loop-part-preserved
loop-part-preserved g c = record {
  served = served-lines (lines_below (c.loop-part.part + 1) 16) (16 * c.loop-part.part) 16 (16 * (c.loop-part.part + 1)) (omega arith)
      (lines_below-then c.loop-part.part 16) c.loop-part.invariant.served c.inject_part.ensures.served;
  lines = λ part less. lines-more c.loop-part.part c.loop-part.invariant.served c.inject_part.ensures.served c.loop-part.invariant.lines
      c.in_ok-inject_part.ensures.lines part less;
  loan = c.inject_part.ensures.loan ∙ c.loop-part.invariant.loan;
  home = c.inject_part.ensures.home ∙ c.loop-part.invariant.home;
}

-- the loop is done
pub returns-clause-served : goal.returns-clause-served
returns-clause-served g c = served-within (lines_each 16) (16 * c.loop-part.part) 256
    (grind (arith, c.injectors_in-injectors.ensures.few)) (lines_below-each c.loop-part.part 16) c.loop-part.invariant.served

-- and so are the lines of all injectors
pub returns-clause-injected : goal.returns-clause-injected
returns-clause-injected g c = λ part less. c.loop-part.invariant.lines part
    (grind (arith, less, c.injectors_in-injectors.ensures.count))

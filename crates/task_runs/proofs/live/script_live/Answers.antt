use Rattle.std.proofs.Common.{drop, length, refl, sym, subst, rules, arith}
use Rattle.std.specs.Prelude.{IfErr}
use Rattle.std.proofs.lemmas.List.{drop_all}
use Rattle.list_lemmas.proofs.Told.{if-anyway, if-there}
use Rattle.world.proofs.Results.{err-then}
use Rattle.run_history.specs.Cases.{CaseShape}
use Rattle.live_outlet.specs.Outlets.{IsPumpedFrom}
use Rattle.world.specs.scripts.WorldStates.{world_of}
use Rattle.world.proofs.RunLaws.{begins-one, run-none}
use Rattle.task_runs.specs.Inside.{HasLiveCause, StopsStep}
use Rattle.task_runs.proofs.LiveLines.{writing-all, writing-none, writing-step}
use Rattle.task_runs.proofs.LiveRuns.{cause-before, pumped-step, step-begun, step-more, stopped-step}
use Rattle.task_runs.proofs.live.script_live.Goals as goal

-- before the first step nothing is written
pub loop-step-init : goal.loop-step-init
loop-step-init g c =
    let start = c.args.world.now in (
      run-none start c.args.steps.now,
      c.requires.pumped,
      omega arith,
      if-anyway start.book.rows _ (writing-none start.book.case (world_of start) c.args.steps.now c.args.outlet.now
          (g.O.Sink.text c.args.out.now) c.requires.pumped.none_owed),
    )

-- the outlet may be pumped on
pub step_live-requires-clause-extends : goal.step_live-requires-clause-extends
step_live-requires-clause-extends g c =
    let l = c.loop-step in
    subst (λ (k : CaseShape). IsPumpedFrom k.topology l.outlet l.world.book.history) (sym l.invariant.0.case) l.invariant.1.pumped

-- a step more
pub loop-step-preserved : goal.loop-step-preserved
loop-step-preserved g c =
    let l = c.loop-step in
    let start = c.args.world.now in
    let old = l.world in
    let new = c.step_live.new.world in
    let step = c.step_live.ensures in
    let running = step-more start old new c.args.steps.now l.step-index _ c.in_ok-step_live.ensures.done.0 l.invariant.0
    c.loop-step-test.true step.case step.routes step.limit step.tells step.keeper_later step.grown c.in_ok-step_live.ensures.done.1 in
    let begins = begins-one (world_of old) (world_of new) step.grown in
    let later = l.invariant.2 in
    let cause = step.out_later in (
      running,
      pumped-step start.book.case old.book.case old.book.history new.book.history l.step-index (length old.book.history) l.outlet
          c.step_live.new.outlet (g.O.Sink.text c.args.out.now) (g.O.Sink.text l.out) (g.O.Sink.text c.step_live.new.out)
          l.invariant.0.case begins refl c.in_ok-step_live.ensures.stepped l.invariant.1,
      omega (arith, later, cause),
      writing-step start old new c.args.steps.now l.step-index _ c.in_ok-step_live.ensures.done.0 c.args.outlet.now.place l.outlet
          c.step_live.new.outlet (g.O.Sink.text c.args.out.now) (g.O.Sink.text l.out) (g.O.Sink.text c.step_live.new.out)
          c.loop-step-test.true l.invariant.0.case l.invariant.0.tells c.in_ok-step_live.ensures.done.1
          c.in_ok-step_live.ensures.lines l.invariant.3,
    )

-- behind the last step all is written
pub returns-clause-lines : goal.returns-clause-lines
returns-clause-lines g c =
    let l = c.loop-step in
    let start = c.args.world.now in
    writing-all start.book.case (world_of start) (world_of l.world) c.args.outlet.now.place c.args.steps.now
    (drop l.step-index c.args.steps.now) l.outlet (g.O.Sink.text c.args.out.now) (g.O.Sink.text l.out) start.book.rows
    (drop_all l.step-index c.args.steps.now (search rules)) l.invariant.3

-- ---- a step failed, or its results were cut off

pub returns-in_err-step_live-clause-begun : goal.returns-in_err-step_live-clause-begun
returns-in_err-step_live-clause-begun g c =
    let l = c.loop-step in
    let step = c.step_live.ensures in
    if-there c.args.world.now.book.rows (λ told. step-begun c.args.world.now l.world c.step_live.new.world c.args.steps.now l.step-index _
    c.in_err-step_live.field-0.0 l.invariant.0 c.loop-step-test.true step.case step.routes step.limit step.tells step.keeper_later step.grown
    c.in_err-step_live.ensures.failed told)

pub returns-in_err-step_live-clause-cause : goal.returns-in_err-step_live-clause-cause
returns-in_err-step_live-clause-cause g c =
    let l = c.loop-step in
    let cause : IfErr c.from_residual.result (HasLiveCause l.world.book c.step_live.new.world.book (g.O.Sink.faults l.out)
    (g.O.Sink.faults c.step_live.new.out)) = search rules in
    err-then c.from_residual.result (λ fault is. cause-before c.args.world.now.book l.world.book c.step_live.new.world.book
    (g.O.Sink.faults c.args.out.now) (g.O.Sink.faults l.out) (g.O.Sink.faults c.step_live.new.out) fault
    l.invariant.0.faults l.invariant.2 is) cause

pub returns-in_err-step_live-clause-behind : goal.returns-in_err-step_live-clause-behind
returns-in_err-step_live-clause-behind g c =
    let l = c.loop-step in
    let start = c.args.world.now.book in
    let old = l.world.book in
    let new = c.step_live.new.world.book in
    let some = g.O.Sink.text l.out in
    let grown = g.O.Sink.text c.step_live.new.out in
    let behind : IfErr c.from_residual.result (λ fault. StopsStep fault old.case.topology old.history new.history l.outlet some grown) =
    search rules in
    err-then c.from_residual.result (λ fault is. stopped-step start.case old.case old.history new.history l.step-index l.outlet
    (g.O.Sink.text c.args.out.now) some grown fault l.invariant.0.case is l.invariant.1) behind

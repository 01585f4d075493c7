use Rattle.std.proofs.Common.{◌≡◌, rules, arith, subst, sym}
use Rattle.std.specs.Prelude.{IfErr}
use Rattle.world.specs.drains.DrainTurns.{HasDrained}
use Rattle.world.proofs.DrainTurnLaws.{going-ended, going-first, going-on}
use Rattle.world.proofs.GoLaws.{gone-step}
use Rattle.world.proofs.Results.{err-then}
use Rattle.run_history.specs.Cases.{CaseShape}
use Rattle.live_outlet.specs.Outlets.{IsPumpedFrom}
use Rattle.task_runs.specs.declared.live.LiveFault.{LiveFault}
use Rattle.task_runs.specs.Inside.{HasLiveCause}
use Rattle.run_history.proofs.Beginnings.{Begins-length}
use Rattle.task_runs.proofs.LiveLines.{pumped-lines, writes-none, writes-on}
use Rattle.task_runs.proofs.LiveRuns.{cause-before, fault-gone, fault-goes, fault-short, stops-behind, turn-begins, turn-ended, turns-on, err-is}
use Rattle.task_runs.proofs.live.turns_live.Goals as goal

-- the drain begins to turn
pub loop-init : goal.loop-init
loop-init g c = (
  c.requires.drain,
  going-first c.args.world.now.book c.args.drain.now c.requires.drain.under_way,
  c.requires.extends,
  omega arith,
  λ once text is. is,
  writes-none c.args.world.now.book.case.topology c.args.world.now.book.history c.args.outlet.now (g.O.Sink.text c.args.out.now),
)

-- the outlet may be pumped on
pub turn_live-requires-clause-extends : goal.turn_live-requires-clause-extends
turn_live-requires-clause-extends g c =
    let l = c.loop in
    subst (λ (k : CaseShape). IsPumpedFrom k.topology l.outlet l.world.book.history) (sym l.invariant.1.gone.case) l.invariant.2

-- a turn more
pub loop-preserved : goal.loop-preserved
loop-preserved g c =
    let l = c.loop in
    let start = c.args.world.now.book in
    let old = l.world.book in
    let new = c.turn_live.new.world.book in
    let turned = c.in_ok-turn_live.ensures in
    let later = l.invariant.3 in
    let cause = c.turn_live.ensures.out_later in (
      turned.drain,
      going-on start old new c.args.drain.now.from l.drain c.turn_live.new.drain c.in_ok-turn_live.field-0 l.invariant.1 turned.drained
          turned.drain.under_way c.turn_live.ensures.from,
      subst (λ (k : CaseShape). IsPumpedFrom k.topology c.turn_live.new.outlet new.history) l.invariant.1.gone.case turned.extends,
      omega (arith, later, cause),
      turns-on start.case old.case start.history old.history new.history c.args.outlet.now l.outlet c.turn_live.new.outlet
          (g.O.Sink.text c.args.out.now) (g.O.Sink.text l.out) (g.O.Sink.text c.turn_live.new.out) l.invariant.1.gone.case
          l.invariant.4 turned.pumped,
      writes-on start.case old.case old.history new.history c.args.outlet.now l.outlet c.turn_live.new.outlet
          (g.O.Sink.text c.args.out.now) (g.O.Sink.text l.out) (g.O.Sink.text c.turn_live.new.out) l.invariant.1.gone.case
          (turn-begins l.drain.from old new _ turned.drained)
          (let within = c.requires.extends.place in
          let grown = Begins-length start.history old.history l.invariant.1.gone.grown in omega (arith, within, grown))
          l.invariant.2.place l.invariant.5 turned.wrote,
    )

-- ---- no entry was left

pub returns-clause-gone : goal.returns-clause-gone
returns-clause-gone g c =
    let l = c.loop in
    gone-step c.args.world.now.book l.world.book c.turn_live.new.world.book c.in_ok-turn_live.ensures.drained.own l.invariant.1.gone
    c.in_ok-turn_live.ensures.drained.stepped

pub returns-clause-draining : goal.returns-clause-draining
returns-clause-draining g c =
    let l = c.loop in
    (going-on c.args.world.now.book l.world.book c.turn_live.new.world.book c.args.drain.now.from l.drain c.turn_live.new.drain
    c.in_ok-turn_live.field-0 l.invariant.1 c.in_ok-turn_live.ensures.drained c.in_ok-turn_live.ensures.drain.under_way
    c.turn_live.ensures.from).goes

pub returns-clause-ended : goal.returns-clause-ended
returns-clause-ended g c =
    let l = c.loop in
    going-ended c.args.world.now.book l.world.book c.turn_live.new.world.book c.args.drain.now.from l.drain l.invariant.1
    (subst (HasDrained l.drain.from l.world.book c.turn_live.new.world.book) (search rules) c.in_ok-turn_live.ensures.drained)
    (c.in_ok-turn_live.ensures.ended (search rules))

pub returns-clause-results : goal.returns-clause-results
returns-clause-results g c =
    let l = c.loop in
    let start = c.args.world.now.book in
    let old = l.world.book in
    turn-ended start.case.topology start.history c.turn_live.new.world.book.history c.args.outlet.now c.turn_live.new.outlet
    (g.O.Sink.text c.args.out.now) (g.O.Sink.text c.turn_live.new.out)
    (turns-on start.case old.case start.history old.history c.turn_live.new.world.book.history c.args.outlet.now l.outlet
    c.turn_live.new.outlet (g.O.Sink.text c.args.out.now) (g.O.Sink.text l.out) (g.O.Sink.text c.turn_live.new.out)
    l.invariant.1.gone.case l.invariant.4 c.in_ok-turn_live.ensures.pumped)

-- by just the lines from where the outlet was
pub returns-clause-lines : goal.returns-clause-lines
returns-clause-lines g c =
    let l = c.loop in
    let start = c.args.world.now.book in
    let old = l.world.book in
    let new = c.turn_live.new.world.book in
    let turned = c.in_ok-turn_live.ensures in
    pumped-lines start.case.topology new.history c.args.outlet.now c.turn_live.new.outlet (g.O.Sink.text c.args.out.now)
    (g.O.Sink.text c.turn_live.new.out) turned.place
    (writes-on start.case old.case old.history new.history c.args.outlet.now l.outlet c.turn_live.new.outlet
    (g.O.Sink.text c.args.out.now) (g.O.Sink.text l.out) (g.O.Sink.text c.turn_live.new.out) l.invariant.1.gone.case
    (turn-begins l.drain.from old new _ turned.drained)
    (let within = c.requires.extends.place in
    let grown = Begins-length start.history old.history l.invariant.1.gone.grown in omega (arith, within, grown))
    l.invariant.2.place l.invariant.5 turned.wrote)

-- ---- a turn failed, or its results were cut off

pub returns-in_err-turn_live-clause-gone : goal.returns-in_err-turn_live-clause-gone
returns-in_err-turn_live-clause-gone g c =
    fault-gone c.args.world.now.book c.loop.world.book c.turn_live.new.world.book c.loop.drain.from c.in_err-turn_live.field-0.0
    c.loop.invariant.1.gone c.in_err-turn_live.ensures.failed

pub returns-in_err-turn_live-clause-draining : goal.returns-in_err-turn_live-clause-draining
returns-in_err-turn_live-clause-draining g c =
    fault-goes c.args.world.now.book c.loop.world.book c.turn_live.new.world.book c.args.drain.now.from c.loop.drain
    c.in_err-turn_live.field-0.0 c.loop.invariant.1 c.in_err-turn_live.ensures.failed

pub returns-in_err-turn_live-clause-more : goal.returns-in_err-turn_live-clause-more
returns-in_err-turn_live-clause-more g c = λ full.
    fault-short c.args.world.now.book c.loop.world.book c.turn_live.new.world.book c.args.drain.now.from c.loop.drain
    c.in_err-turn_live.field-0.0 c.loop.invariant.1 c.in_err-turn_live.ensures.failed (search rules)

pub returns-in_err-turn_live-clause-cause : goal.returns-in_err-turn_live-clause-cause
returns-in_err-turn_live-clause-cause g c =
    let l = c.loop in
    let cause : IfErr c.from_residual.result (HasLiveCause l.world.book c.turn_live.new.world.book (g.O.Sink.faults l.out)
    (g.O.Sink.faults c.turn_live.new.out)) = search rules in
    err-then c.from_residual.result (λ fault is. cause-before c.args.world.now.book l.world.book c.turn_live.new.world.book
    (g.O.Sink.faults c.args.out.now) (g.O.Sink.faults l.out) (g.O.Sink.faults c.turn_live.new.out) fault
    l.invariant.1.gone.faults l.invariant.3 is) cause

pub returns-in_err-turn_live-clause-behind : goal.returns-in_err-turn_live-clause-behind
returns-in_err-turn_live-clause-behind g c =
    let l = c.loop in
    let start = c.args.world.now.book in
    let old = l.world.book in
    let new = c.turn_live.new.world.book in
    let some = g.O.Sink.text l.out in
    let grown = g.O.Sink.text c.turn_live.new.out in
    let fault = c.in_err-turn_live.field-0.0 in
    let is : IfErr c.from_residual.result (λ (f : LiveFault). f ≡ fault) = search rules in
    err-is c.from_residual.result fault _ is (stops-behind start.case old.case start.history old.history new.history
    c.args.outlet.now l.outlet (g.O.Sink.text c.args.out.now) some grown fault l.invariant.1.gone.case l.invariant.4
    c.in_err-turn_live.ensures.behind)

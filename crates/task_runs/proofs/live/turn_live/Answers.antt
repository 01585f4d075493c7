use Rattle.std.proofs.Common.{◌≡◌, sym, subst, rules}
use Rattle.std.specs.Prelude.{IfErr}
use Rattle.run_history.specs.Cases.{CaseShape}
use Rattle.live_outlet.specs.Outlets.{IsPumpedFrom, WritesTo}
use Rattle.task_runs.specs.declared.live.LiveFault.{LiveFault}
use Rattle.task_runs.specs.declared.live.LiveFault.TheVariants as lives
use Rattle.task_runs.specs.Lives.{IsCutBehind}
use Rattle.task_runs.proofs.LiveRuns.{behind-cut, behind-still, err-is, pumped-further, pumped-turn, turn-begins, turn-cause}
use Rattle.task_runs.proofs.live.turn_live.Goals as goal

-- the outlet may be pumped from what a turn left
pub pump-requires : goal.pump-requires
pump-requires g c =
    let old = c.args.world.now.book in
    let new = c.drain_turn.new.self.book in
    let drained = c.in_ok-more.ensures.drained in record {
      extends = subst (λ (k : CaseShape). IsPumpedFrom k.topology c.args.outlet.now new.history) (sym drained.stepped.case)
          (pumped-further old.case.topology old.history new.history c.args.outlet.now
          (turn-begins c.args.drain.now.from old new _ drained) c.requires.extends);
    }

-- all results are written then
pub returns-clause-extends : goal.returns-clause-extends
returns-clause-extends g c =
    let new = c.drain_turn.new.self.book in
    subst (λ (k : CaseShape). IsPumpedFrom k.topology c.pump.new.outlet new.history) c.in_ok-more.ensures.drained.stepped.case
    c.pump.ensures.extends

pub returns-clause-pumped : goal.returns-clause-pumped
returns-clause-pumped g c =
    let old = c.args.world.now.book in
    let new = c.drain_turn.new.self.book in
    let drained = c.in_ok-more.ensures.drained in
    pumped-turn old.case new.case old.history old.history new.history c.args.outlet.now c.args.outlet.now c.pump.new.outlet
    (g.O.Sink.text c.args.out.now) (g.O.Sink.text c.args.out.now) (g.O.Sink.text c.pump.new.out) drained.stepped.case
    (turn-begins c.args.drain.now.from old new _ drained) c.in_ok-pump.ensures.pumped (λ once text is. is)

pub returns-clause-wrote : goal.returns-clause-wrote
returns-clause-wrote g c =
    subst (λ (k : CaseShape). WritesTo k.topology c.drain_turn.new.self.book.history c.args.outlet.now c.pump.new.outlet
    (g.O.Sink.text c.args.out.now) (g.O.Sink.text c.pump.new.out)) c.in_ok-more.ensures.drained.stepped.case c.in_ok-pump.ensures.wrote

-- ---- a turn failed

pub returns-in_err-more-clause-failed : goal.returns-in_err-more-clause-failed
returns-in_err-more-clause-failed g c =
    let why = c.in_err-more.field-0.0 in
    let is : IfErr c.from_residual.result (λ (f : LiveFault). f ≡ lives.Run why) = search rules in
    err-is c.from_residual.result (lives.Run why) _ is (c.in_err-more.ensures.failed, c.in_err-more.ensures.unended)

pub returns-in_err-more-clause-cause : goal.returns-in_err-more-clause-cause
returns-in_err-more-clause-cause g c =
    let why = c.in_err-more.field-0.0 in
    let is : IfErr c.from_residual.result (λ (f : LiveFault). f ≡ lives.Run why) = search rules in
    err-is c.from_residual.result (lives.Run why) _ is
    (turn-cause c.args.world.now.book c.drain_turn.new.self.book why c.in_err-more.ensures.failed)

pub returns-in_err-more-clause-behind : goal.returns-in_err-more-clause-behind
returns-in_err-more-clause-behind g c =
    let old = c.args.world.now.book in
    let some = g.O.Sink.text c.args.out.now in
    let why = c.in_err-more.field-0.0 in
    let is : IfErr c.from_residual.result (λ (f : LiveFault). f ≡ lives.Run why) = search rules in
    err-is c.from_residual.result (lives.Run why) _ is
    (behind-still old.case.topology old.history old.history c.drain_turn.new.self.book.history c.args.outlet.now c.args.outlet.now
    some some why c.in_err-more.ensures.failed.stepped.appended (λ once text is. is))

-- ---- its results were cut off

pub returns-in_err-pump-clause-failed : goal.returns-in_err-pump-clause-failed
returns-in_err-pump-clause-failed g c =
    let why = c.in_err-pump.field-0.0 in
    let is : IfErr c.from_residual-in_err-pump.result (λ (f : LiveFault). f ≡ lives.Sink why) = search rules in
    err-is c.from_residual-in_err-pump.result (lives.Sink why) _ is (c.in_ok-more.more, c.in_ok-more.ensures.drained)

pub returns-in_err-pump-clause-cause : goal.returns-in_err-pump-clause-cause
returns-in_err-pump-clause-cause g c =
    let why = c.in_err-pump.field-0.0 in
    let is : IfErr c.from_residual-in_err-pump.result (λ (f : LiveFault). f ≡ lives.Sink why) = search rules in
    err-is c.from_residual-in_err-pump.result (lives.Sink why) _ is (search rules)

pub returns-in_err-pump-clause-behind : goal.returns-in_err-pump-clause-behind
returns-in_err-pump-clause-behind g c =
    let old = c.args.world.now.book in
    let new = c.drain_turn.new.self.book in
    let some = g.O.Sink.text c.args.out.now in
    let grown = g.O.Sink.text c.pump.new.out in
    let why = c.in_err-pump.field-0.0 in
    let drained = c.in_ok-more.ensures.drained in
    let is : IfErr c.from_residual-in_err-pump.result (λ (f : LiveFault). f ≡ lives.Sink why) = search rules in
    let cut : IsCutBehind new.case.topology new.history c.args.outlet.now some grown = search rules in
    err-is c.from_residual-in_err-pump.result (lives.Sink why) _ is
    (behind-cut old.case.topology old.history old.history new.history c.args.outlet.now c.args.outlet.now some some grown why
    (turn-begins c.args.drain.now.from old new _ drained) (λ once text is. is)
    (subst (λ (k : CaseShape). IsCutBehind k.topology new.history c.args.outlet.now some grown) drained.stepped.case cut))

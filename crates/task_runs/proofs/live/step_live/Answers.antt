use Rattle.std.proofs.Common.{◌≡◌, false, List, length, sym, subst, rules}
use Rattle.std.specs.Prelude.{IfErr}
use Rattle.mw_types.specs.declared.entry.Entry.{Entry}
use Rattle.run_history.specs.Cases.{CaseShape}
use Rattle.live_outlet.specs.Outlets.{IsPumpedFrom}
use Rattle.world.specs.scripts.WorldStates.{world_of}
use Rattle.world.proofs.RunLaws.{begins-one, faulted-history}
use Rattle.task_runs.specs.declared.live.LiveFault.{LiveFault}
use Rattle.task_runs.specs.declared.live.LiveFault.TheVariants as lives
use Rattle.task_runs.specs.Lives.{GoesOnBy, IsCutBehind, IsPumpedTo, StepsOn, stepped_from}
use Rattle.task_runs.proofs.LiveRuns.{err-is, pumped-further}
use Rattle.task_runs.proofs.live.step_live.Goals as goal

-- the outlet may be pumped from what the step left
pub after_step-requires : goal.after_step-requires
after_step-requires g c =
    let old = c.args.world.now in
    let new = c.step.new.self in
    let begins = begins-one (world_of old) (world_of new) c.step.ensures.grown in record {
      extends = subst (λ (k : CaseShape). IsPumpedFrom k.topology c.args.outlet.now new.book.history) (sym c.step.ensures.case)
          (pumped-further old.book.case.topology old.book.history new.book.history c.args.outlet.now begins c.requires.extends);
    }

-- the step was done
pub returns-clause-done : goal.returns-clause-done
returns-clause-done g c = (c.in_ok-step.field-0, c.in_ok-step.ensures.acted)

pub returns-clause-stepped : goal.returns-clause-stepped
returns-clause-stepped g c =
    let old = c.args.world.now.book in
    let new = c.step.new.self.book in
    let long : c.len-before.result ≡ length old.history = search rules in
    subst (λ (k : CaseShape). StepsOn k.topology new.history (length old.history) c.args.outlet.now c.after_step.new.outlet
    (g.O.Sink.text c.args.out.now) (g.O.Sink.text c.after_step.new.out)) c.step.ensures.case
    (subst (λ n. StepsOn new.case.topology new.history n c.args.outlet.now c.after_step.new.outlet
    (g.O.Sink.text c.args.out.now) (g.O.Sink.text c.after_step.new.out)) long c.in_ok-after_step.ensures.stepped)

-- and wrote just the lines that it writes
pub returns-clause-lines : goal.returns-clause-lines
returns-clause-lines g c =
    let old = c.args.world.now.book in
    let new = c.step.new.self.book in
    let step = c.args.step.now in
    let place = c.args.outlet.now.place in
    let long : c.len-before.result ≡ length old.history = search rules in
    subst (λ (k : CaseShape). GoesOnBy (stepped_from k.topology new.history (length old.history) step place) c.args.outlet.now
    c.after_step.new.outlet (g.O.Sink.text c.args.out.now) (g.O.Sink.text c.after_step.new.out)) c.step.ensures.case
    (subst (λ n. GoesOnBy (stepped_from new.case.topology new.history n step place) c.args.outlet.now
    c.after_step.new.outlet (g.O.Sink.text c.args.out.now) (g.O.Sink.text c.after_step.new.out)) long c.in_ok-after_step.ensures.lines)

-- ---- it failed

pub returns-in_err-step-clause-failed : goal.returns-in_err-step-clause-failed
returns-in_err-step-clause-failed g c =
    let why = c.in_err-step.field-0.0 in
    let is : IfErr c.from_residual.result (λ (f : LiveFault). f ≡ lives.Run why) = search rules in
    err-is c.from_residual.result (lives.Run why) _ is c.in_err-step.ensures.kept

pub returns-in_err-step-clause-cause : goal.returns-in_err-step-clause-cause
returns-in_err-step-clause-cause g c =
    let why = c.in_err-step.field-0.0 in
    let is : IfErr c.from_residual.result (λ (f : LiveFault). f ≡ lives.Run why) = search rules in
    err-is c.from_residual.result (lives.Run why) _ is
    (record { keeper = search rules; full = search rules; damaged = search rules })

pub returns-in_err-step-clause-behind : goal.returns-in_err-step-clause-behind
returns-in_err-step-clause-behind g c =
    let old = c.args.world.now in
    let why = c.in_err-step.field-0.0 in
    let some = g.O.Sink.text c.args.out.now in
    let same = faulted-history c.args.step.now old c.step.new.self c.in_err-step.ensures.kept in
    let is : IfErr c.from_residual.result (λ (f : LiveFault). f ≡ lives.Run why) = search rules in
    err-is c.from_residual.result (lives.Run why) _ is (λ text pumped.
    (subst (λ (h : List Entry). IsPumpedTo old.book.case.topology h false c.args.outlet.now text some) (sym same) pumped).results.so_far)

-- ---- its results were cut off

pub returns-in_err-after_step-clause-failed : goal.returns-in_err-after_step-clause-failed
returns-in_err-after_step-clause-failed g c =
    let why = c.in_err-after_step.field-0.0 in
    let is : IfErr c.from_residual-in_err-after_step.result (λ (f : LiveFault). f ≡ lives.Sink why) = search rules in
    err-is c.from_residual-in_err-after_step.result (lives.Sink why) _ is (c.in_ok-step.field-0, c.in_ok-step.ensures.acted)

pub returns-in_err-after_step-clause-cause : goal.returns-in_err-after_step-clause-cause
returns-in_err-after_step-clause-cause g c =
    let why = c.in_err-after_step.field-0.0 in
    let is : IfErr c.from_residual-in_err-after_step.result (λ (f : LiveFault). f ≡ lives.Sink why) = search rules in
    err-is c.from_residual-in_err-after_step.result (lives.Sink why) _ is (search rules)

pub returns-in_err-after_step-clause-behind : goal.returns-in_err-after_step-clause-behind
returns-in_err-after_step-clause-behind g c =
    let old = c.args.world.now in
    let new = c.step.new.self in
    let some = g.O.Sink.text c.args.out.now in
    let grown = g.O.Sink.text c.after_step.new.out in
    let why = c.in_err-after_step.field-0.0 in
    let is : IfErr c.from_residual-in_err-after_step.result (λ (f : LiveFault). f ≡ lives.Sink why) = search rules in
    let cut : IsCutBehind new.book.case.topology new.book.history c.args.outlet.now some grown = search rules in
    err-is c.from_residual-in_err-after_step.result (lives.Sink why) _ is (λ text pumped.
    subst (λ (k : CaseShape). IsCutBehind k.topology new.book.history c.args.outlet.now some grown) c.step.ensures.case cut
    old.book.history text (begins-one (world_of old) (world_of new) c.step.ensures.grown) pumped)

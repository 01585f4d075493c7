use Rattle.std.proofs.Common.{◌≡◌, subst, sym}
use Rattle.std.specs.Prelude.{IfErr, IfOk, OnErr}
use Rattle.plans.specs.Steps.{IsStep}
use Rattle.world.specs.scripts.Stepping.{HasActed, IsCausedBy, worker_of_step}
use Rattle.world.specs.scripts.WorkerCalls.{IsAlone, IsFullStep}
use Rattle.world.specs.scripts.WorldStates.{WorldState, state_in, world_of}
use Rattle.world.proofs.Results.{err-then, ok-then}
use Rattle.world.proofs.scripts.WorldSteps.{acted-at, at-index, changed, fits-index, rested-at, stands-at, work-moved}
use Rattle.world.proofs.scripts.WorkerLaws.{err-left}
use Rattle.world.proofs.scripts.CauseLaws.{alone-cause}
use Rattle.world.proofs.scripts.FullSteps.{full-at}
use Rattle.world.proofs.scripts.world.World.step_alone.Goals as goal

-- the worker fits its book
pub call_alone-requires-clause-fits : goal.call_alone-requires-clause-fits
call_alone-requires-clause-fits g c =
    let state : WorldState = state_in c.self.inside in
    fits-index state c.args.worker c.index_mut-node.result.now c.self.invariant.0 c.requires.worker c.index_mut-node.ensures.value

-- the step is one of the case
pub call_alone-requires-clause-step : goal.call_alone-requires-clause-step
call_alone-requires-clause-step g c = (
  c.args.self.now.routes.weaks,
  subst (λ (s : WorldState). IsStep s.book.case.topology c.args.self.now.routes.weaks c.args.step.now) (sym c.self.view_is)
      c.requires.step,
)

-- and of the worker
pub call_alone-requires-clause-alone : goal.call_alone-requires-clause-alone
call_alone-requires-clause-alone g c =
    let state : WorldState = state_in c.self.inside in
    let at = at-index state c.args.worker c.index_mut-node.result.now c.self.invariant.0 c.requires.worker c.index_mut-node.ensures.value in
    subst (λ n. IsAlone n c.args.step.now) (sym (c.self.invariant.0.numbered c.args.worker c.index_mut-node.result.now at)) c.requires.alone

-- the world stands
pub invariant_of-self : goal.invariant_of-self
invariant_of-self g c =
    let state : WorldState = state_in c.self.inside in
    let was = c.index_mut-node.result.now in
    let at = at-index state c.args.worker was c.self.invariant.0 c.requires.worker c.index_mut-node.ensures.value in
    let called = c.call_alone.ensures.called in (
      stands-at state c.call_alone.new.book c.args.worker was c.call_alone.new.node c.self.invariant.0 at called,
      work-moved state.book.case c.call_alone.new.book.case called.grown.moved.case c.self.invariant.1,
    )

-- it does the step as the scripted world does
pub returns-clause-acted : goal.returns-clause-acted
returns-clause-acted g c =
    let state : WorldState = state_in c.self.inside in
    let was = c.index_mut-node.result.now in
    let new = changed state c.call_alone.new.book c.args.worker c.call_alone.new.node state.flight in
    let at = at-index state c.args.worker was c.self.invariant.0 c.requires.worker c.index_mut-node.ensures.value in
    let acted : IfOk c.call_alone.result (HasActed c.args.step.now state new) =
    ok-then c.call_alone.result (λ outcome acts. acted-at c.args.step.now state c.call_alone.new.book c.args.worker was c.call_alone.new.node outcome
    c.self.invariant.0 at acts) c.call_alone.ensures.acted in
    subst (λ (s : WorldState). IfOk c.call_alone.result (HasActed c.args.step.now s new)) c.self.view_is acted

-- a refusal leaves the world as it was
pub returns-clause-same : goal.returns-clause-same
returns-clause-same g c =
    let state : WorldState = state_in c.self.inside in
    let was = c.index_mut-node.result.now in
    let new = changed state c.call_alone.new.book c.args.worker c.call_alone.new.node state.flight in
    let at = at-index state c.args.worker was c.self.invariant.0 c.requires.worker c.index_mut-node.ensures.value in
    let same : OnErr c.call_alone.result (world_of new ≡ world_of state) =
    err-left c.call_alone.result (λ rested. rested-at state c.call_alone.new.book c.args.worker was c.call_alone.new.node state.flight at rested)
    c.call_alone.ensures.rested in
    subst (λ (s : WorldState). OnErr c.call_alone.result (world_of new ≡ world_of s)) c.self.view_is same

-- its answer has its cause
pub returns-clause-cause : goal.returns-clause-cause
returns-clause-cause g c =
    let state : WorldState = state_in c.self.inside in
    let was = c.index_mut-node.result.now in
    let after = c.call_alone.new.book.history in
    let at = at-index state c.args.worker was c.self.invariant.0 c.requires.worker c.index_mut-node.ensures.value in
    let cause : IfOk c.call_alone.result (IsCausedBy (worker_of_step (world_of state) c.args.step.now) state.book.history after) =
    ok-then c.call_alone.result (λ outcome is. alone-cause state after c.args.worker was c.args.step.now outcome at c.requires.alone is)
    c.call_alone.ensures.cause in
    subst (λ (s : WorldState). IfOk c.call_alone.result (IsCausedBy (worker_of_step (world_of s) c.args.step.now) s.book.history after))
    c.self.view_is cause

-- where the history is full the step would have appended an entry
pub returns-clause-full : goal.returns-clause-full
returns-clause-full g c =
    let state : WorldState = state_in c.self.inside in
    let was = c.index_mut-node.result.now in
    let at = at-index state c.args.worker was c.self.invariant.0 c.requires.worker c.index_mut-node.ensures.value in
    let full : IfErr c.call_alone.result (IsFullStep c.args.step.now state) =
    err-then c.call_alone.result (λ why on. full-at c.args.step.now state c.args.worker was why c.self.invariant.0 at on)
    c.call_alone.ensures.full in
    subst (λ (s : WorldState). IfErr c.call_alone.result (IsFullStep c.args.step.now s)) c.self.view_is full

use Rattle.std.proofs.Common.{◌≡◌, true, subst, sym, rules}
use Rattle.std.specs.Prelude.{IfErr, IfOk, None, OnErr, Some, nat_lt, slice_get, slice_set, unwrap_or}
use Rattle.list_lemmas.proofs.Told.{if-there}
use Rattle.run_history.specs.Cases.{CaseShape}
use Rattle.book.specs.OwnDesks.{own_view}
use Rattle.outbox.specs.Messages.{IsAddressed}
use Rattle.node.specs.Received.{outgoing_of}
use Rattle.node.specs.Workers.{worker_at}
use Rattle.node.specs.declared.outcome.Outcome.TheVariants as outcomes
use Rattle.plans.specs.declared.step.Step.TheVariants as steps
use Rattle.world.specs.scripts.Standing.{IsWorld}
use Rattle.world.specs.scripts.Stepping.{HasActed, HasFaulted, IsCausedBy}
use Rattle.world.specs.scripts.WorkerCalls.{IsFullStep, answered_in_place}
use Rattle.world.specs.scripts.WorldStates.{WorldState, state_in, world_of}
use Rattle.world.proofs.Results.{err-then, ok-then}
use Rattle.world.proofs.scripts.TakeLaws.{ready-of}
use Rattle.world.proofs.scripts.TakeSteps.{found-sent, take-far, take-left, take-not, taken-at, taken-rested, taken-stands}
use Rattle.world.proofs.scripts.WorkerLaws.{err-left}
use Rattle.world.proofs.scripts.WorldSteps.{at-index, changed, fits-index, work-moved}
use Rattle.world.specs.scripts.Worlds.{worker_of}
use Rattle.world.proofs.scripts.CauseLaws.{left-cause, world-cause}
use Rattle.world.proofs.scripts.FullSteps.{taken-full}
use Rattle.world.proofs.scripts.world.World.take.Goals as goal

-- no message is there
pub returns-in_default-clause-acted : goal.returns-in_default-clause-acted
returns-in_default-clause-acted g c =
    let state : WorldState = state_in c.self.inside in
    let at : unwrap_or (slice_get state.flight c.args.message) None ≡ None = search rules in
    subst (λ (s : WorldState). HasActed (steps.Take c.args.worker c.args.message) s s outcomes.Nothing) c.self.view_is
    (if-there state.book.rows (λ told. take-not state.book.case state c.args.worker c.args.message at))

-- it has relays to pass first
pub returns-then-to_pass-gt0-clause-acted : goal.returns-then-to_pass-gt0-clause-acted
returns-then-to_pass-gt0-clause-acted g c =
    let state : WorldState = state_in c.self.inside in
    let at : unwrap_or (slice_get state.flight c.args.message) None ≡ Some c.in-Some.found.now = search rules in
    let far : nat_lt 0 (unwrap_or (slice_get state.left c.args.message) 0) ≡ true = search rules in
    subst (λ (s : WorldState). HasActed (steps.Take c.args.worker c.args.message) s s outcomes.Nothing) c.self.view_is
    (if-there state.book.rows (λ told. take-far state.book.case state c.args.worker c.args.message c.in-Some.found.now at far))

-- the message goes to a row that may be there
pub answered_in_place-requires-clause-addressed : goal.answered_in_place-requires-clause-addressed
answered_in_place-requires-clause-addressed g c =
    let state : WorldState = state_in c.self.inside in
    let at : unwrap_or (slice_get state.flight c.args.message) None ≡ Some c.in-Some.found.now = search rules in
    subst (λ (k : CaseShape). IsAddressed k.topology (outgoing_of c.in-Some.found.now)) (sym c.case-case.ensures.case)
    (found-sent state c.args.message c.in-Some.found.now c.self.invariant.0 at).addressed

-- what the worker has prepared was handled
pub answered_in_place-requires-clause-ready : goal.answered_in_place-requires-clause-ready
answered_in_place-requires-clause-ready g c =
    let state : WorldState = state_in c.self.inside in
    ready-of state.book.case (own_view state.book) c.index-here.result.now
    (fits-index state c.args.worker c.index-here.result.now c.self.invariant.0 c.requires.worker c.index-here.ensures)

-- the message stays
pub returns-in-Some-answered_in_place-clause-acted : goal.returns-in-Some-answered_in_place-clause-acted
returns-in-Some-answered_in_place-clause-acted g c =
    let state : WorldState = state_in c.self.inside in
    let at : unwrap_or (slice_get state.flight c.args.message) None ≡ Some c.in-Some.found.now = search rules in
    let here = at-index state c.args.worker c.index-here.result.now c.self.invariant.0 c.requires.worker c.index-here.ensures in
    let passed : unwrap_or (slice_get state.left c.args.message) 0 ≡ 0 = search rules in
    let left : answered_in_place c.case-case.result.now.topology (worker_at c.index-here.result.now) (outgoing_of c.in-Some.found.now)
    ≡ Some c.in-Some-answered_in_place.outcome = search rules in
    subst (λ (s : WorldState). HasActed (steps.Take c.args.worker c.args.message) s s c.in-Some-answered_in_place.outcome) c.self.view_is
    (if-there state.book.rows (λ told. take-left state.book.case state c.args.worker c.args.message c.index-here.result.now
    c.in-Some.found.now c.in-Some-answered_in_place.outcome here at passed
    (subst (λ (k : CaseShape). answered_in_place k.topology (worker_at c.index-here.result.now) (outgoing_of c.in-Some.found.now)
    ≡ Some c.in-Some-answered_in_place.outcome) c.case-case.ensures.case left)))

-- the message may have been sent
pub receive-requires-clause-sent : goal.receive-requires-clause-sent
receive-requires-clause-sent g c =
    let state : WorldState = state_in c.self.inside in
    found-sent state c.args.message c.take_out-taken.result c.self.invariant.0 c.take_out-taken.ensures.taken

-- the worker fits its book
pub receive-requires-clause-fits : goal.receive-requires-clause-fits
receive-requires-clause-fits g c =
    let state : WorldState = state_in c.self.inside in
    fits-index state c.args.worker c.index_mut-node.result.now c.self.invariant.0 c.requires.worker c.index_mut-node.ensures.value

-- the world stands
pub invariant_of-self : goal.invariant_of-self
invariant_of-self g c =
    let state : WorldState = state_in c.self.inside in
    let was = c.index_mut-node.result.now in
    let here = at-index state c.args.worker was c.self.invariant.0 c.requires.worker c.index_mut-node.ensures.value in
    let called = c.receive.ensures.called in (
      subst (λ f. IsWorld (record state {
        book = c.receive.new.book;
        nodes = slice_set state.nodes c.args.worker c.receive.new.node;
        flight = f;
      })) (sym c.take_out-taken.ensures.gone)
          (taken-stands state c.receive.new.book c.args.worker c.args.message was c.receive.new.node c.self.invariant.0 here called),
      work-moved state.book.case c.receive.new.book.case called.grown.moved.case c.self.invariant.1,
    )

-- the message is taken as in the script
pub returns-clause-acted : goal.returns-clause-acted
returns-clause-acted g c =
    let state : WorldState = state_in c.self.inside in
    let was = c.index_mut-node.result.now in
    let here = at-index state c.args.worker was c.self.invariant.0 c.requires.worker c.index_mut-node.ensures.value in
    let new = changed state c.receive.new.book c.args.worker c.receive.new.node (slice_set state.flight c.args.message None) in
    let passed : unwrap_or (slice_get state.left c.args.message) 0 ≡ 0 = search rules in
    let acted : IfOk c.receive.result (HasActed (steps.Take c.args.worker c.args.message) state new) =
    ok-then c.receive.result (λ outcome takes. taken-at state c.receive.new.book c.args.worker c.args.message was c.receive.new.node
    c.take_out-taken.result outcome c.self.invariant.0 here c.take_out-taken.ensures.taken passed takes) c.receive.ensures.acted in
    subst (λ f. IfOk c.receive.result (HasActed (steps.Take c.args.worker c.args.message) c.args.self.now (record new { flight = f })))
    (sym c.take_out-taken.ensures.gone)
    (subst (λ (s : WorldState). IfOk c.receive.result (HasActed (steps.Take c.args.worker c.args.message) s new)) c.self.view_is acted)

-- a fault leaves all but the message
pub returns-clause-gone_or_same : goal.returns-clause-gone_or_same
returns-clause-gone_or_same g c =
    let state : WorldState = state_in c.self.inside in
    let was = c.index_mut-node.result.now in
    let here = at-index state c.args.worker was c.self.invariant.0 c.requires.worker c.index_mut-node.ensures.value in
    let new = changed state c.receive.new.book c.args.worker c.receive.new.node (slice_set state.flight c.args.message None) in
    let same : OnErr c.receive.result (HasFaulted (steps.Take c.args.worker c.args.message) state new) =
    err-left c.receive.result (λ rested. taken-rested state c.receive.new.book c.args.worker c.args.message was c.receive.new.node here rested)
    c.receive.ensures.rested in
    subst (λ f. OnErr c.receive.result (HasFaulted (steps.Take c.args.worker c.args.message) c.args.self.now (record new { flight = f })))
    (sym c.take_out-taken.ensures.gone)
    (subst (λ (s : WorldState). OnErr c.receive.result (HasFaulted (steps.Take c.args.worker c.args.message) s new)) c.self.view_is same)

-- a message that stays is answered without a number
pub returns-in-Some-answered_in_place-clause-cause : goal.returns-in-Some-answered_in_place-clause-cause
returns-in-Some-answered_in_place-clause-cause g c =
    let left : answered_in_place c.case-case.result.now.topology (worker_at c.index-here.result.now) (outgoing_of c.in-Some.found.now)
    ≡ Some c.in-Some-answered_in_place.outcome = search rules in
    left-cause c.case-case.result.now.topology (worker_at c.index-here.result.now) (outgoing_of c.in-Some.found.now)
    c.in-Some-answered_in_place.outcome left (worker_of (world_of c.args.self.now) c.args.worker) _ _

-- an answer to one that is taken has its cause
pub returns-clause-cause : goal.returns-clause-cause
returns-clause-cause g c =
    let state : WorldState = state_in c.self.inside in
    let was = c.index_mut-node.result.now in
    let after = c.receive.new.book.history in
    let here = at-index state c.args.worker was c.self.invariant.0 c.requires.worker c.index_mut-node.ensures.value in
    let cause : IfOk c.receive.result (IsCausedBy (worker_of (world_of state) c.args.worker) state.book.history after) =
    ok-then c.receive.result (λ outcome is. world-cause state after c.args.worker was outcome here is) c.receive.ensures.cause in
    subst (λ (s : WorldState). IfOk c.receive.result (IsCausedBy (worker_of (world_of s) c.args.worker) s.book.history after))
    c.self.view_is cause

-- where the history is full the step would have appended an entry
pub returns-clause-full : goal.returns-clause-full
returns-clause-full g c =
    let state : WorldState = state_in c.self.inside in
    let was = c.index_mut-node.result.now in
    let here = at-index state c.args.worker was c.self.invariant.0 c.requires.worker c.index_mut-node.ensures.value in
    let passed : unwrap_or (slice_get state.left c.args.message) 0 ≡ 0 = search rules in
    let full : IfErr c.receive.result (IsFullStep (steps.Take c.args.worker c.args.message) state) =
    err-then c.receive.result (λ why takes. taken-full state c.args.worker c.args.message was c.take_out-taken.result why
    c.self.invariant.0 here c.take_out-taken.ensures.taken passed takes) c.receive.ensures.full in
    subst (λ (s : WorldState). IfErr c.receive.result (IsFullStep (steps.Take c.args.worker c.args.message) s)) c.self.view_is full

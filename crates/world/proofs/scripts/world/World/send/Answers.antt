use Rattle.std.proofs.Common.{◌≡◌, ◌∙◌, List, ap, arith, length, subst, sym, ℕ}
use Rattle.std.specs.Prelude.{IfOk, OnErr}
use Rattle.std.proofs.lemmas.List.{length-map}
use Rattle.list_lemmas.proofs.Lists.{some_same}
use Rattle.node.specs.Workers.{NodeView}
use Rattle.plans.specs.declared.step.Step.TheVariants as steps
use Rattle.world.specs.scripts.Relaying.{sent_left}
use Rattle.world.specs.scripts.Standing.{IsWorld}
use Rattle.world.specs.scripts.Stepping.{HasActed}
use Rattle.world.specs.scripts.WorkerCalls.{HasGoneOn}
use Rattle.world.specs.scripts.WorldStates.{WorldState, flight_of, noteless, state_in, world_of}
use Rattle.world.specs.scripts.Worlds.{worker_of}
use Rattle.world.proofs.Results.{err-then, ok-then}
use Rattle.world.proofs.scripts.FullSteps.{step-not-full}
use Rattle.world.proofs.scripts.OnWays.{on_way-sized}
use Rattle.world.proofs.scripts.SendWorlds.{sent-at, sent-most, sent-routed, sent-stands, sent_world, unsent-at}
use Rattle.world.proofs.scripts.WorkerLaws.{err-three}
use Rattle.world.proofs.scripts.WorldSteps.{at-index, fits-index, gone-at, work-moved}
use Rattle.world.proofs.scripts.world.World.send.Goals as goal

-- the worker fits its book
pub send-answer-requires-clause-fits : goal.send-answer-requires-clause-fits
send-answer-requires-clause-fits g c =
    let state : WorldState = state_in c.self.inside in
    fits-index state c.args.worker c.index_mut-node.result.now c.self.invariant.0 c.requires.worker c.index_mut-node.ensures.value

-- the messages that are noted are in flight
pub note_sent-requires-clause-behind : goal.note_sent-requires-clause-behind
note_sent-requires-clause-behind g c =
    let state : WorldState = state_in c.self.inside in
    let most = sent-most (length c.index_mut-node.result.now.outbox) state.flight c.send-answer.new.flight.items c.send-answer.ensures.sent in
    let same = ap (λ (l : List ℕ). length l) c.make_places.ensures.same in
    let sized = on_way-sized state.routes (flight_of state.flight) state.left c.self.invariant.0.on_way in
    let notes = length-map state.flight noteless in
    omega (arith, most.0, same, sized, notes)

-- there is room for the others
pub note_sent-requires-clause-room : goal.note_sent-requires-clause-room
note_sent-requires-clause-room g c =
    let state : WorldState = state_in c.self.inside in
    let was = c.index_mut-node.result.now in
    let most = sent-most (length was.outbox) state.flight c.send-answer.new.flight.items c.send-answer.ensures.sent in
    let same = ap (λ (l : List ℕ). length l) c.make_places.ensures.same in
    let sized = on_way-sized state.routes (flight_of state.flight) state.left c.self.invariant.0.on_way in
    let notes = length-map state.flight noteless in
    let asked = c.index.result.now in
    let one : asked ≡ was = some_same asked was
    (sym (at-index state c.args.worker asked c.self.invariant.0 c.requires.worker c.index.ensures)
    ∙ at-index state c.args.worker was c.self.invariant.0 c.requires.worker c.index_mut-node.ensures.value) in
    let count : c.unsent-count.result ≡ length was.outbox =
    c.unsent-count.ensures.unsent ∙ ap (λ (n : NodeView). length n.outbox) one in
    let room = c.in_ok-make_places.ensures.room in
    omega (arith, most.1, same, sized, notes, count, room)

-- their producers have routes
pub note_sent-requires-clause-routed : goal.note_sent-requires-clause-routed
note_sent-requires-clause-routed g c =
    let state : WorldState = state_in c.self.inside in
    sent-routed state c.send-answer.new.book c.index_mut-node.result.now c.send-answer.new.node c.send-answer.new.flight.items
    c.self.invariant.0 c.send-answer.ensures.called c.send-answer.ensures.flying

-- the world stands
pub invariant_of-self-2 : goal.invariant_of-self-2
invariant_of-self-2 g c =
    let state : WorldState = state_in c.self.inside in
    let was = c.index_mut-node.result.now in
    let after = c.send-answer.new.flight.items in
    let at = at-index state c.args.worker was c.self.invariant.0 c.requires.worker c.index_mut-node.ensures.value in
    let left : c.note_sent.new.left.items ≡ sent_left state.routes (flight_of after) state.left =
    c.note_sent.ensures ∙ ap (λ l. sent_left state.routes (flight_of after) l) c.make_places.ensures.same in
    let called = c.send-answer.ensures.called in (
      subst (λ (l : List ℕ). IsWorld (record (sent_world state c.send-answer.new.book c.args.worker c.send-answer.new.node after) { left = l }))
          (sym left)
          (sent-stands state c.send-answer.new.book c.args.worker (length was.outbox) was c.send-answer.new.node after
          c.self.invariant.0 at called c.send-answer.ensures.sent c.send-answer.ensures.flying c.send-answer.ensures.few),
      work-moved state.book.case c.send-answer.new.book.case called.grown.moved.case c.self.invariant.1,
    )

-- all is sent as in the script
pub returns-clause-acted : goal.returns-clause-acted
returns-clause-acted g c =
    let state : WorldState = state_in c.self.inside in
    let was = c.index_mut-node.result.now in
    let after = c.send-answer.new.flight.items in
    let new = sent_world state c.send-answer.new.book c.args.worker c.send-answer.new.node after in
    let at = at-index state c.args.worker was c.self.invariant.0 c.requires.worker c.index_mut-node.ensures.value in
    let left : c.note_sent.new.left.items ≡ sent_left state.routes (flight_of after) state.left =
    c.note_sent.ensures ∙ ap (λ l. sent_left state.routes (flight_of after) l) c.make_places.ensures.same in
    let acted : IfOk c.send-answer.result (HasActed (steps.Send c.args.worker) state new) =
    ok-then c.send-answer.result (λ outcome sends. sent-at state c.send-answer.new.book c.args.worker was c.send-answer.new.node after
    outcome c.self.invariant.0 at sends) c.send-answer.ensures.acted in
    subst (λ (l : List ℕ). IfOk c.send-answer.result (HasActed (steps.Send c.args.worker) c.args.self.now (record new { left = l }))) (sym left)
    (subst (λ (s : WorldState). IfOk c.send-answer.result (HasActed (steps.Send c.args.worker) s new)) c.self.view_is acted)

-- the world goes on
pub returns-clause-gone : goal.returns-clause-gone
returns-clause-gone g c =
    let state : WorldState = state_in c.self.inside in
    let after = c.send-answer.new.flight.items in
    let new = sent_world state c.send-answer.new.book c.args.worker c.send-answer.new.node after in
    let left : c.note_sent.new.left.items ≡ sent_left state.routes (flight_of after) state.left =
    c.note_sent.ensures ∙ ap (λ l. sent_left state.routes (flight_of after) l) c.make_places.ensures.same in
    let gone = gone-at state c.send-answer.new.book c.args.worker c.index_mut-node.result.now c.send-answer.new.node after
    c.send-answer.ensures.called in
    subst (λ (l : List ℕ). HasGoneOn c.args.self.now (record new { left = l })) (sym left)
    (subst (λ (s : WorldState). HasGoneOn s new) c.self.view_is (record { own = gone.own; stepped = gone.stepped; routes = gone.routes }))

-- a lack of memory leaves all as it was
pub returns-clause-same : goal.returns-clause-same
returns-clause-same g c =
    let state : WorldState = state_in c.self.inside in
    let was = c.index_mut-node.result.now in
    let after = c.send-answer.new.flight.items in
    let new = sent_world state c.send-answer.new.book c.args.worker c.send-answer.new.node after in
    let at = at-index state c.args.worker was c.self.invariant.0 c.requires.worker c.index_mut-node.ensures.value in
    let left : c.note_sent.new.left.items ≡ sent_left state.routes (flight_of after) state.left =
    c.note_sent.ensures ∙ ap (λ l. sent_left state.routes (flight_of after) l) c.make_places.ensures.same in
    let same : OnErr c.send-answer.result (world_of new ≡ world_of state) =
    err-three c.send-answer.result (λ unsent kept unchanged. unsent-at state c.send-answer.new.book c.args.worker was
    c.send-answer.new.node after c.self.invariant.0 at unsent kept unchanged) c.send-answer.ensures.unsent c.send-answer.ensures.kept
    c.send-answer.ensures.unchanged in
    subst (λ (l : List ℕ). OnErr c.send-answer.result (world_of (record new { left = l }) ≡ world_of c.args.self.now)) (sym left)
    (subst (λ (s : WorldState). OnErr c.send-answer.result (world_of new ≡ world_of s)) c.self.view_is same)

-- its answer names no number that wants a cause
pub returns-clause-cause : goal.returns-clause-cause
returns-clause-cause g c =
    ok-then c.send-answer.result (λ outcome names. names (worker_of (world_of c.args.self.now) c.args.worker) _ _) c.send-answer.ensures.cause

-- what is sent appends nothing
pub returns-clause-full : goal.returns-clause-full
returns-clause-full g c =
    err-then c.send-answer.result (λ why is. step-not-full (steps.Send c.args.worker) c.args.self.now why is)
    c.send-answer.ensures.no_memory

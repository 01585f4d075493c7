use Rattle.std.proofs.Common.{◌≡◌, ◌∙◌, List, ℕ, ap, length, subst, sym}
use Rattle.std.specs.Prelude.{IfOk, OnErr}
use Rattle.node.specs.Workers.{idle}
use Rattle.plans.specs.declared.step.Step.TheVariants as steps
use Rattle.world.specs.scripts.Relaying.{copied_left}
use Rattle.world.specs.scripts.Standing.{IsWorld}
use Rattle.world.specs.scripts.Stepping.{HasActed}
use Rattle.world.specs.scripts.WorldStates.{WorldState, state_in, world_of}
use Rattle.world.proofs.Results.{err-then, ok-then}
use Rattle.world.proofs.scripts.CopyWorlds.{copied-at, copied-stands, copied_world, uncopied-at}
use Rattle.world.proofs.scripts.FullSteps.{step-not-full}
use Rattle.world.proofs.scripts.WorkerLaws.{err-left}
use Rattle.world.proofs.scripts.world.World.repeat.Goals as goal

-- the world stands
pub invariant_of-self-2 : goal.invariant_of-self-2
invariant_of-self-2 g c =
    let state : WorldState = state_in c.self.inside in
    let flight = c.repeat-answer.new.flight.items in
    let left : c.note_copied.new.left.items ≡ copied_left c.args.message (length flight) state.left =
    c.note_copied.ensures ∙ ap (λ l. copied_left c.args.message (length flight) l) c.make_places.ensures.same in (
      subst (λ (l : List ℕ). IsWorld (record state { flight = flight; left = l })) (sym left)
          (copied-stands state c.args.message flight c.self.invariant.0 c.repeat-answer.ensures.copied
          (c.repeat-answer.ensures.flying state.book c.self.invariant.0.flying) c.repeat-answer.ensures.few),
      c.self.invariant.1,
    )

-- a message is copied as in the script
pub returns-clause-acted : goal.returns-clause-acted
returns-clause-acted g c =
    let state : WorldState = state_in c.self.inside in
    let flight = c.repeat-answer.new.flight.items in
    let left : c.note_copied.new.left.items ≡ copied_left c.args.message (length flight) state.left =
    c.note_copied.ensures ∙ ap (λ l. copied_left c.args.message (length flight) l) c.make_places.ensures.same in
    let acted : IfOk c.repeat-answer.result (HasActed (steps.Repeat c.args.message) state (copied_world state c.args.message flight)) =
    ok-then c.repeat-answer.result (λ outcome copies. copied-at state c.args.message flight outcome c.self.invariant.0 copies)
    c.repeat-answer.ensures.acted in
    subst (λ (l : List ℕ). IfOk c.repeat-answer.result
    (HasActed (steps.Repeat c.args.message) c.args.self.now (record state { flight = flight; left = l }))) (sym left)
    (subst (λ (s : WorldState). IfOk c.repeat-answer.result
    (HasActed (steps.Repeat c.args.message) s (copied_world state c.args.message flight))) c.self.view_is acted)

-- want of memory leaves all as it was
pub returns-clause-same : goal.returns-clause-same
returns-clause-same g c =
    let state : WorldState = state_in c.self.inside in
    let flight = c.repeat-answer.new.flight.items in
    let left : c.note_copied.new.left.items ≡ copied_left c.args.message (length flight) state.left =
    c.note_copied.ensures ∙ ap (λ l. copied_left c.args.message (length flight) l) c.make_places.ensures.same in
    let same : OnErr c.repeat-answer.result (world_of (copied_world state c.args.message flight) ≡ world_of state) =
    err-left c.repeat-answer.result (λ unchanged. uncopied-at state c.args.message flight c.self.invariant.0 unchanged)
    c.repeat-answer.ensures.unchanged in
    subst (λ (l : List ℕ). OnErr c.repeat-answer.result
    (world_of (record state { flight = flight; left = l }) ≡ world_of c.args.self.now)) (sym left)
    (subst (λ (s : WorldState). OnErr c.repeat-answer.result (world_of (copied_world state c.args.message flight) ≡ world_of s))
    c.self.view_is same)

-- its answer names no number that wants a cause
pub returns-clause-cause : goal.returns-clause-cause
returns-clause-cause g c = ok-then c.repeat-answer.result (λ outcome names. names idle _ _) c.repeat-answer.ensures.cause

-- a copy appends nothing
pub returns-clause-full : goal.returns-clause-full
returns-clause-full g c =
    err-then c.repeat-answer.result (λ why is. step-not-full (steps.Repeat c.args.message) c.args.self.now why is)
    c.repeat-answer.ensures.no_memory

-- Why a worker answers as it does, over every keeper, by the clauses of its calls.
use Rattle.std.proofs.Common.{◌≡◌, ◌∙◌, ◌+◌, ◌++◌, ◌∷◌, ℕ, Bool, true, false, List, [], length, refl, sym, ap, subst, arith}
use Rattle.std.specs.Prelude.{Option, None, Some, IfSome, if◌then◌else◌, slice_get, unwrap_or}
use Rattle.std.specs.Option.{is_some, option_and_then, option_map, option_map_or}
use Rattle.std.proofs.lemmas.List.{length_push}
use Rattle.mw_types.specs.Outcomes.{EffectsView}
use Rattle.mw_types.specs.declared.delivery.Delivery.{Delivery}
use Rattle.mw_types.specs.declared.entry.Entry.{Entry}
use Rattle.mw_types.specs.declared.entry.Entry.TheVariants as entries
use Rattle.topology.specs.Shapes.{Shape}
use Rattle.row_parts.specs.Contents.{is_finished}
use Rattle.run_history.specs.Cases.{CaseShape}
use Rattle.run_history.specs.Fences.{is_claim}
use Rattle.list_lemmas.proofs.Lists.{none_some, some_same}
use Rattle.book.specs.Books.{BookView, LeaseView}
use Rattle.book.specs.OwnDesks.{own_view}
use Rattle.book.specs.declared.proposal.Proposal.{Proposal}
use Rattle.book.specs.declared.proposal.Proposal.TheVariants as proposals
use Rattle.holdings.specs.Holding.{HeldView, held_at, held_on, row_held}
use Rattle.node.specs.Answers.{AnswersAck, AnswersAckOf, AnswersAsked, AnswersClaim, AnswersReport, AnswersReportOf, AnswersSome, AnswersSweep, AnswersWrite, IsLost, IsTurnedAway, received, taken_from}
use Rattle.node.specs.Asking.{MayAskFire, MayAskPurge, Request, handled_as, line_asked, proposed, settling, work_asked}
use Rattle.node.specs.Workers.{NodeView, WorkView, Worker, idle, with_outgoing, worker_at}
use Rattle.node.specs.declared.outcome.Outcome.{Outcome}
use Rattle.node.specs.declared.outcome.Outcome.TheVariants as outcomes
use Rattle.outbox.specs.declared.outgoing.Outgoing.{Outgoing}
use Rattle.outbox.specs.declared.outgoing.Outgoing.TheVariants as outgoing
use Rattle.node.proofs.FitLaws.{held-interval}
use Rattle.world.specs.scripts.Acts.{must_wait}
use Rattle.world.specs.scripts.Worlds.{World, lease_of, lease_on, row_of_message, worker_of}
use Rattle.plans.specs.declared.step.Step.{Step}
use Rattle.plans.specs.declared.step.Step.TheVariants as steps
use Rattle.world.proofs.drains.CallLaws.{forget-own, settling-own}
use Rattle.world.proofs.drains.InjectLaws.{line-own}
use Rattle.world.proofs.drains.TurnLaws.{IsOwnRequest, lease-held, moved-before}
use Rattle.world.specs.scripts.Standing.{FitsOwn}
use Rattle.world.specs.scripts.Stepping.{IsCausedBy, NamesNone, worker_of_step}
use Rattle.world.specs.scripts.WorkerCalls.{IsAlone, answered_in_place}
use Rattle.world.specs.scripts.WorldStates.{WorldState, world_of}
use Rattle.world.proofs.scripts.WorldStands.{worker-at}
use Rattle.world.proofs.scripts.deeds.Left.{not-behind}

-- ---- the leases of a worker

-- a lease, by its interval and its number
abbrev lease_at : ℕ → ℕ → LeaseView
lease_at interval seq = record { interval = interval; seq = seq }

-- the lease of what is held is one of the worker's
held-own : (book : BookView) (was : NodeView) (interval : ℕ) (held : HeldView) → FitsOwn book was → held_at was.held interval ≡ Some held
    → lease_of (worker_at was) held.lease.interval ≡ Some held.lease
held-own book was interval held fits at =
    ap (option_map (lease_at held.lease.interval))
    (lease-held was.held held.lease.interval held (ap (held_at was.held) (fits.held.each interval held at).of_interval ∙ at))

-- so is that of a request
request-own : (book : BookView) (was : NodeView) (shape : Shape) (asked : Request) → FitsOwn book was → IsOwnRequest shape was.held asked
    → lease_of (worker_at was) asked.lease.interval ≡ Some asked.lease
request-own book was shape asked fits own =
    let on = held-interval shape was.held own.name own.held own.on in
    subst (λ (l : LeaseView). lease_of (worker_at was) l.interval ≡ Some l) (sym own.lease) (held-own book was on.0 own.held fits on.2)

-- ---- what names a number

-- a claim that has overtaken a lease of the worker's
lost-cause : (shape : Shape) (old new : BookView) (lease : LeaseView) (was node : NodeView) (newer : ℕ)
    → lease_of (worker_at was) lease.interval ≡ Some lease → IsLost shape (own_view old) (own_view new) lease was node newer
    → IsCausedBy (worker_at was) old.history new.history (outcomes.Stale newer)
lost-cause shape old new lease was node newer own gone = (lease, own, gone.claim)

-- no other has the turn of a desk that is alone
never-away : (old new : BookView) (lease : LeaseView) (was node : NodeView) (found : ℕ)
    → IsTurnedAway (own_view old) (own_view new) lease was node found → ⊥
never-away old new lease was node found away =
    not-behind away.refused.asked.missed found (away.refused.reason.counts.busy found refl)

-- an entry that was appended behind a history
appended-cause : (before after : List Entry) (entry : Entry) (commit : ℕ) → after ≡ before ++ entry ∷ [] → commit ≡ length before
    → length after ≡ commit + 1
appended-cause before after entry commit appended number =
    let long : length after ≡ length (before ++ entry ∷ []) = ap length appended in
    let one : length (before ++ entry ∷ []) ≡ length before + 1 = length_push before entry in
    omega (arith, long, one, number)

-- an entry that was asked for under a lease of the worker's
write-cause : (shape : Shape) (old new : BookView) (asked : Request) (after : Worker) (was node : NodeView) (outcome : Outcome)
    → lease_of (worker_at was) asked.lease.interval ≡ Some asked.lease
    → AnswersWrite shape (own_view old) (own_view new) asked after was node outcome
    → IsCausedBy (worker_at was) old.history new.history outcome
write-cause shape old new asked after was node (outcomes.Committed commit) own is = (
  is.number ∙ ap length (moved-before old new is.before is.moved),
  appended-cause is.before new.history asked.entry commit is.appended is.number,
)
write-cause shape old new asked after was node (outcomes.Stale newer) own is =
    lost-cause shape old new asked.lease was node newer own is
write-cause shape old new asked after was node (outcomes.Busy found) own is =
    absurd (never-away old new asked.lease was node found is)
write-cause shape old new asked after was node _ own is = absurd is

-- an entry that is asked for, if there is one
pub asked-cause : (shape : Shape) (old new : BookView) (asked : Option Request) (after : Worker) (was node : NodeView)
    (outcome : Outcome) → FitsOwn old was → IfSome asked (IsOwnRequest shape was.held)
    → AnswersAsked shape (own_view old) (own_view new) asked after was node outcome
    → IsCausedBy (worker_at was) old.history new.history outcome
asked-cause shape old new None after was node outcome fits own is =
    subst (IsCausedBy (worker_at was) old.history new.history) (sym is.0) tt
asked-cause shape old new (Some asked) after was node outcome fits own is =
    write-cause shape old new asked after was node outcome (request-own old was shape asked fits own) is

-- an entry for which a worker may ask, if there is one
some-cause : (shape : Shape) (old new : BookView) (MayAsk : Request → Type 0) (was node : NodeView) (outcome : Outcome)
    → FitsOwn old was → ((asked : Request) → MayAsk asked → IsOwnRequest shape was.held asked)
    → AnswersSome shape (own_view old) (own_view new) MayAsk was node outcome
    → IsCausedBy (worker_at was) old.history new.history outcome
some-cause shape old new MayAsk was node outcomes.Nothing fits own is = tt
some-cause shape old new MayAsk was node outcome fits own (asked, may, is) =
    write-cause shape old new asked (worker_at was) was node outcome (request-own old was shape asked fits (own asked may)) is

-- ---- the calls of a worker

-- a claim
pub claim-cause : (shape : Shape) (old new : BookView) (interval : ℕ) (was node : NodeView) (outcome : Outcome)
    → AnswersClaim shape (own_view old) (own_view new) interval was node outcome
    → IsCausedBy (worker_at was) old.history new.history outcome
claim-cause shape old new interval was node (outcomes.Claimed seq) is = (
  is.number ∙ ap length (moved-before old new is.before is.moved),
  appended-cause is.before new.history (entries.Claim was.number interval) seq is.appended is.number,
)
claim-cause shape old new interval was node (outcomes.Busy found) is = absurd (not-behind [] found (is.1.counts.busy found refl))
claim-cause shape old new interval was node _ is = absurd is

-- a line
pub line-cause : (case : CaseShape) (old new : BookView) (part : ℕ) (was node : NodeView) (outcome : Outcome) → FitsOwn old was
    → AnswersAsked case.topology (own_view old) (own_view new) (line_asked case was part) (worker_at was) was node outcome
    → IsCausedBy (worker_at was) old.history new.history outcome
line-cause case old new part was node outcome fits is =
    asked-cause case.topology old new (line_asked case was part) (worker_at was) was node outcome fits (line-own case was part) is

-- what is prepared is asked for under the lease of its row
work-own : (shape : Shape) (was : NodeView) → IfSome (work_asked shape was) (IsOwnRequest shape was.held)
work-own shape was = by_work was.prepared
  where
    by_held : (d : Delivery) (effects : EffectsView) (o : Option HeldView) → held_on shape was.held d.to ≡ o
        → IfSome (option_map (handled_as d effects) o) (IsOwnRequest shape was.held)
    by_held d effects None on = tt
    by_held d effects (Some held) on = record { name = d.to; held = held; on = on; lease = refl; write = λ interval. refl }

    by_proposal : (p : Proposal) → IfSome (proposed shape was.held p) (IsOwnRequest shape was.held)
    by_proposal (proposals.Handle d effects) = by_held d effects (held_on shape was.held d.to) refl
    by_proposal _ = tt

    by_work : (o : Option WorkView)
        → IfSome (option_and_then (λ (work : WorkView). proposed shape was.held work.proposal) o) (IsOwnRequest shape was.held)
    by_work None = tt
    by_work (Some work) = by_proposal work.proposal

-- what is prepared
pub work-cause : (shape : Shape) (old new : BookView) (after : Worker) (was node : NodeView) (outcome : Outcome) → FitsOwn old was
    → AnswersAsked shape (own_view old) (own_view new) (work_asked shape was) after was node outcome
    → IsCausedBy (worker_at was) old.history new.history outcome
work-cause shape old new after was node outcome fits is =
    asked-cause shape old new (work_asked shape was) after was node outcome fits (work-own shape was) is

-- a timer
pub fire-cause : (case : CaseShape) (old new : BookView) (part mark : ℕ) (was node : NodeView) (outcome : Outcome) → FitsOwn old was
    → AnswersSome case.topology (own_view old) (own_view new) (MayAskFire case was part mark) was node outcome
    → IsCausedBy (worker_at was) old.history new.history outcome
fire-cause case old new part mark was node outcome fits is =
    some-cause case.topology old new (MayAskFire case was part mark) was node outcome fits
    (λ asked may. record {
      name = may.name;
      held = may.next.set.held;
      on = may.next.set.there;
      lease = ap (λ (a : Request). a.lease) may.request;
      write = λ interval. ap (λ (a : Request). is_claim interval a.entry) may.request;
    }) is

-- a purge
pub purge-cause : (shape : Shape) (old new : BookView) (interval many floor : ℕ) (was node : NodeView) (outcome : Outcome)
    → FitsOwn old was → AnswersSome shape (own_view old) (own_view new) (MayAskPurge shape was interval many floor) was node outcome
    → IsCausedBy (worker_at was) old.history new.history outcome
purge-cause shape old new interval many floor was node outcome fits is =
    some-cause shape old new (MayAskPurge shape was interval many floor) was node outcome fits
    (λ asked may. forget-own shape was many floor may.name asked may.may) is

-- a report
pub report-cause : (case : CaseShape) (old new : BookView) (interval : ℕ) (was node : NodeView) (outcome : Outcome) → FitsOwn old was
    → AnswersReport case (own_view old) (own_view new) (held_at was.held interval) was node outcome
    → IsCausedBy (worker_at was) old.history new.history outcome
report-cause case old new interval was node outcome fits is = by_held (held_at was.held interval) refl is
  where
    by_outcome : (held : HeldView) → held_at was.held interval ≡ Some held → (o : Outcome)
        → AnswersReportOf case (own_view old) (own_view new) held was node o → IsCausedBy (worker_at was) old.history new.history o
    by_outcome held at (outcomes.Marked mark) answers = tt
    by_outcome held at (outcomes.Stale newer) answers =
        lost-cause case.topology old new held.lease was node newer (held-own old was interval held fits at) answers
    by_outcome held at (outcomes.Busy found) answers = absurd (never-away old new held.lease was node found answers)
    by_outcome held at _ answers = absurd answers

    by_held : (o : Option HeldView) → held_at was.held interval ≡ o
        → AnswersReport case (own_view old) (own_view new) o was node outcome → IsCausedBy (worker_at was) old.history new.history outcome
    by_held None at answers = subst (IsCausedBy (worker_at was) old.history new.history) (sym answers.0) tt
    by_held (Some held) at answers = by_outcome held at outcome answers

-- word that a record was handled
pub ack-cause : (shape : Shape) (old new : BookView) (taken : Outgoing) (was node : NodeView) (outcome : Outcome) → FitsOwn old was
    → AnswersAckOf shape (own_view old) (own_view new) taken was node outcome
    → IsCausedBy (worker_at was) old.history new.history outcome
ack-cause shape old new (outgoing.Deliver delivery sender) was node outcome fits is = absurd is
ack-cause shape old new (outgoing.Ack to id) was node outcome fits is = by_held (held_on shape was.held to) refl is
  where
    by_held : (o : Option HeldView) → held_on shape was.held to ≡ o
        → AnswersAck shape (own_view old) (own_view new) o to id was node outcome
        → IsCausedBy (worker_at was) old.history new.history outcome
    by_held None on answers = subst (IsCausedBy (worker_at was) old.history new.history) (sym answers.0) tt
    by_held (Some held) on answers = asked-cause shape old new (settling shape to id held) (worker_at was) was node outcome fits
        (settling-own shape was.held to id held on) answers

-- what is sent again
pub swept-cause : (old : BookView) (was node : NodeView) (outcome : Outcome) → AnswersSweep (own_view old) was node outcome
    → IsCausedBy (worker_at was) old.history old.history outcome
swept-cause old was node (outcomes.Queued count) is = tt
swept-cause old was node _ is = absurd is

-- ---- what names none

-- the answer alone
abbrev answered : Outcome × Worker → Outcome
answered (outcome, worker) = outcome

-- a worker that took a record names none
taken-names : (shape : Shape) (was : NodeView) (taken : Outgoing) → NamesNone (answered (taken_from shape was taken))
taken-names shape was (outgoing.Ack to id) = λ worker old new. tt
taken-names shape was (outgoing.Deliver delivery sender) = by_free (is_some was.prepared)
  where
    by_finished : (b : Bool) → NamesNone (answered (if b
        then (outcomes.Duplicate, with_outgoing (outgoing.Ack sender delivery.id ∷ []) (worker_at was))
        else (
          outcomes.Prepared,
          record (worker_at was) { prepared = Some (record { delivery = delivery; sender = sender }) },
        )))
    by_finished true = λ worker old new. tt
    by_finished false = λ worker old new. tt

    by_held : (o : Option HeldView) → NamesNone (answered (option_map_or (received shape was delivery sender) o
        (outcomes.NotMine, worker_at was)))
    by_held None = λ worker old new. tt
    by_held (Some held) = by_finished (is_finished delivery.id (row_held shape held delivery.to))

    by_free : (b : Bool) → NamesNone (answered (if b then (outcomes.Nothing, worker_at was) else
        option_map_or (received shape was delivery sender) (held_on shape was.held delivery.to)
        (outcomes.NotMine, worker_at was)))
    by_free true = λ worker old new. tt
    by_free false = by_held (held_on shape was.held delivery.to)

-- so does one that is answered so
pub taken-cause : (shape : Shape) (old new : BookView) (was node : NodeView) (taken : Outgoing) (outcome : Outcome)
    → (outcome, worker_at node) ≡ taken_from shape was taken → IsCausedBy (worker_at was) old.history new.history outcome
taken-cause shape old new was node taken outcome is =
    subst NamesNone (sym (ap answered is)) (taken-names shape was taken) (worker_at was) old.history new.history

-- and a message that stays in flight
pub left-cause : (shape : Shape) (worker : Worker) (taken : Outgoing) (outcome : Outcome)
    → answered_in_place shape worker taken ≡ Some outcome → NamesNone outcome
left-cause shape worker taken outcome is =
    by_tests (must_wait worker taken) (lease_on shape worker (row_of_message taken)) is
  where
    by_tests : (b : Bool) (o : Option LeaseView)
        → (if b then Some outcomes.Nothing else option_map_or (λ (lease : LeaseView). None) o (Some outcomes.NotMine)) ≡ Some outcome
        → NamesNone outcome
    by_tests true o e = subst NamesNone (some_same outcomes.Nothing outcome e) (λ worker old new. tt)
    by_tests false None e = subst NamesNone (some_same outcomes.NotMine outcome e) (λ worker old new. tt)
    by_tests false (Some lease) e = absurd (none_some outcome e)

-- ---- in a world

-- the worker that does a step without a message
step-worker : (world : World) (number : ℕ) (step : Step) → IsAlone number step → worker_of_step world step ≡ worker_of world number
step-worker world number (steps.Claim worker interval) same = ap (worker_of world) same
step-worker world number (steps.Inject worker part) same = ap (worker_of world) same
step-worker world number (steps.Write worker) same = ap (worker_of world) same
step-worker world number (steps.Fire worker part) same = ap (worker_of world) same
step-worker world number (steps.Report worker interval) same = ap (worker_of world) same
step-worker world number (steps.Resend worker) same = ap (worker_of world) same
step-worker world number (steps.Purge worker interval) same = ap (worker_of world) same
step-worker world number (steps.Crash worker) same = ap (worker_of world) same
step-worker world number _ same = absurd same

-- the worker of a world under a number
node-worker : (state : WorldState) (number : ℕ) (was : NodeView) → slice_get state.nodes number ≡ Some was
    → worker_of (world_of state) number ≡ worker_at was
node-worker state number was at = ap (λ (o : Option Worker). unwrap_or o idle) (worker-at state.nodes number was at)

-- what a worker answered is answered in its world
pub world-cause : (state : WorldState) (after : List Entry) (number : ℕ) (was : NodeView) (outcome : Outcome)
    → slice_get state.nodes number ≡ Some was → IsCausedBy (worker_at was) state.book.history after outcome
    → IsCausedBy (worker_of (world_of state) number) state.book.history after outcome
world-cause state after number was outcome at is =
    subst (λ (w : Worker). IsCausedBy w state.book.history after outcome) (sym (node-worker state number was at)) is

-- and so to a step that it does without a message
pub alone-cause : (state : WorldState) (after : List Entry) (number : ℕ) (was : NodeView) (step : Step) (outcome : Outcome)
    → slice_get state.nodes number ≡ Some was → IsAlone number step → IsCausedBy (worker_at was) state.book.history after outcome
    → IsCausedBy (worker_of_step (world_of state) step) state.book.history after outcome
alone-cause state after number was step outcome at alone is =
    subst (λ (w : Worker). IsCausedBy w state.book.history after outcome) (sym (step-worker (world_of state) number step alone))
    (world-cause state after number was outcome at is)

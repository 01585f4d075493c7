-- A call that failed since the history is full: its step would have appended an entry.
use Rattle.std.proofs.Common.{◌≡◌, ◌∙◌, ◌++◌, ◌∷◌, [], ℕ, List, inl, inr, refl, sym, ap, subst}
use Rattle.std.specs.Prelude.{Err, IfErr, None, Option, Result, Some, slice_get, unwrap_or}
use Rattle.std.specs.Option.{option_and_then}
use Rattle.list_lemmas.proofs.Told.{if-there}
use Rattle.mw_types.specs.declared.entry.Entry.{Entry}
use Rattle.mw_types.specs.declared.entry.Entry.TheVariants as entries
use Rattle.mw_types.specs.declared.identity.RecordId.{RecordId}
use Rattle.mw_types.specs.declared.identity.RowName.{RowName}
use Rattle.topology.specs.Shapes.{Shape}
use Rattle.run_history.specs.Cases.{CaseShape}
use Rattle.run_history.specs.Fences.{IsCurrent}
use Rattle.watermark.specs.Marks.{marks_of}
use Rattle.run_history.specs.Watermarks.{least}
use Rattle.run_history.specs.Legal.{floor_of}
use Rattle.run_history.specs.Runs.{run_of}
use Rattle.book.specs.Books.{BookView, LeaseView, core_of}
use Rattle.book.specs.Desks.{HasLooked, KeepsMarks}
use Rattle.book.specs.Lawful.{IsLawful}
use Rattle.book.specs.OwnDesks.{own_view}
use Rattle.book.specs.declared.desk_refusal.DeskRefusal.TheVariants as refusals
use Rattle.book.specs.declared.own_desk.NoNote.{NoNote}
use Rattle.holdings.specs.Holding.{HeldView, held_on}
use Rattle.node.specs.Answers.{FailsAsked, FailsFire, FailsPurge, FailsSome, IsRefused}
use Rattle.node.specs.Asking.{MayAskFire, MayAskPurge, Request, ack_asked, line_asked, settling, work_asked}
use Rattle.node.specs.Received.{outgoing_of}
use Rattle.node.specs.Workers.{NodeView, Worker, sending_of, with_written, worker_at}
use Rattle.node.specs.declared.message.Message.{Message}
use Rattle.node.specs.declared.outcome.NodeFault.{NodeFault}
use Rattle.node.specs.declared.outcome.NodeFault.TheVariants as faults
use Rattle.node.specs.declared.outcome.Outcome.{Outcome}
use Rattle.outbox.specs.declared.outgoing.Outgoing.{Outgoing}
use Rattle.outbox.specs.declared.outgoing.Outgoing.TheVariants as outgoing
use Rattle.world.specs.scripts.Acts.{Acted, Deed, done, fire, inject, purge, without_message, write, writes}
use Rattle.world.specs.scripts.Worlds.{World, to_pass, worker_of}
use Rattle.plans.specs.declared.step.Step.{Step}
use Rattle.plans.specs.declared.step.Step.TheVariants as steps
use Rattle.world.proofs.scripts.OwnerLaws.{done-current}
use Rattle.world.specs.scripts.Standing.{FitsOwn, IsWorld}
use Rattle.world.specs.scripts.Stepping.{AppendsOne, WouldAppend}
use Rattle.world.specs.scripts.WorkerCalls.{IsFullOn, IsFullStep, IsFullTaking, answered_in_place}
use Rattle.world.specs.scripts.WorldStates.{WorldState, noteless, world_of}
use Rattle.world.proofs.scripts.ActsOnLaws.{acting}
use Rattle.world.proofs.scripts.FlightLaws.{flight-at}
use Rattle.world.proofs.scripts.TakeLaws.{left-none}
use Rattle.world.proofs.scripts.WorldSteps.{at-world, told-then}
use Rattle.world.proofs.scripts.deeds.Left.{deed_asked, moved-alone, with_flight}
use Rattle.world.proofs.scripts.deeds.Fires as fires
use Rattle.world.proofs.scripts.deeds.Injects as injects
use Rattle.world.proofs.scripts.deeds.Purges as purges
use Rattle.world.proofs.scripts.deeds.Takes as takes
use Rattle.world.proofs.scripts.deeds.Writes as written

-- ---- an entry that was refused

-- a full history is no lack of memory
not_memory : faults.HistoryFull ≡ faults.NoMemory → ⊥
not_memory e = cc

-- an entry is appended under the last lease
wrote : (shape : Shape) (world : World) (number : ℕ) (asked : Request) (after : Worker) (flight : List (Option Outgoing))
    → IsCurrent asked.lease.interval asked.lease.seq world.history
    → (done shape world (with_flight flight (writes world number asked.lease asked.entry after))).1.history
    ≡ world.history ++ asked.entry ∷ []
wrote shape world number asked after flight last = ap (λ (a : Acted). a.1.history)
    (done-current shape world (with_flight flight (writes world number asked.lease asked.entry after)) asked.lease refl last)

-- a desk says that the history is full only under the last lease
last-of : (old new : BookView) (world : World) (lease : LeaseView) → world.history ≡ old.history
    → HasLooked (own_view old) (own_view new) → IsRefused (own_view old) (own_view new) lease refusals.HistoryFull
    → IsCurrent lease.interval lease.seq world.history
last-of old new world lease same looked refused =
    subst (IsCurrent lease.interval lease.seq) (moved-alone (own_view old) (own_view new) new.history looked refl ∙ sym same)
    ((refused.reason.full tt).0 refl).1

-- a deed that asks for an entry would have appended it
asked-full : (shape : Shape) (old new : BookView) (world : World) (number : ℕ) (asked : Option Request) (after : Worker)
    (flight : List (Option Outgoing)) → world.history ≡ old.history → HasLooked (own_view old) (own_view new)
    → FailsAsked (own_view old) (own_view new) asked faults.HistoryFull
    → (entry : Entry) × ((done shape world (with_flight flight (deed_asked world number after asked))).1.history
    ≡ world.history ++ entry ∷ [])
asked-full shape old new world number None after flight same looked fails = absurd (not_memory fails)
asked-full shape old new world number (Some asked) after flight same looked refused =
    (asked.entry, wrote shape world number asked after flight (last-of old new world asked.lease same looked refused))

-- so would one that is such a deed
deed-full : (shape : Shape) (old new : BookView) (world : World) (number : ℕ) (asked : Option Request) (after : Worker) (deed : Deed)
    → world.history ≡ old.history → HasLooked (own_view old) (own_view new)
    → FailsAsked (own_view old) (own_view new) asked faults.HistoryFull → deed ≡ deed_asked world number after asked
    → (entry : Entry) × ((done shape world deed).1.history ≡ world.history ++ entry ∷ [])
deed-full shape old new world number asked after deed same looked fails is =
    let full = asked-full shape old new world number asked after world.flight same looked fails in
    (full.0, ap (λ d. (done shape world d).1.history) (is ∙ by_asked asked) ∙ full.1)
  where
    by_asked : (o : Option Request) → deed_asked world number after o ≡ with_flight world.flight (deed_asked world number after o)
    by_asked None = refl
    by_asked (Some request) = refl

-- and one that asks for an entry for which it may ask
some-full : (shape : Shape) (old new : BookView) (world : World) (number : ℕ) (MayAsk : Request → Type 0) (deed : Deed)
    → world.history ≡ old.history → HasLooked (own_view old) (own_view new)
    → FailsSome (own_view old) (own_view new) MayAsk faults.HistoryFull
    → ((asked : Request) → MayAsk asked → deed ≡ writes world number asked.lease asked.entry (worker_of world number))
    → (entry : Entry) × ((done shape world deed).1.history ≡ world.history ++ entry ∷ [])
some-full shape old new world number MayAsk deed same looked (inl fails) is = absurd (not_memory fails)
some-full shape old new world number MayAsk deed same looked (inr (asked, may, refused)) is = (
  asked.entry,
  ap (λ d. (done shape world d).1.history) (is asked may)
      ∙ wrote shape world number asked (worker_of world number) world.flight (last-of old new world asked.lease same looked refused),
)

-- ---- the calls of a worker

-- a claim
pub claim-full : (old : BookView) (was : NodeView) (interval : ℕ) (why : NodeFault)
    → IsFullOn (steps.Claim was.number interval) old was why
claim-full old was interval why = λ full. if-there old.rows (λ told world at. (entries.Claim was.number interval, refl))

-- a call that fails for lack of memory alone
pub no-full : (step : Step) (old : BookView) (was : NodeView) (why : NodeFault) → why ≡ faults.NoMemory → IsFullOn step old was why
no-full step old was why is = λ full. absurd (not_memory (sym full ∙ is))

-- a line
pub inject-full : (case : CaseShape) (old new : BookView) (was : NodeView) (part : ℕ) (why : NodeFault) → case ≡ old.case
    → IsLawful old.case (core_of old) → FitsOwn old was → HasLooked (own_view old) (own_view new)
    → FailsAsked (own_view old) (own_view new) (line_asked case was part) why → IsFullOn (steps.Inject was.number part) old was why
inject-full case old new was part why same lawful fits looked fails = λ full. if-there old.rows (λ told world at.
    deed-full old.case.topology old new world was.number (line_asked old.case was part) (worker_of world was.number)
    (inject old.case was.number part world) at.history looked
    (subst (λ (k : CaseShape). FailsAsked (own_view old) (own_view new) (line_asked k was part) faults.HistoryFull) same
    (subst (FailsAsked (own_view old) (own_view new) (line_asked case was part)) full fails))
    (injects.inject-is old.case old world was.number was part (acting old was world told lawful fits at)))

-- what was prepared
pub write-full : (case : CaseShape) (old new : BookView) (was : NodeView) (why : NodeFault) → case ≡ old.case
    → IsLawful old.case (core_of old) → FitsOwn old was → HasLooked (own_view old) (own_view new)
    → FailsAsked (own_view old) (own_view new) (work_asked case.topology was) why → IsFullOn (steps.Write was.number) old was why
write-full case old new was why same lawful fits looked fails = λ full. if-there old.rows (λ told world at.
    deed-full old.case.topology old new world was.number (work_asked old.case.topology was)
    (with_written (sending_of was) (worker_at was)) (write old.case was.number world) at.history looked
    (subst (λ (k : CaseShape). FailsAsked (own_view old) (own_view new) (work_asked k.topology was) faults.HistoryFull) same
    (subst (FailsAsked (own_view old) (own_view new) (work_asked case.topology was)) full fails))
    (written.write-is old.case old world was.number was (acting old was world told lawful fits at)))

-- a timer
pub fire-full : (case : CaseShape) (old new : BookView) (was : NodeView) (part : ℕ) (why : NodeFault) → case ≡ old.case
    → IsLawful old.case (core_of old) → KeepsMarks (own_view old) (own_view new) → FitsOwn old was
    → HasLooked (own_view old) (own_view new) → FailsFire case (own_view old) (own_view new) part was why
    → IsFullOn (steps.Fire was.number part) old was why
fire-full case old new was part why same lawful marks fits looked fails = λ full. if-there old.rows (λ told world at.
    let acts = acting old was world told lawful fits at in
    let failed : FailsFire old.case (own_view old) (own_view new) part was faults.HistoryFull =
    subst (λ (k : CaseShape). FailsFire k (own_view old) (own_view new) part was faults.HistoryFull) same
    (subst (FailsFire case (own_view old) (own_view new) part was) full fails) in
    let mark = least (marks_of old.case.topology part world.marks) in
    some-full old.case.topology old new world was.number (MayAskFire old.case was part mark) (fire old.case was.number part world)
    at.history looked
    (subst (λ m. FailsSome (own_view old) (own_view new) (MayAskFire old.case was part m) faults.HistoryFull)
    (fires.mark-is old.case old new world was.number part failed.mark was acts (marks.same refl) failed.known) failed.fails)
    (λ asked may. fires.asked-is old.case old world was.number was part asked acts may))

-- a purge
pub purge-full : (case : CaseShape) (old new : BookView) (was : NodeView) (interval : ℕ) (why : NodeFault) → case ≡ old.case
    → IsLawful old.case (core_of old) → FitsOwn old was → HasLooked (own_view old) (own_view new)
    → FailsPurge case.topology (own_view old) (own_view new) interval 1 was why
    → IsFullOn (steps.Purge was.number interval) old was why
purge-full case old new was interval why same lawful fits looked fails = λ full. if-there old.rows (λ told world at.
    let acts = acting old was world told lawful fits at in
    let shape = old.case.topology in
    let failed : FailsPurge shape (own_view old) (own_view new) interval 1 was faults.HistoryFull =
    subst (λ (k : CaseShape). FailsPurge k.topology (own_view old) (own_view new) interval 1 was faults.HistoryFull) same
    (subst (FailsPurge case.topology (own_view old) (own_view new) interval 1 was) full fails) in
    some-full shape old new world was.number (MayAskPurge shape was interval 1 (floor_of (run_of shape world.history)))
    (purge shape was.number interval world) at.history looked
    (subst (λ f. FailsSome (own_view old) (own_view new) (MayAskPurge shape was interval 1 f) faults.HistoryFull)
    (purges.floor-is old.case old new world was.number failed.floor was acts failed.known) failed.fails)
    (λ asked may. purges.asked-is old.case old world was.number was interval asked acts may))

-- ---- a message that was taken

-- a record
pub handle-full : (taken : Outgoing) (old : BookView) (was : NodeView) (why : NodeFault) → why ≡ faults.NoMemory
    → (number : ℕ) → IsFullTaking number taken old was why
handle-full taken old was why is number = λ full. absurd (not_memory (sym full ∙ is))

-- word that a record was handled
pub ack-full : (case : CaseShape) (old new : BookView) (was : NodeView) (to : RowName) (id : RecordId) (why : NodeFault)
    → case ≡ old.case → IsLawful old.case (core_of old) → FitsOwn old was
    → answered_in_place old.case.topology (worker_at was) (outgoing.Ack to id) ≡ None → HasLooked (own_view old) (own_view new)
    → FailsAsked (own_view old) (own_view new) (ack_asked case.topology was (outgoing.Ack to id)) why
    → (number : ℕ) → IsFullTaking number (outgoing.Ack to id) old was why
ack-full case old new was to id why same lawful fits left looked fails number = λ full. if-there old.rows (λ told world at arrived.
    let shape = old.case.topology in
    let acts = acting old was world told lawful fits at in
    let on = takes.some-there (held_on shape was.held to) (left-none shape was (outgoing.Ack to id) left).1 in
    let failed : FailsAsked (own_view old) (own_view new) (settling shape to id on.0) faults.HistoryFull =
    subst (λ (o : Option HeldView). FailsAsked (own_view old) (own_view new) (option_and_then (settling shape to id) o) faults.HistoryFull)
    on.1
    (subst (λ (k : CaseShape). FailsAsked (own_view old) (own_view new) (ack_asked k.topology was (outgoing.Ack to id))
    faults.HistoryFull) same
    (subst (FailsAsked (own_view old) (own_view new) (ack_asked case.topology was (outgoing.Ack to id))) full fails)) in
    let one = asked-full shape old new world was.number (settling shape to id on.0) (worker_of world was.number)
    (without_message number world.flight) at.history looked failed in (
      one.0,
      ap (λ d. (done shape world d).1.history)
          (takes.ack-is old.case old world was.number number was to id on.0 acts arrived on.1) ∙ one.1,
    ))

-- ---- a world

-- a step of one worker would have appended an entry
pub full-at : (step : Step) (state : WorldState) (number : ℕ) (was : NodeView) (why : NodeFault) → IsWorld state
    → slice_get state.nodes number ≡ Some was → IsFullOn step state.book was why → why ≡ faults.HistoryFull → WouldAppend step state
full-at step state number was why is at on full =
    told-then state.book.rows (λ each. each (world_of state) (at-world state number was is at)) (on full)

-- so would one that takes a message
pub taken-full : (state : WorldState) (number message : ℕ) (was : NodeView) (found : Message NoNote) (why : NodeFault) → IsWorld state
    → slice_get state.nodes number ≡ Some was → unwrap_or (slice_get state.flight message) None ≡ Some found
    → to_pass (world_of state) message ≡ 0 → ((n : ℕ) → IsFullTaking n (outgoing_of found) state.book was why) → why ≡ faults.HistoryFull
    → WouldAppend (steps.Take number message) state
taken-full state number message was found why is at there passed on full = told-then state.book.rows
    (λ each. subst (λ (n : ℕ). AppendsOne state.book.case (world_of state) (steps.Take n message)) (is.numbered number was at)
    (each (world_of state) (at-world state number was is at)
    (record { flying = flight-at state.flight message ∙ ap noteless there; passed = passed })))
    (on message full)

-- and none that fails for lack of memory alone
pub step-not-full : (step : Step) (old : WorldState) (why : NodeFault) → why ≡ faults.NoMemory → IsFullStep step old why
step-not-full step old why is = λ full. absurd (not_memory (sym full ∙ is))

-- a step that was answered so would have appended an entry
pub full-then : (r : Result Outcome NodeFault) (step : Step) (old : WorldState) → IfErr r (IsFullStep step old)
    → r ≡ Err faults.HistoryFull → WouldAppend step old
full-then r step old full is =
    let fails : IfErr {T = Outcome} (Err faults.HistoryFull) (IsFullStep step old) =
    subst (λ (x : Result Outcome NodeFault). IfErr x (IsFullStep step old)) is full in
    fails refl

-- What a node leaves when a timer fires.
use Rattle.std.proofs.Common.{◌≡◌, ◌∙◌, ℕ, List, ◌++◌, refl, sym, ap, subst}
use Rattle.std.specs.Prelude.{All, IfErr, IfOk, IfSome, Option, Some, None, Result, slice_get, unwrap_or}
use Rattle.std.proofs.lemmas.List.Elements.{All-append}
use Rattle.list_lemmas.proofs.Told.{if-anyway}
use Rattle.mw_types.specs.Outcomes.{EffectsView}
use Rattle.mw_types.specs.declared.entry.Entry.TheVariants as entries
use Rattle.mw_types.specs.declared.identity.RowName.{RowName}
use Rattle.mw_types.specs.declared.timer.Timer.{Timer}
use Rattle.topology.specs.Shapes.{Shape}
use Rattle.computations.specs.Handlers.{OfTimer}
use Rattle.row_parts.specs.Contents.{Contents, fresh}
use Rattle.run_history.specs.Cases.{CaseShape, fresh_of}
use Rattle.run_history.specs.Fences.{interval_of}
use Rattle.run_history.specs.Legal.{outcome_of}
use Rattle.run_history.specs.Made.{deliveries_made, late_cause}
use Rattle.run_history.specs.Runs.{cached, row_in, run_of}
use Rattle.list_lemmas.proofs.Lists.{some_same}
use Rattle.book.specs.Desks.{DeskView, HasLooked}
use Rattle.book.specs.Proposals.{IsProposable}
use Rattle.book.specs.declared.proposal.Proposal.TheVariants as proposals
use Rattle.holdings.specs.Holding.{AreAllHeld, HeldView, held_at, row_held}
use Rattle.holdings.specs.declared.first_timer.RowTimer.{RowTimer}
use Rattle.node.specs.Answers.{AnswersFire, AnswersSome, FailsFire, FailsSome, IsLeastKnown, made_of}
use Rattle.node.specs.Asking.{IsNextTimer, MayAskFire, Request}
use Rattle.node.specs.FireSteps.{IsSetAt, IsTimerToFire}
use Rattle.node.specs.Fits.{Fits, IsWork}
use Rattle.outbox.specs.Messages.{IsAddressed, IsComputation, IsOutgoing, messages_from}
use Rattle.node.specs.Workers.{NodeView, WorkView, with_outgoing, worker_at}
use Rattle.node.specs.Works.{IsStateThere}
use Rattle.node.specs.declared.outcome.NodeFault.{NodeFault}
use Rattle.node.specs.declared.outcome.Outcome.{Outcome}
use Rattle.node.specs.declared.outcome.Outcome.TheVariants as outcomes
use Rattle.node.proofs.CommitLaws.{HoldsWork, IsAppended, appended-written, committed, leases-written, more-by}
use Rattle.node.proofs.FitLaws.{outbox-more}
use Rattle.node.proofs.PurgeLaws.{held-at-on, ok-answers}
use Rattle.node.proofs.LookLaws.{err-fails, fault-later, some-later}
use Rattle.outbox.proofs.SendLaws.{made-outgoing}
use Rattle.node.proofs.StateLaws.{state-held}

-- ---- a timer that is the first of its row

-- the row of the next timer is there
pub set-at : (case : CaseShape) (desk : DeskView) (node : NodeView) (part mark interval : ℕ) (name : RowName) (timer : Timer)
    → AreAllHeld case desk node.held → IsComputation case.topology name.part → interval_of case.topology name ≡ Some interval
    → IsNextTimer case.topology node part mark name timer → IsSetAt case.topology node.held interval name timer
set-at case desk node part mark interval name timer fit of covers next =
    let held = next.set.held in
    let there = next.set.there in
    let state = state-held case desk node.held name held fit of there in
    by_row (row_in (cached held.rows) name) refl (held-at-on case.topology node.held name interval held there covers) next.set.first state
  where
    new : Contents
    new = fresh (fresh_of case.topology name.part)

    by_row : (o : Option Contents) → row_in (cached next.set.held.rows) name ≡ o → held_at node.held interval ≡ Some next.set.held
        → slice_get (unwrap_or o new).timers 0 ≡ Some timer → IsStateThere case.topology name.part (unwrap_or o new).state
        → IsSetAt case.topology node.held interval name timer
    by_row None is at first state = absurd cc
    by_row (Some row) is at first state = record {
      held = next.set.held;
      there = at;
      row = row;
      row_there = is;
      first = first;
      state = state;
    }

-- what is set there, by what is held
pub set-held : (shape : Shape) (all : List (Option HeldView)) (interval : ℕ) (name : RowName) (timer : Timer)
    (set : IsSetAt shape all interval name timer) → row_held shape set.held name ≡ set.row
set-held shape all interval name timer set = ap (λ (o : Option Contents). unwrap_or o (fresh (fresh_of shape name.part))) set.row_there

-- it may be proposed that it fires
pub fire-proposable : (case : CaseShape) (all : List (Option HeldView)) (interval : ℕ) (name : RowName) (timer : Timer) (mark : ℕ)
    (effects : EffectsView) (set : IsSetAt case.topology all interval name timer) → outcome_of case name set.row (OfTimer timer) ≡ Some effects
    → IfSome (held_at all interval) (λ held. IsProposable case name (row_held case.topology held name) (proposals.Fire timer mark effects))
fire-proposable case all interval name timer mark effects set does =
    subst (λ (o : Option HeldView). IfSome o (λ held. IsProposable case name (row_held case.topology held name)
    (proposals.Fire timer mark effects))) (sym set.there)
    (subst (λ (r : Contents). IsProposable case name r (proposals.Fire timer mark effects))
    (sym (set-held case.topology all interval name timer set)) (record { least = set.first; does = does }))

-- ---- a timer that has fired

-- its entry stands
pub appended-fire : (shape : Shape) (old new : DeskView) (interval : ℕ) (name : RowName) (timer : Timer) (mark : ℕ) (effects : EffectsView)
    (commit : ℕ) (before after : List (Option HeldView)) (h : HoldsWork shape old new interval name (proposals.Fire timer mark effects) commit before after)
    → IsAppended old new h.held.lease (entries.Fire h.held.lease.seq name timer mark effects) commit
appended-fire shape old new interval name timer mark effects commit before after h =
    appended-written shape old new interval name (proposals.Fire timer mark effects) commit before after h _ h.entry.written.of_proposal

-- what a timer that fired leaves of a node
abbrev pub fired_by : Shape → List (Option HeldView) → RowName → Timer → EffectsView → ℕ → NodeView → NodeView
fired_by shape held name timer effects commit node = record node {
  held = held;
  outbox = node.outbox ++ messages_from name (deliveries_made shape name.part effects.productions timer.late commit);
}

-- it fits
pub Fits-fired : (case : CaseShape) (old new : DeskView) (node : NodeView) (interval : ℕ) (name : RowName) (timer : Timer) (mark : ℕ)
    (effects : EffectsView) (commit : ℕ) (after : List (Option HeldView))
    → HoldsWork case.topology old new interval name (proposals.Fire timer mark effects) commit node.held after → AreAllHeld case new after
    → All (IsAddressed case.topology)
    (messages_from name (deliveries_made case.topology name.part effects.productions timer.late commit))
    → node.prepared ≡ None → Fits case old node → Fits case new (fired_by case.topology after name timer effects commit node)
Fits-fired case old new node interval name timer mark effects commit after h fit addressed free fits =
    let shape = case.topology in
    let a = appended-fire shape old new interval name timer mark effects commit node.held after h in
    let entry = entries.Fire h.held.lease.seq name timer mark effects in
    let more = more-by old new h.held.lease entry commit a in
    let made = messages_from name (deliveries_made shape name.part effects.productions timer.late commit) in record {
      of_case = more.case ∙ fits.of_case;
      held = fit;
      work = subst (λ (o : Option WorkView). IfSome o (IsWork case new after)) (sym free) tt;
      outbox = All-append (IsOutgoing case new) node.outbox made (outbox-more case old new node.outbox more fits.outbox)
          (made-outgoing case new a.before entry name timer.late commit a.appended refl a.number
          (if-anyway new.told (late_cause (run_of shape a.before).made entry ≡ timer.late) refl) addressed);
    }

-- what is asked of a timer that is the next
abbrev pub firing : RowName → Timer → ℕ → EffectsView → HeldView → Request
firing name timer mark effects held = record {
  lease = held.lease;
  name = name;
  entry = entries.Fire held.lease.seq name timer mark effects;
  late = timer.late;
}

-- it may be asked
pub may-fire : (case : CaseShape) (node : NodeView) (mark interval : ℕ) (name : RowName) (timer : Timer) (effects : EffectsView)
    (set : IsSetAt case.topology node.held interval name timer) → interval_of case.topology name ≡ Some interval
    → IsNextTimer case.topology node name.part mark name timer → outcome_of case name set.row (OfTimer timer) ≡ Some effects
    → MayAskFire case node name.part mark (firing name timer mark effects set.held)
may-fire case node mark interval name timer effects set covers next does =
    let at = held-at-on case.topology node.held name interval next.set.held next.set.there covers in
    let same : next.set.held ≡ set.held = some_same next.set.held set.held (sym at ∙ set.there) in record {
      name = name;
      timer = timer;
      next = next;
      effects = effects;
      does = subst (λ (r : Contents). outcome_of case name r (OfTimer timer) ≡ Some effects)
          (sym (ap (λ (h : HeldView). row_held case.topology h name) same
          ∙ set-held case.topology node.held interval name timer set)) does;
      request = ap (firing name timer mark effects) (sym same);
    }

-- once it has fired
pub answers-fired : (case : CaseShape) (old new : DeskView) (node : NodeView) (mark interval : ℕ) (name : RowName) (timer : Timer)
    (effects : EffectsView) (commit : ℕ) (after : List (Option HeldView)) (set : IsSetAt case.topology node.held interval name timer)
    → MayAskFire case node name.part mark (firing name timer mark effects set.held)
    → HoldsWork case.topology old new interval name (proposals.Fire timer mark effects) commit node.held after
    → AnswersSome case.topology old new (MayAskFire case node name.part mark) node
    (fired_by case.topology after name timer effects commit node)
    (outcomes.Committed commit)
answers-fired case old new node mark interval name timer effects commit after set may h =
    let shape = case.topology in
    let same : set.held ≡ h.held = some_same set.held h.held (sym set.there ∙ h.was) in
    let asked = firing name timer mark effects h.held in
    let a = appended-fire shape old new interval name timer mark effects commit node.held after h in
    let last = fired_by shape after name timer effects commit node in
    let left : worker_at last ≡ with_outgoing (made_of shape asked commit) (worker_at node) =
    ap (λ (l : ℕ → Option ℕ). record { leases = l; prepared = (worker_at node).prepared; outbox = last.outbox })
    (leases-written shape interval name commit _ node.held after h) in (
      asked,
      subst (λ (held : HeldView). MayAskFire case node name.part mark (firing name timer mark effects held)) same may,
      committed shape old new asked (worker_at node) last commit a refl
          (if-anyway old.told (late_cause (run_of shape a.before).made asked.entry ≡ timer.late) refl) left,
    )

-- ---- under the least known mark

-- what a node answers where a timer is the next
pub fire-answers : (case : CaseShape) (old mid new : DeskView) (was node : NodeView) (part mark : ℕ) (found : RowTimer)
    (result : Result Outcome NodeFault) → HasLooked old mid → IsLeastKnown case.topology part old new mark
    → IsNextTimer case.topology was part mark found.name found.timer
    → IfOk result (AnswersSome case.topology mid new (MayAskFire case was found.name.part mark) was node)
    → IfOk result (AnswersFire case old new part was node)
fire-answers case old mid new was node part mark found result looked known next answers =
    ok-answers result (AnswersSome case.topology mid new (MayAskFire case was part mark) was node) (AnswersFire case old new part was node)
    (λ outcome a. record {
      mark = mark;
      known = known;
      answers = some-later case.topology old mid new (MayAskFire case was part mark) was node outcome looked a;
    }) (subst (λ p. IfOk result (AnswersSome case.topology mid new (MayAskFire case was p mark) was node)) next.set.of_part answers)

-- where there is none
pub fire-nothing : (case : CaseShape) (old mid : DeskView) (was : NodeView) (part mark : ℕ) → HasLooked old mid
    → IsLeastKnown case.topology part old mid mark → IsTimerToFire case.topology was part mark None
    → AnswersFire case old mid part was was outcomes.Nothing
fire-nothing case old mid was part mark looked known none = record {
  mark = mark;
  known = known;
  answers = (λ asked may. none may.name may.timer may.next, record { looked = looked; kept = refl });
}

-- why none fires where a timer is the next
pub fire-fails : (case : CaseShape) (old mid new : DeskView) (was : NodeView) (part mark : ℕ) (found : RowTimer)
    (result : Result Outcome NodeFault) → HasLooked old mid → IsLeastKnown case.topology part old new mark
    → IsNextTimer case.topology was part mark found.name found.timer
    → IfErr result (FailsSome mid new (MayAskFire case was found.name.part mark)) → IfErr result (FailsFire case old new part was)
fire-fails case old mid new was part mark found result looked known next fails =
    err-fails result (FailsSome mid new (MayAskFire case was part mark)) (FailsFire case old new part was)
    (λ fault f. record {
      mark = mark;
      known = known;
      fails = fault-later old mid new (MayAskFire case was part mark) fault looked f;
    }) (subst (λ p. IfErr result (FailsSome mid new (MayAskFire case was p mark))) next.set.of_part fails)

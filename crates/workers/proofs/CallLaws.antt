-- What each call of a worker appends, by what it answers.
use Rattle.std.proofs.Common.{◌≡◌, ◌≤◌, ◌∙◌, ◌∷◌, ◌==◌, ℕ, Bool, true, false, cond, List, [], length, refl, sym, ap, subst, arith, inl, inr}
use Rattle.std.specs.Prelude.{Option, Some, None, IsSome, IfOk, IfSome, OnErr, Result, Ok, Err, if◌then◌else◌, unwrap_or}
use Rattle.std.specs.Option.{is_some, option_and_then, option_map, option_map_or}
use Rattle.std.proofs.lemmas.Bool.{cases_eq, ne_eqb}
use Rattle.list_lemmas.proofs.Told.{if-same}
use Rattle.mw_types.specs.Outcomes.{EffectsView}
use Rattle.mw_types.specs.declared.delivery.Delivery.{Delivery}
use Rattle.mw_types.specs.declared.entry.Entry.{Entry}
use Rattle.mw_types.specs.declared.entry.Entry.TheVariants as entries
use Rattle.mw_types.specs.declared.identity.RecordId.{RecordId}
use Rattle.mw_types.specs.declared.identity.RowName.{RowName}
use Rattle.mw_types.specs.declared.record.Record.{Record}
use Rattle.injector.specs.Sources.{item_at}
use Rattle.injector.specs.declared.item.Item.{Item}
use Rattle.topology.specs.Shapes.{Shape}
use Rattle.row_parts.specs.Contents.{is_finished, cursor_in, found_delivery}
use Rattle.run_history.specs.Cases.{CaseShape, record_of, source_of}
use Rattle.run_history.specs.Fences.{sequencer_of}
use Rattle.run_history.specs.Finished.{is_handled}
use Rattle.history_laws.proofs.FinishedLaws.{is_handled-more}
use Rattle.book.specs.Books.{LeaseView}
use Rattle.book.specs.Desks.{DeskView, HasLooked}
use Rattle.book.specs.declared.proposal.Proposal.{Proposal}
use Rattle.book.specs.declared.proposal.Proposal.TheVariants as proposals
use Rattle.holdings.specs.Holding.{HeldView, held_at, held_on, row_held}
use Rattle.node.specs.Answers.{AnswersAck, AnswersAsked, AnswersFire, AnswersPurge, AnswersReport, AnswersReportOf, AnswersSome, AnswersWrite, HasKept, IsLost, received, taken_from}
use Rattle.node.specs.Asking.{MayAskFire, MayAskPurge, Request, handled_as, line_asked, next_line, proposed, settling, work_asked}
use Rattle.node.specs.Fits.{Fits}
use Rattle.node.specs.Workers.{NodeView, Sending, WorkView, Worker, leases_of, sending_of, with_lease, with_outgoing, with_written, worker_at}
use Rattle.node.specs.declared.outcome.NodeFault.{NodeFault}
use Rattle.node.specs.declared.outcome.Outcome.{Outcome}
use Rattle.node.specs.declared.outcome.Outcome.TheVariants as outcomes
use Rattle.outbox.specs.declared.outgoing.Outgoing.{Outgoing}
use Rattle.outbox.specs.declared.outgoing.Outgoing.TheVariants as outgoing
use Rattle.node.proofs.FitLaws.{held-interval}
use Rattle.workers.specs.Serving.{HasServed, HasServedLines, appended, entries_of, lines_each, lines_of}
use Rattle.workers.specs.Slices.{IsOvertaken, KeepsLeases, injected}
use Rattle.workers.proofs.FewLines.{few-looked, few-written}
use Rattle.workers.proofs.Leases.{leases-same}
use Rattle.workers.proofs.Serving.{served-kept, served-more}
use Rattle.workers.proofs.Working.{worked-looked, worked-once}

-- ---- what is asked for

-- a request carries the sequencer of a lease that is held, and injects at most so many lines
pub record IsServable (lines : ℕ → ℕ) (all : List (Option HeldView)) (asked : Request) : Type 0 where
  pub carries : IsSome (sequencer_of asked.entry)
  pub held : leases_of all asked.lease.interval ≡ Some asked.lease.seq
  pub few : (part : ℕ) → injected part (asked.entry ∷ []) ≤ lines part

-- the lease of what is held of an interval
lease-at : (case : CaseShape) (desk : DeskView) (node : NodeView) (interval : ℕ) (held : HeldView) → Fits case desk node
    → held_at node.held interval ≡ Some held → leases_of node.held held.lease.interval ≡ Some held.lease.seq
lease-at case desk node interval held fits at =
    ap (leases_of node.held) (fits.held.each interval held at).of_interval
    ∙ ap (option_map (λ (h : HeldView). h.lease.seq)) at

-- the lease of what is held of the interval of a row
pub lease-on : (case : CaseShape) (desk : DeskView) (node : NodeView) (name : RowName) (held : HeldView) → Fits case desk node
    → held_on case.topology node.held name ≡ Some held → leases_of node.held held.lease.interval ≡ Some held.lease.seq
lease-on case desk node name held fits on =
    let at = held-interval case.topology node.held name held on in lease-at case desk node at.0 held fits at.2

-- an injected line is one of its injector
line-few : (injector part seq line : ℕ) (item : Record)
    → injected part (entries.Inject seq injector line item ∷ []) ≤ lines_of injector 1 part
line-few injector part seq line item = elim (injector == part) as (λ b. length (cond b (entries.Inject seq injector line item ∷ []) [])
    ≤ cond b 1 0) [ true ↦ omega arith | false ↦ omega arith ]

-- the next line of an injector
pub line-servable : (case : CaseShape) (desk : DeskView) (node : NodeView) (part : ℕ) → Fits case desk node
    → IfSome (line_asked case node part) (IsServable (lines_of part 1) node.held)
line-servable case desk node part fits = by_held (held_on case.topology node.held name) refl
  where
    name : RowName
    name = record { part = part; key = [] }

    by_item : (held : HeldView) → held_on case.topology node.held name ≡ Some held → (line : ℕ) (o : Option Item)
        → IfSome (option_map (λ (item : Item). record {
          lease = held.lease;
          name = name;
          entry = entries.Inject held.lease.seq part line (record_of item);
          late = item.late;
        }) o) (IsServable (lines_of part 1) node.held)
    by_item held on line None = tt
    by_item held on line (Some item) = record {
      carries = refl;
      held = lease-on case desk node name held fits on;
      few = λ p. line-few part p held.lease.seq line (record_of item);
    }

    by_held : (o : Option HeldView) → held_on case.topology node.held name ≡ o
        → IfSome (option_and_then (next_line case name) o) (IsServable (lines_of part 1) node.held)
    by_held None on = tt
    by_held (Some held) on = let line = cursor_in (row_held case.topology held name).state in
        by_item held on line (item_at (source_of case part) line)

-- what is prepared
pub work-servable : (case : CaseShape) (desk : DeskView) (node : NodeView) → Fits case desk node
    → IfSome (work_asked case.topology node) (IsServable (lines_each 0) node.held)
work-servable case desk node fits = by_work node.prepared
  where
    by_held : (d : Delivery) (effects : EffectsView) (o : Option HeldView) → held_on case.topology node.held d.to ≡ o
        → IfSome (option_map (handled_as d effects) o) (IsServable (lines_each 0) node.held)
    by_held d effects None on = tt
    by_held d effects (Some held) on = record { carries = refl; held = lease-on case desk node d.to held fits on; few = λ part. omega arith }

    by_proposal : (p : Proposal) → IfSome (proposed case.topology node.held p) (IsServable (lines_each 0) node.held)
    by_proposal (proposals.Handle d effects) = by_held d effects (held_on case.topology node.held d.to) refl
    by_proposal _ = tt

    by_work : (o : Option WorkView)
        → IfSome (option_and_then (λ (work : WorkView). proposed case.topology node.held work.proposal) o) (IsServable (lines_each 0) node.held)
    by_work None = tt
    by_work (Some work) = by_proposal work.proposal

-- an acknowledgement
settling-servable : (case : CaseShape) (desk : DeskView) (node : NodeView) (to : RowName) (id : RecordId) (held : HeldView)
    → Fits case desk node → held_on case.topology node.held to ≡ Some held
    → IfSome (settling case.topology to id held) (IsServable (lines_each 0) node.held)
settling-servable case desk node to id held fits on = by_found (found_delivery id (row_held case.topology held to).pending)
  where
    by_found : (o : Option Delivery) → IfSome (option_map (λ (d : Delivery). record {
      lease = held.lease;
      name = to;
      entry = entries.Ack held.lease.seq to id;
      late = false;
    }) o) (IsServable (lines_each 0) node.held)
    by_found None = tt
    by_found (Some d) = record { carries = refl; held = lease-on case desk node to held fits on; few = λ part. omega arith }

-- a timer
pub fire-servable : (case : CaseShape) (desk : DeskView) (node : NodeView) (part mark : ℕ) (asked : Request) → Fits case desk node
    → MayAskFire case node part mark asked → IsServable (lines_each 0) node.held asked
fire-servable case desk node part mark asked fits may = subst (IsServable (lines_each 0) node.held) (sym may.request) (record {
  carries = refl;
  held = lease-on case desk node may.name may.next.set.held fits may.next.set.there;
  few = λ part. omega arith;
})

-- a purge
pub purge-servable : (case : CaseShape) (desk : DeskView) (node : NodeView) (interval many floor : ℕ) (asked : Request)
    → Fits case desk node → MayAskPurge case.topology node interval many floor asked → IsServable (lines_each 0) node.held asked
purge-servable case desk node interval many floor asked fits may = subst (IsServable (lines_each 0) node.held) (sym may.may.request) (record {
  carries = refl;
  held = lease-on case desk node may.name may.may.held fits may.may.there;
  few = λ part. omega arith;
})

-- ---- what is answered

-- a lease that is lost was overtaken
lost-leases : (shape : Shape) (seen : List Entry) (was node : NodeView) (interval seq : ℕ) → leases_of was.held interval ≡ Some seq
    → IsOvertaken interval seq seen → worker_at node ≡ with_lease shape interval None (worker_at was) → KeepsLeases seen was node
lost-leases shape seen was node interval seq held gone left i s is = elim (cases_eq i interval) [
  | inl same ↦ inr (subst (λ (k : ℕ). IsOvertaken k s seen) (sym same)
      (subst (λ (k : ℕ). IsOvertaken interval k seen) (some_same seq s (sym held ∙ sym (ap (leases_of was.held) same) ∙ is)) gone))
  | inr other ↦ inl (ap (λ (w : Worker). w.leases i) left
      ∙ ap (λ b. if b then None else leases_of was.held i) (ne_eqb i interval other) ∙ is)
]
  where
    some_same : (a b : ℕ) → Some a ≡ Some b → a ≡ b
    some_same a b e = ap (λ (o : Option ℕ). unwrap_or o a) e

-- a lease of an entry that was refused
served-lost : (case : CaseShape) (old new : DeskView) (lease : LeaseView) (was node : NodeView) (newer : ℕ) → Fits case new node
    → node.number ≡ was.number → leases_of was.held lease.interval ≡ Some lease.seq
    → IsLost case.topology old new lease was node newer → HasServed case 0 old new was node
served-lost case old new lease was node newer fits number held lost = record {
  fits = fits;
  number = number;
  worked = worked-looked old new lost.looked;
  kept = lost-leases case.topology new.seen was node lease.interval lease.seq held (newer, lost.claim) lost.left;
  few = few-looked case old new was lost.looked;
}

-- an entry that was asked for
served-write : (lines : ℕ → ℕ) (case : CaseShape) (old new : DeskView) (asked : Request) (after : Worker) (was node : NodeView)
    (outcome : Outcome) → Fits case new node → node.number ≡ was.number → IsServable lines was.held asked
    → after.leases ≡ leases_of was.held → AnswersWrite case.topology old new asked after was node outcome
    → HasServedLines case (entries_of outcome) lines old new was node
served-write lines case old new asked after was node (outcomes.Committed commit) fits number may same is = record {
  fits = fits;
  number = number;
  worked = worked-once old new is.before asked.entry is.moved is.appended may.carries;
  kept = leases-same new.seen was node (ap (λ (w : Worker). w.leases) is.left ∙ same);
  few = few-written case old new is.before asked.entry lines was is.moved is.appended may.few;
}
served-write lines case old new asked after was node (outcomes.Stale newer) fits number may same is =
    served-more lines (served-lost case old new asked.lease was node newer fits number may.held is)
served-write lines case old new asked after was node (outcomes.Busy found) fits number may same is =
    served-more lines (served-kept case old new was node fits number is.idle.looked is.idle.kept)
served-write lines case old new asked after was node _ fits number may same is = absurd is

-- an entry that was asked for, if there was one
pub served-asked : (lines : ℕ → ℕ) (case : CaseShape) (old new : DeskView) (asked : Option Request) (after : Worker)
    (was node : NodeView) (outcome : Outcome) → Fits case new node → node.number ≡ was.number
    → IfSome asked (IsServable lines was.held) → after.leases ≡ leases_of was.held
    → AnswersAsked case.topology old new asked after was node outcome → HasServedLines case (entries_of outcome) lines old new was node
served-asked lines case old new None after was node outcome fits number may same is =
    subst (λ (o : Outcome). HasServedLines case (entries_of o) lines old new was node) (sym is.0)
    (served-more lines (served-kept case old new was node fits number is.1.looked is.1.kept))
served-asked lines case old new (Some asked) after was node outcome fits number may same is =
    served-write lines case old new asked after was node outcome fits number may same is

-- an entry that is no line and for which a worker may ask, if there was one
pub served-some : (case : CaseShape) (old new : DeskView) (MayAsk : Request → Type 0) (was node : NodeView) (outcome : Outcome)
    → Fits case new node → node.number ≡ was.number → ((asked : Request) → MayAsk asked → IsServable (lines_each 0) was.held asked)
    → AnswersSome case.topology old new MayAsk was node outcome → HasServed case (entries_of outcome) old new was node
served-some case old new MayAsk was node outcomes.Nothing fits number may is =
    served-kept case old new was node fits number is.1.looked is.1.kept
served-some case old new MayAsk was node outcome fits number may (asked, asks, is) =
    served-write (lines_each 0) case old new asked (worker_at was) was node outcome fits number (may asked asks) refl is

-- a report appends nothing
pub served-report : (case : CaseShape) (old new : DeskView) (interval : ℕ) (was node : NodeView) (outcome : Outcome)
    → Fits case old was → Fits case new node → node.number ≡ was.number
    → AnswersReport case old new (held_at was.held interval) was node outcome → HasServed case (entries_of outcome) old new was node
served-report case old new interval was node outcome before fits number is = by_held (held_at was.held interval) refl is
  where
    by_outcome : (held : HeldView) → held_at was.held interval ≡ Some held → (o : Outcome)
        → AnswersReportOf case old new held was node o → HasServed case (entries_of o) old new was node
    by_outcome held at (outcomes.Marked mark) is = served-kept case old new was node fits number is.idle.looked is.idle.kept
    by_outcome held at (outcomes.Stale newer) is =
        served-lost case old new held.lease was node newer fits number (lease-at case old was interval held before at) is
    by_outcome held at (outcomes.Busy found) is = served-kept case old new was node fits number is.idle.looked is.idle.kept
    by_outcome held at _ is = absurd is

    by_held : (o : Option HeldView) → held_at was.held interval ≡ o → AnswersReport case old new o was node outcome
        → HasServed case (entries_of outcome) old new was node
    by_held None at is = subst (λ (o : Outcome). HasServed case (entries_of o) old new was node) (sym is.0)
        (served-kept case old new was node fits number is.1.looked is.1.kept)
    by_held (Some held) at is = by_outcome held at outcome is

-- a row that sent a record no longer waits for it
served-settle : (case : CaseShape) (old new : DeskView) (to : RowName) (id : RecordId) (was node : NodeView) (outcome : Outcome)
    → Fits case old was → Fits case new node → node.number ≡ was.number
    → AnswersAck case.topology old new (held_on case.topology was.held to) to id was node outcome
    → HasServed case (entries_of outcome) old new was node
served-settle case old new to id was node outcome before fits number is = by_held (held_on case.topology was.held to) refl is
  where
    by_held : (o : Option HeldView) → held_on case.topology was.held to ≡ o
        → AnswersAck case.topology old new o to id was node outcome → HasServed case (entries_of outcome) old new was node
    by_held None on is = subst (λ (o : Outcome). HasServed case (entries_of o) old new was node) (sym is.0)
        (served-kept case old new was node fits number is.1.looked is.1.kept)
    by_held (Some held) on is = served-asked (lines_each 0) case old new (settling case.topology to id held) (worker_at was) was node outcome fits
        number (settling-servable case old was to id held before on) refl is

-- ---- a record that comes

-- the leases that an answer leaves
abbrev leases_left : Outcome × Worker → ℕ → Option ℕ
leases_left (outcome, worker) = worker.leases

-- a worker that took a message as a record has the leases that it had
taken-leases : (shape : Shape) (was : NodeView) (taken : Outgoing) → leases_left (taken_from shape was taken) ≡ leases_of was.held
taken-leases shape was (outgoing.Ack to id) = refl
taken-leases shape was (outgoing.Deliver delivery sender) = by_free (is_some was.prepared)
  where
    by_finished : (b : Bool) → leases_left (if b
        then (outcomes.Duplicate, with_outgoing (outgoing.Ack sender delivery.id ∷ []) (worker_at was))
        else (
          outcomes.Prepared,
          record (worker_at was) { prepared = Some (record { delivery = delivery; sender = sender }) },
        )) ≡ leases_of was.held
    by_finished true = refl
    by_finished false = refl

    by_held : (held : Option HeldView) → leases_left (option_map_or (received shape was delivery sender) held
        (outcomes.NotMine, worker_at was)) ≡ leases_of was.held
    by_held None = refl
    by_held (Some held) = by_finished (is_finished delivery.id (row_held shape held delivery.to))

    by_free : (b : Bool) → leases_left (if b then (outcomes.Nothing, worker_at was) else
        option_map_or (received shape was delivery sender) (held_on shape was.held delivery.to)
        (outcomes.NotMine, worker_at was)) ≡ leases_of was.held
    by_free true = refl
    by_free false = by_held (held_on shape was.held delivery.to)

-- an answer to a record leaves the leases
pub leases-taken : (shape : Shape) (was node : NodeView) (taken : Outgoing) (outcome : Outcome)
    → (outcome, worker_at node) ≡ taken_from shape was taken → leases_of node.held ≡ leases_of was.held
leases-taken shape was node taken outcome is = ap leases_left is ∙ taken-leases shape was taken

-- what is written takes no lease away
pub written-leases : (sending : Option Sending) (worker : Worker) → (with_written sending worker).leases ≡ worker.leases
written-leases None worker = refl
written-leases (Some sending) worker = refl

-- ---- the calls of a worker

-- what is prepared is written
pub commit-served : (case : CaseShape) (old new : DeskView) (was node : NodeView) (outcome : Outcome) → Fits case old was
    → Fits case new node → node.number ≡ was.number
    → AnswersAsked case.topology old new (work_asked case.topology was) (with_written (sending_of was) (worker_at was)) was node outcome
    → HasServed case (entries_of outcome) old new was node
commit-served case old new was node outcome before fits number is = served-asked (lines_each 0) case old new (work_asked case.topology was)
    (with_written (sending_of was) (worker_at was)) was node outcome fits number (work-servable case old was before)
    (written-leases (sending_of was) (worker_at was)) is

-- the next line of an injector is injected
pub inject-served : (case : CaseShape) (old new : DeskView) (part : ℕ) (was node : NodeView) (outcome : Outcome) → Fits case old was
    → Fits case new node → node.number ≡ was.number
    → AnswersAsked case.topology old new (line_asked case was part) (worker_at was) was node outcome
    → HasServedLines case (entries_of outcome) (lines_of part 1) old new was node
inject-served case old new part was node outcome before fits number is = served-asked (lines_of part 1) case old new (line_asked case was part)
    (worker_at was) was node outcome fits number (line-servable case old was part before) refl is

-- the next timer of a part fires
pub fire-served : (case : CaseShape) (old new : DeskView) (part : ℕ) (was node : NodeView) (outcome : Outcome) → Fits case old was
    → Fits case new node → node.number ≡ was.number → AnswersFire case old new part was node outcome
    → HasServed case (entries_of outcome) old new was node
fire-served case old new part was node outcome before fits number is =
    served-some case old new (MayAskFire case was part is.mark) was node outcome fits number
    (λ asked may. fire-servable case old was part is.mark asked before may) is.answers

-- a row of an interval forgets ids
pub purge-served : (case : CaseShape) (old new : DeskView) (interval many : ℕ) (was node : NodeView) (outcome : Outcome)
    → Fits case old was → Fits case new node → node.number ≡ was.number
    → AnswersPurge case.topology old new interval many was node outcome → HasServed case (entries_of outcome) old new was node
purge-served case old new interval many was node outcome before fits number is =
    served-some case old new (MayAskPurge case.topology was interval many is.floor) was node outcome fits number
    (λ asked may. purge-servable case old was interval many is.floor asked before may) is.answers

-- ---- calls that may fail

-- what is prepared is written, or that fails
pub commit-answered : (case : CaseShape) (old new : DeskView) (was node : NodeView) (answer : Result Outcome NodeFault)
    → Fits case old was → Fits case new node → node.number ≡ was.number
    → IfOk answer (AnswersAsked case.topology old new (work_asked case.topology was) (with_written (sending_of was) (worker_at was)) was
    node)
    → OnErr answer (HasLooked old new) → OnErr answer (HasKept was node) → HasServed case (appended answer) old new was node
commit-answered case old new was node (Ok outcome) before fits number is looked kept =
    commit-served case old new was node outcome before fits number is
commit-answered case old new was node (Err why) before fits number is looked kept =
    served-kept case old new was node fits number looked kept

-- a line is injected, or that fails
pub inject-answered : (case : CaseShape) (old new : DeskView) (part : ℕ) (was node : NodeView) (answer : Result Outcome NodeFault)
    → Fits case old was → Fits case new node → node.number ≡ was.number
    → IfOk answer (AnswersAsked case.topology old new (line_asked case was part) (worker_at was) was node)
    → OnErr answer (HasLooked old new) → OnErr answer (HasKept was node) → HasServedLines case (appended answer) (lines_of part 1) old new was node
inject-answered case old new part was node (Ok outcome) before fits number is looked kept =
    inject-served case old new part was node outcome before fits number is
inject-answered case old new part was node (Err why) before fits number is looked kept =
    served-more (lines_of part 1) (served-kept case old new was node fits number looked kept)

-- a timer fires, or that fails
pub fire-answered : (case : CaseShape) (old new : DeskView) (part : ℕ) (was node : NodeView) (answer : Result Outcome NodeFault)
    → Fits case old was → Fits case new node → node.number ≡ was.number
    → IfOk answer (AnswersFire case old new part was node)
    → OnErr answer (HasLooked old new) → OnErr answer (HasKept was node) → HasServed case (appended answer) old new was node
fire-answered case old new part was node (Ok outcome) before fits number is looked kept =
    fire-served case old new part was node outcome before fits number is
fire-answered case old new part was node (Err why) before fits number is looked kept =
    served-kept case old new was node fits number looked kept

-- a row forgets ids, or that fails
pub purge-answered : (case : CaseShape) (old new : DeskView) (interval many : ℕ) (was node : NodeView) (answer : Result Outcome NodeFault)
    → Fits case old was → Fits case new node → node.number ≡ was.number
    → IfOk answer (AnswersPurge case.topology old new interval many was node)
    → OnErr answer (HasLooked old new) → OnErr answer (HasKept was node) → HasServed case (appended answer) old new was node
purge-answered case old new interval many was node (Ok outcome) before fits number is looked kept =
    purge-served case old new interval many was node outcome before fits number is
purge-answered case old new interval many was node (Err why) before fits number is looked kept =
    served-kept case old new was node fits number looked kept

-- own work is reported, or that fails
pub report-answered : (case : CaseShape) (old new : DeskView) (interval : ℕ) (was node : NodeView) (answer : Result Outcome NodeFault)
    → Fits case old was → Fits case new node → node.number ≡ was.number
    → IfOk answer (AnswersReport case old new (held_at was.held interval) was node)
    → OnErr answer (HasLooked old new) → OnErr answer (HasKept was node) → HasServed case (appended answer) old new was node
report-answered case old new interval was node (Ok outcome) before fits number is looked kept =
    served-report case old new interval was node outcome before fits number is
report-answered case old new interval was node (Err why) before fits number is looked kept =
    served-kept case old new was node fits number looked kept

-- a report appends nothing
pub report-few : (case : CaseShape) (old new : DeskView) (here : Option HeldView) (was node : NodeView) (answer : Result Outcome NodeFault)
    → IfOk answer (AnswersReport case old new here was node) → appended answer ≤ 0
report-few case old new None was node (Ok outcome) is = subst (λ (o : Outcome). entries_of o ≤ 0) (sym is.0) (omega arith)
report-few case old new (Some held) was node (Ok (outcomes.Committed commit)) is = absurd is
report-few case old new (Some held) was node (Ok _) is = omega arith
report-few case old new here was node (Err why) is = omega arith

-- a row no longer waits, or that fails
pub settle-answered : (case : CaseShape) (old new : DeskView) (to : RowName) (id : RecordId) (was node : NodeView)
    (answer : Result Outcome NodeFault) → Fits case old was → Fits case new node → node.number ≡ was.number
    → IfOk answer (AnswersAck case.topology old new (held_on case.topology was.held to) to id was node)
    → OnErr answer (HasLooked old new) → OnErr answer (HasKept was node) → HasServed case (appended answer) old new was node
settle-answered case old new to id was node (Ok outcome) before fits number is looked kept =
    served-settle case old new to id was node outcome before fits number is
settle-answered case old new to id was node (Err why) before fits number is looked kept =
    served-kept case old new was node fits number looked kept

-- a record that was handled is so in all that is seen later
pub handled-served : {case : CaseShape} {old new : DeskView} {was node : NodeView} {n : ℕ} (id : RecordId)
    → HasServed case n old new was node → IfSome old.told (λ _. is_handled id old.seen ≡ true)
    → IfSome new.told (λ _. is_handled id new.seen ≡ true)
handled-served {old = old} {new = new} id served handled =
    if-same old.told new.told (is_handled id old.seen ≡ true) (is_handled id new.seen ≡ true) served.worked.told
    (λ was. subst (λ (h : List Entry). is_handled id h ≡ true) (sym served.worked.more)
    (is_handled-more id old.seen served.worked.rest was)) handled

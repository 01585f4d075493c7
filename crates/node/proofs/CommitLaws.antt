-- What a node is once an entry that it asked for stands.
use Rattle.std.proofs.Common.{◌≡◌, ◌∙◌, ◌<◌, ◌+◌, ◌^◌, ℕ, true, false, ◌||◌, List, [], ◌∷◌, ◌++◌, length, refl, sym, ap, subst, inl, inr, arith}
use Rattle.std.specs.Prelude.{All, IfSome, Option, Some, None}
use Rattle.std.specs.List.{list_any}
use Rattle.std.specs.Option.{option_and_then, option_map, option_map_or}
use Rattle.std.proofs.Math.Path.{fun_ext}
use Rattle.std.proofs.lemmas.Bool.{cases_eq}
use Rattle.std.proofs.lemmas.List.{length-append}
use Rattle.std.proofs.lemmas.List.Elements.{All-append, All-from_recursion}
use Rattle.std.proofs.lemmas.List.Folds.{list_any-append}
use Rattle.list_lemmas.proofs.Tests.{or_true}
use Rattle.list_lemmas.proofs.Told.{if-anyway}
use Rattle.mw_types.specs.Outcomes.{EffectsView}
use Rattle.mw_types.specs.declared.delivery.Delivery.{Delivery}
use Rattle.mw_types.specs.declared.entry.Entry.{Entry}
use Rattle.mw_types.specs.declared.entry.Entry.TheVariants as entries
use Rattle.mw_types.specs.declared.identity.RecordId.{RecordId}
use Rattle.mw_types.specs.declared.identity.RowName.{RowName}
use Rattle.topology.specs.Shapes.{Shape}
use Rattle.row_parts.specs.Contents.{Contents, found_delivery}
use Rattle.run_history.specs.Cases.{CaseShape}
use Rattle.run_history.specs.Fences.{IsCurrent, interval_of}
use Rattle.run_history.specs.Finished.{handles, is_handled}
use Rattle.run_history.specs.Made.{deliveries_made, late_cause, row_written}
use Rattle.run_history.specs.Runs.{run_of}
use Rattle.history_laws.proofs.IdLaws.{same_id-itself}
use Rattle.history_laws.proofs.SeenLaws.{found-more}
use Rattle.book.specs.Books.{LeaseView}
use Rattle.book.specs.Desking.{HasWritten, IsKnownOf}
use Rattle.book.specs.Desks.{DeskView, HasMoved, IsSound}
use Rattle.book.specs.Proposals.{IsEntryOf, IsProposable}
use Rattle.book.specs.declared.answers.Written.{Written}
use Rattle.book.specs.declared.proposal.Proposal.{Proposal}
use Rattle.book.specs.declared.proposal.Proposal.TheVariants as proposals
use Rattle.book.proofs.SeenRows.{told-then}
use Rattle.holdings.specs.Holding.{AreAllHeld, HeldView, HoldsEntry, held_at, held_on, row_held}
use Rattle.node.specs.Answers.{AnswersAsked, HasGrown, IsCommitted, made_of}
use Rattle.node.specs.Asking.{Request, handled_as, proposed, work_asked}
use Rattle.node.specs.Fits.{Fits, IsHandled, IsPrepared, IsWork}
use Rattle.outbox.specs.Messages.{IsAddressed, IsOutgoing, IsSentFrom, messages_from}
use Rattle.node.specs.Workers.{NodeView, Sending, Worker, WorkView, leases_of, sending_in, sending_of, with_outgoing, with_written, worker_at}
use Rattle.node.specs.declared.outcome.Outcome.TheVariants as outcomes
use Rattle.outbox.specs.declared.outgoing.Outgoing.TheVariants as outgoing
use Rattle.node.proofs.FitLaws.{HasMore, more-appended, outbox-more}
use Rattle.outbox.proofs.SendLaws.{made-late, made-outgoing}
use Rattle.node.proofs.PurgeLaws.{held-at-on, held-on-at}

-- ---- an entry that stands

-- what is proposed of a row that is held was written, as the desk answered it
abbrev pub HoldsWork : Shape → DeskView → DeskView → ℕ → RowName → Proposal → ℕ → List (Option HeldView)
    → List (Option HeldView) → Type 0
HoldsWork shape old new interval name proposal commit before after =
    HoldsEntry shape interval name commit (λ (lease : LeaseView) (row : Contents) (answer : Written).
    HasWritten old new lease name proposal row answer) before after

-- an entry stands behind what was seen, under the last lease of its interval
pub record IsAppended (old new : DeskView) (lease : LeaseView) (entry : Entry) (commit : ℕ) : Type 0 where
  pub before : List Entry
  pub moved : HasMoved old new before
  pub appended : new.seen ≡ before ++ entry ∷ []
  pub number : commit ≡ length before
  pub last : IsCurrent lease.interval lease.seq before

-- so does that of what was proposed, under the lease of the row's interval
pub appended-written : (shape : Shape) (old new : DeskView) (interval : ℕ) (name : RowName) (proposal : Proposal) (commit : ℕ)
    (before after : List (Option HeldView)) (h : HoldsWork shape old new interval name proposal commit before after) (entry : Entry)
    → h.entry.written.entry ≡ entry → IsAppended old new h.held.lease entry commit
appended-written shape old new interval name proposal commit before after h entry is = record {
  before = h.entry.before;
  moved = h.entry.moved;
  appended = h.entry.written.written.appended ∙ ap (λ (e : Entry). h.entry.before ++ e ∷ []) is;
  number = sym h.number ∙ h.entry.written.written.commit;
  last = h.entry.written.written.last;
}

-- and that of a work, which is that a record was handled
pub appended-work : (shape : Shape) (old new : DeskView) (interval : ℕ) (proposal : Proposal) (delivery : Delivery) (effects : EffectsView)
    (commit : ℕ) (before after : List (Option HeldView)) → proposal ≡ proposals.Handle delivery effects
    → (h : HoldsWork shape old new interval delivery.to proposal commit before after)
    → IsAppended old new h.held.lease (entries.Handle h.held.lease.seq delivery.to delivery.id effects) commit
appended-work shape old new interval proposal delivery effects commit before after is h =
    appended-written shape old new interval delivery.to proposal commit before after h _
    (subst (λ (p : Proposal). IsEntryOf old.case h.held.lease.seq delivery.to p h.entry.written.entry) is h.entry.written.of_proposal)

-- its number can be kept
pub small-number : (old new : DeskView) (lease : LeaseView) (entry : Entry) (commit : ℕ) → IsSound new
    → IsAppended old new lease entry commit → commit < 2 ^ 32
small-number old new lease entry commit sound a =
    let long : length new.seen ≡ length a.before + 1 = ap (λ (h : List Entry). length h) a.appended ∙ length-append a.before (entry ∷ []) in
    omega (arith, sound.limit, sound.few, long, a.number)

-- the desk has seen more
pub more-by : (old new : DeskView) (lease : LeaseView) (entry : Entry) (commit : ℕ) → IsAppended old new lease entry commit → HasMore old new
more-by old new lease entry commit a = more-appended old new a.before entry a.moved a.appended

-- what was asked stands
pub committed : (shape : Shape) (old new : DeskView) (asked : Request) (after : Worker) (node : NodeView) (commit : ℕ)
    (a : IsAppended old new asked.lease asked.entry commit) → row_written asked.entry ≡ Some asked.name
    → IfSome old.told (λ _. late_cause (run_of shape a.before).made asked.entry ≡ asked.late)
    → worker_at node ≡ with_outgoing (made_of shape asked commit) after → IsCommitted shape old new asked after node commit
committed shape old new asked after node commit a on late left = record {
  before = a.before;
  moved = a.moved;
  appended = a.appended;
  number = a.number;
  last = a.last;
  left = left;
  told = told-then old.told (λ _. late_cause (run_of shape a.before).made asked.entry ≡ asked.late) _ late (λ x is.
      ap (messages_from asked.name) (made-late shape a.before asked.entry asked.name asked.late commit on a.number is));
}

-- ---- a record that was handled

-- the record that is handled is as late as it was made
pub late-handled : (case : CaseShape) (old new : DeskView) (before : List Entry) (sender : RowName) (delivery : Delivery) (seq : ℕ)
    (name : RowName) (effects : EffectsView) → HasMoved old new before → IsOutgoing case old (outgoing.Deliver delivery sender)
    → IfSome old.told (λ _. late_cause (run_of case.topology before).made (entries.Handle seq name delivery.id effects) ≡ delivery.item.late)
late-handled case old new before sender delivery seq name effects moved sent =
    let shape = case.topology in
    told-then old.told (λ _. IsSentFrom case old.seen sender delivery) _ sent.so (λ x is.
    ap (λ (o : Option Delivery). option_map_or (λ (d : Delivery). d.item.late) o false)
    (ap (λ (h : List Entry). found_delivery delivery.id (run_of shape h).made) moved.more
    ∙ found-more shape old.seen moved.others delivery.id delivery is.made))

-- the record is handled then
handled-last : (seen before : List Entry) (seq : ℕ) (name : RowName) (id : RecordId) (effects : EffectsView)
    → seen ≡ before ++ entries.Handle seq name id effects ∷ [] → is_handled id seen ≡ true
handled-last seen before seq name id effects appended =
    ap (is_handled id) appended ∙ list_any-append (handles id) before (entries.Handle seq name id effects ∷ [])
    ∙ ap (λ b. list_any (handles id) before || (b || false)) (same_id-itself id) ∙ or_true (list_any (handles id) before)

-- what a work that was written leaves of a node
abbrev pub written_by : Shape → List (Option HeldView) → RowName → Delivery → EffectsView → ℕ → NodeView → NodeView
written_by shape held sender delivery effects commit node = record node {
  held = held;
  prepared = None;
  outbox = (node.outbox ++ outgoing.Ack sender delivery.id ∷ [])
      ++ messages_from delivery.to (deliveries_made shape delivery.to.part effects.productions delivery.item.late commit);
}

-- a node that has written its work fits
pub Fits-written : (case : CaseShape) (old new : DeskView) (node : NodeView) (held : List (Option HeldView)) (sender : RowName)
    (delivery : Delivery) (effects : EffectsView) (lease : LeaseView) (commit : ℕ)
    → IsAppended old new lease (entries.Handle lease.seq delivery.to delivery.id effects) commit
    → AreAllHeld case new held → IsHandled case old node.held sender delivery effects
    → All (IsAddressed case.topology)
    (messages_from delivery.to (deliveries_made case.topology delivery.to.part effects.productions delivery.item.late commit))
    → Fits case old node → Fits case new (written_by case.topology held sender delivery effects commit node)
Fits-written case old new node held sender delivery effects lease commit a fit work addressed fits =
    let entry = entries.Handle lease.seq delivery.to delivery.id effects in
    let more = more-by old new lease entry commit a in
    let ack : IsOutgoing case new (outgoing.Ack sender delivery.id) = record {
      so = if-anyway new.told (is_handled delivery.id new.seen ≡ true)
          (handled-last new.seen a.before lease.seq delivery.to delivery.id effects a.appended);
      addressed = work.sent.addressed.from;
    } in
    let late = late-handled case old new a.before sender delivery lease.seq delivery.to effects a.moved work.sent in
    let made = messages_from delivery.to (deliveries_made case.topology delivery.to.part effects.productions delivery.item.late commit) in record {
      of_case = more.case ∙ fits.of_case;
      held = fit;
      work = tt;
      outbox = All-append (IsOutgoing case new) (node.outbox ++ outgoing.Ack sender delivery.id ∷ []) made
          (All-append (IsOutgoing case new) node.outbox (outgoing.Ack sender delivery.id ∷ [])
          (outbox-more case old new node.outbox more fits.outbox)
          (All-from_recursion (IsOutgoing case new) (outgoing.Ack sender delivery.id ∷ []) (ack, tt)))
          (made-outgoing case new a.before entry delivery.to delivery.item.late commit a.appended refl a.number
          (subst (λ (o : Option Unit). IfSome o (λ _. late_cause (run_of case.topology a.before).made entry ≡ delivery.item.late))
          (sym more.told) late) addressed);
    }

-- ---- what is asked

-- what a node has prepared, with what it holds
pub work-asked : (shape : Shape) (node : NodeView) (work : WorkView) (delivery : Delivery) (effects : EffectsView) (held : HeldView)
    → node.prepared ≡ Some work → work.proposal ≡ proposals.Handle delivery effects → held_on shape node.held delivery.to ≡ Some held
    → work_asked shape node ≡ Some (handled_as delivery effects held)
work-asked shape node work delivery effects held prepared is there =
    ap (λ (o : Option WorkView). option_and_then (λ (w : WorkView). proposed shape node.held w.proposal) o) prepared
    ∙ ap (proposed shape node.held) is ∙ ap (option_map (handled_as delivery effects)) there

-- and as a record that was sent
pub work-sending : (node : NodeView) (work : WorkView) (delivery : Delivery) (effects : EffectsView) → node.prepared ≡ Some work
    → work.proposal ≡ proposals.Handle delivery effects
    → sending_of node ≡ Some (record { delivery = delivery; sender = work.sender })
work-sending node work delivery effects prepared is =
    ap (λ (o : Option WorkView). option_and_then (λ (w : WorkView). sending_in w.sender w.proposal) o) prepared
    ∙ ap (sending_in work.sender) is

-- the leases once a row was written
pub leases-written : (shape : Shape) (interval : ℕ) (name : RowName) (commit : ℕ) (IsEntry : LeaseView → Contents → Written → Type 0)
    (before after : List (Option HeldView)) → HoldsEntry shape interval name commit IsEntry before after
    → leases_of after ≡ leases_of before
leases-written shape interval name commit IsEntry before after h = fun_ext (λ i. elim (cases_eq i interval) [
  | inl same ↦ ap (leases_of after) same ∙ ap (option_map (λ (held : HeldView). held.lease.seq)) (h.is ∙ refl)
      ∙ sym (ap (option_map (λ (held : HeldView). held.lease.seq)) h.was) ∙ sym (ap (leases_of before) same)
  | inr other ↦ ap (option_map (λ (held : HeldView). held.lease.seq)) (h.others i other)
])

-- a node that has written its work answers so
pub answers-written : (case : CaseShape) (old new : DeskView) (node : NodeView) (held : List (Option HeldView)) (work : WorkView)
    (delivery : Delivery) (effects : EffectsView) (interval commit : ℕ) → node.prepared ≡ Some work
    → work.proposal ≡ proposals.Handle delivery effects → interval_of case.topology delivery.to ≡ Some interval
    → HoldsWork case.topology old new interval delivery.to work.proposal commit node.held held
    → IsOutgoing case old (outgoing.Deliver delivery work.sender)
    → AnswersAsked case.topology old new (work_asked case.topology node) (with_written (sending_of node) (worker_at node)) node
    (written_by case.topology held work.sender delivery effects commit node) (outcomes.Committed commit)
answers-written case old new node held work delivery effects interval commit prepared is covers h sent =
    let shape = case.topology in
    let sending : Sending = record { delivery = delivery; sender = work.sender } in
    let asked = handled_as delivery effects h.held in
    let after = written_by shape held work.sender delivery effects commit node in
    let a = appended-work shape old new interval work.proposal delivery effects commit node.held held is h in
    let left : worker_at after ≡ with_outgoing (made_of shape asked commit) (with_written (Some sending) (worker_at node)) =
    ap (λ (l : ℕ → Option ℕ). record { leases = l; prepared = None; outbox = after.outbox })
    (leases-written shape interval delivery.to commit _ node.held held h) in
    subst (λ (o : Option Sending). AnswersAsked shape old new (work_asked shape node) (with_written o (worker_at node)) node after (outcomes.Committed commit))
    (sym (work-sending node work delivery effects prepared is))
    (subst (λ (o : Option Request). AnswersAsked shape old new o (with_written (Some sending) (worker_at node)) node after (outcomes.Committed commit))
    (sym (work-asked shape node work delivery effects h.held prepared is (held-on-at shape node.held delivery.to interval h.held covers h.was)))
    (committed shape old new asked (with_written (Some sending) (worker_at node)) after commit a refl
    (late-handled case old new a.before work.sender delivery h.held.lease.seq delivery.to effects a.moved sent) left))

-- an entry under a lease that is held is the node's own
pub grown-by : (all : List (Option HeldView)) (old new : DeskView) (interval : ℕ) (held : HeldView) (entry : Entry) (commit : ℕ)
    → held_at all interval ≡ Some held → IsAppended old new held.lease entry commit
    → Rattle.run_history.specs.Fences.sequencer_of entry ≡ Some held.lease.seq → HasGrown all old new
grown-by all old new interval held entry commit there a carries = record {
  before = a.before;
  moved = a.moved;
  own = Some entry;
  appended = a.appended;
  under = inr (interval, held, there, carries);
}

-- ---- a work that is prepared may be written

-- the record of a work that is prepared
pub work-of : (case : CaseShape) (desk : DeskView) (node : NodeView) (work : WorkView) (delivery : Delivery) (effects : EffectsView)
    → Fits case desk node → node.prepared ≡ Some work → work.proposal ≡ proposals.Handle delivery effects
    → IsHandled case desk node.held work.sender delivery effects
work-of case desk node work delivery effects fits prepared is = subst (IsPrepared case desk node.held work.sender) is
    (subst (λ (o : Option WorkView). IfSome o (IsWork case desk node.held)) prepared fits.work)

-- the work may be proposed
pub work-proposable : (case : CaseShape) (desk : DeskView) (all : List (Option HeldView)) (sender : RowName) (delivery : Delivery)
    (effects : EffectsView) (proposal : Proposal) (interval : ℕ) → proposal ≡ proposals.Handle delivery effects
    → interval_of case.topology delivery.to ≡ Some interval → IsHandled case desk all sender delivery effects
    → IfSome (held_at all interval) (λ held. IsProposable case delivery.to (row_held case.topology held delivery.to) proposal)
work-proposable case desk all sender delivery effects proposal interval is covers work =
    subst (λ (o : Option HeldView). IfSome o (λ held. IsProposable case delivery.to (row_held case.topology held delivery.to) proposal))
    (sym (held-at-on case.topology all delivery.to interval work.held work.there covers))
    (subst (IsProposable case delivery.to (row_held case.topology work.held delivery.to)) (sym is) work.handling)

-- and its record was made
pub work-known : (case : CaseShape) (desk : DeskView) (all : List (Option HeldView)) (sender : RowName) (delivery : Delivery)
    (effects : EffectsView) (proposal : Proposal) → proposal ≡ proposals.Handle delivery effects → desk.case ≡ case
    → IsHandled case desk all sender delivery effects → IsKnownOf desk delivery.to proposal
work-known case desk all sender delivery effects proposal is same work = subst (IsKnownOf desk delivery.to) (sym is)
    (subst (λ (k : CaseShape). IfSome desk.told (λ _. found_delivery delivery.id (run_of k.topology desk.seen).made ≡ Some delivery)) (sym same)
    (told-then desk.told (λ _. IsSentFrom case desk.seen sender delivery) _ work.sent.so (λ x sent. sent.made)))

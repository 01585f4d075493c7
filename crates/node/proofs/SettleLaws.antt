-- What a node leaves when word comes that what a row sent was handled.
use Rattle.std.proofs.Common.{◌≡◌, ◌∙◌, ℕ, true, false, List, [], length, refl, sym, ap, subst, inl, inr}
use Rattle.std.proofs.lemmas.List.{append-nil}
use Rattle.std.specs.Prelude.{IfErr, IfOk, IfSome, Option, Some, None, Result, Ok, Err}
use Rattle.std.specs.Option.{is_some, option_and_then, option_map}
use Rattle.std.proofs.lemmas.Bool.{cases_eq}
use Rattle.list_lemmas.proofs.Told.{if-anyway}
use Rattle.mw_types.specs.Outcomes.{EffectsView}
use Rattle.mw_types.specs.declared.delivery.Delivery.{Delivery}
use Rattle.mw_types.specs.declared.entry.Entry.TheVariants as entries
use Rattle.mw_types.specs.declared.identity.RecordId.{RecordId}
use Rattle.mw_types.specs.declared.identity.RowName.{RowName}
use Rattle.topology.specs.Shapes.{Shape}
use Rattle.row_parts.specs.Contents.{Contents, found_delivery}
use Rattle.run_history.specs.Cases.{CaseShape}
use Rattle.run_history.specs.Fences.{interval_of}
use Rattle.run_history.specs.Runs.{written_row}
use Rattle.list_lemmas.proofs.Lists.{some_same}
use Rattle.book.specs.Books.{LeaseView}
use Rattle.book.specs.Desking.{HasStored}
use Rattle.book.specs.Desks.{DeskView, HasLooked}
use Rattle.book.specs.Proposals.{IsHandling}
use Rattle.book.specs.declared.answers.Written.{Written}
use Rattle.book.specs.declared.desk_refusal.DeskRefusal.{DeskRefusal}
use Rattle.book.specs.declared.proposal.Proposal.{Proposal}
use Rattle.book.specs.declared.proposal.Proposal.TheVariants as proposals
use Rattle.holdings.specs.Holding.{AreAllHeld, HeldView, HoldsEntry, IsRefusedOf, held_at, held_on, row_held, with_row}
use Rattle.holdings.proofs.HeldRows.{name_or_not, row_held-here, row_held-other}
use Rattle.node.specs.Answers.{AnswersAck, AnswersAsked, AnswersWrite, FailsAsked, HasKept, IsRefused, made_of, refusal_of}
use Rattle.node.specs.Asking.{Request, settle_asked, settling}
use Rattle.node.specs.Fits.{Fits, IsHandled, IsPrepared, IsWork}
use Rattle.node.specs.Steps.{HasYielded, answered}
use Rattle.node.specs.Workers.{NodeView, WorkView, sending_of, with_outgoing, worker_at}
use Rattle.node.specs.declared.outcome.NodeFault.{NodeFault}
use Rattle.node.specs.declared.outcome.Outcome.{Outcome}
use Rattle.node.specs.declared.outcome.Outcome.TheVariants as outcomes
use Rattle.outbox.specs.declared.outgoing.Outgoing.{Outgoing}
use Rattle.outbox.specs.declared.outgoing.Outgoing.TheVariants as outgoing
use Rattle.node.proofs.CommitLaws.{IsAppended, committed, leases-written, more-by}
use Rattle.node.proofs.FitLaws.{HasMore, fails-refused, held-interval, outbox-more, outgoing-more}
use Rattle.node.proofs.PurgeLaws.{holding, ok-answers, held-on-at}
use Rattle.node.proofs.RefusedLaws.{reason-at, refused-held}

-- ---- what is asked

-- that what a row sent was handled
abbrev pub settled_as : RowName → RecordId → HeldView → Request
settled_as to id held = record { lease = held.lease; name = to; entry = entries.Ack held.lease.seq to id; late = false }

mapped-some : {X Y : Type 0} (y : Y) (o : Option X) → is_some o ≡ true → option_map (λ (x : X). y) o ≡ Some y
mapped-some y None is = absurd cc
mapped-some y (Some x) is = refl

-- it is asked where the id is pending
pub pending-asked : (shape : Shape) (to : RowName) (id : RecordId) (held : HeldView)
    → is_some (found_delivery id (row_held shape held to).pending) ≡ true → settling shape to id held ≡ Some (settled_as to id held)
pending-asked shape to id held is = mapped-some (settled_as to id held) (found_delivery id (row_held shape held to).pending) is

-- ---- an entry that stands

-- word for a row that is held, as the desk answered it
abbrev pub HoldsAck : Shape → DeskView → DeskView → ℕ → RowName → RecordId → ℕ → List (Option HeldView) → List (Option HeldView) → Type 0
HoldsAck shape old new interval to id commit before after = HoldsEntry shape interval to commit
    (λ (lease : LeaseView) (row : Contents) (answer : Written). HasStored old new lease to (entries.Ack lease.seq to id) row
    (λ (number : ℕ). written_row number (entries.Ack lease.seq to id) [] row) answer) before after

-- it stands under the lease that was held
pub appended-settled : (shape : Shape) (old new : DeskView) (interval : ℕ) (to : RowName) (id : RecordId) (commit : ℕ)
    (before after : List (Option HeldView)) (h : HoldsAck shape old new interval to id commit before after)
    → IsAppended old new h.held.lease (entries.Ack h.held.lease.seq to id) commit
appended-settled shape old new interval to id commit before after h =
    subst (IsAppended old new h.held.lease (entries.Ack h.held.lease.seq to id)) h.number (record {
      before = h.entry.before;
      moved = h.entry.moved;
      appended = h.entry.written.appended;
      number = h.entry.written.commit;
      last = h.entry.written.last;
    })

-- ---- what is prepared

-- what is handled on a row stays so where what it sent is settled
handling-settled : (case : CaseShape) (name to : RowName) (number seq : ℕ) (id : RecordId) (row : Contents) (d : Delivery)
    (effects : EffectsView)
    → IsHandling case name row d effects → IsHandling case name (written_row number (entries.Ack seq to id) [] row) d effects
handling-settled case name to number seq id row d effects is =
    record { id = is.id; to_row = is.to_row; new = is.new; does = is.does }

-- and on the rows that are held
handling-held : (case : CaseShape) (to : RowName) (number seq : ℕ) (id : RecordId) (left : Contents) (held : HeldView) (d : Delivery)
    (effects : EffectsView) → left ≡ written_row number (entries.Ack seq to id) [] (row_held case.topology held to)
    → IsHandling case d.to (row_held case.topology held d.to) d effects
    → IsHandling case d.to (row_held case.topology (with_row to left held) d.to) d effects
handling-held case to number seq id left held d effects leaves is = elim (name_or_not d.to to) [
  | inl here ↦
      let shape = case.topology in
      let was = subst (λ (r : Contents). IsHandling case d.to r d effects) (ap (row_held shape held) here) is in
      subst (λ (r : Contents). IsHandling case d.to r d effects)
      (sym (ap (row_held shape (with_row to left held)) here ∙ row_held-here shape to left held ∙ leaves))
      (handling-settled case d.to to number seq id (row_held shape held to) d effects was)
  | inr apart ↦ subst (λ (r : Contents). IsHandling case d.to r d effects) (sym (row_held-other case.topology to d.to left held apart)) is
]

-- a record that was handled stays right
handled-settled : (case : CaseShape) (old new : DeskView) (before after : List (Option HeldView)) (interval : ℕ) (to : RowName)
    (id : RecordId) (commit : ℕ) (sender : RowName) (d : Delivery) (effects : EffectsView) → HasMore old new
    → HoldsAck case.topology old new interval to id commit before after → IsHandled case old before sender d effects
    → IsHandled case new after sender d effects
handled-settled case old new before after interval to id commit sender d effects more h is =
    let shape = case.topology in
    let on = held-interval shape before d.to is.held is.there in
    let sent = outgoing-more case old new (outgoing.Deliver d sender) more is.sent in elim (cases_eq on.0 interval) [
      | inl here ↦
          let same : is.held ≡ h.held = some_same _ _ (sym on.2 ∙ ap (held_at before) here ∙ h.was) in
          let was = subst (λ (held : HeldView). IsHandling case d.to (row_held shape held d.to) d effects) same is.handling in
          record {
            sent = sent;
            held = with_row to h.answer.row h.held;
            there = ap (option_and_then (held_at after)) on.1 ∙ ap (held_at after) here ∙ h.is;
            handling = handling-held case to (length h.entry.before) h.held.lease.seq id h.answer.row h.held d effects
                h.entry.written.changed_alone was;
          }
      | inr other ↦ record {
        sent = sent;
        held = is.held;
        there = ap (option_and_then (held_at after)) on.1 ∙ h.others on.0 other ∙ on.2;
        handling = is.handling;
      }
    ]

-- and so what is proposed of it
prepared-settled : (case : CaseShape) (old new : DeskView) (before after : List (Option HeldView)) (interval : ℕ) (to : RowName)
    (id : RecordId) (commit : ℕ) (sender : RowName) (proposal : Proposal) → HasMore old new
    → HoldsAck case.topology old new interval to id commit before after → IsPrepared case old before sender proposal
    → IsPrepared case new after sender proposal
prepared-settled case old new before after interval to id commit sender (proposals.Handle d effects) more h is =
    handled-settled case old new before after interval to id commit sender d effects more h is
prepared-settled case old new before after interval to id commit sender (proposals.Inject line) more h is = absurd is
prepared-settled case old new before after interval to id commit sender (proposals.Fire timer mark effects) more h is = absurd is

-- the same of what may be prepared
works-settled : (case : CaseShape) (old new : DeskView) (before after : List (Option HeldView)) (interval : ℕ) (to : RowName)
    (id : RecordId) (commit : ℕ) (work : Option WorkView) → HasMore old new
    → HoldsAck case.topology old new interval to id commit before after → IfSome work (IsWork case old before)
    → IfSome work (IsWork case new after)
works-settled case old new before after interval to id commit None more h is = tt
works-settled case old new before after interval to id commit (Some work) more h is =
    prepared-settled case old new before after interval to id commit work.sender work.proposal more h is

-- the node fits
pub Fits-settled : (case : CaseShape) (old new : DeskView) (node : NodeView) (interval : ℕ) (to : RowName) (id : RecordId) (commit : ℕ)
    (held : List (Option HeldView)) → HoldsAck case.topology old new interval to id commit node.held held → AreAllHeld case new held
    → Fits case old node → Fits case new (holding held node)
Fits-settled case old new node interval to id commit held h fit fits =
    let more = more-by old new h.held.lease (entries.Ack h.held.lease.seq to id) commit
    (appended-settled case.topology old new interval to id commit node.held held h) in record {
      of_case = more.case ∙ fits.of_case;
      held = fit;
      work = works-settled case old new node.held held interval to id commit node.prepared more h fits.work;
      outbox = outbox-more case old new node.outbox more fits.outbox;
    }

-- ---- what is answered

-- the answer to what was asked
pub ack-answers : (shape : Shape) (old new : DeskView) (was node : NodeView) (to : RowName) (id : RecordId) (held : HeldView)
    (outcome : Outcome) → held_on shape was.held to ≡ Some held
    → is_some (found_delivery id (row_held shape held to).pending) ≡ true
    → AnswersWrite shape old new (settled_as to id held) (worker_at was) was node outcome
    → AnswersAck shape old new (held_on shape was.held to) to id was node outcome
ack-answers shape old new was node to id held outcome there pending is =
    subst (λ (o : Option HeldView). AnswersAck shape old new o to id was node outcome) (sym there)
    (subst (λ (o : Option Request). AnswersAsked shape old new o (worker_at was) was node outcome)
    (sym (pending-asked shape to id held pending)) is)

-- the entry stands: it makes nothing, and the leases are as they were
pub answers-settled : (case : CaseShape) (old new : DeskView) (node : NodeView) (interval : ℕ) (to : RowName) (id : RecordId) (commit : ℕ)
    (after : List (Option HeldView)) (h : HoldsAck case.topology old new interval to id commit node.held after)
    → interval_of case.topology to ≡ Some interval → is_some (found_delivery id (row_held case.topology h.held to).pending) ≡ true
    → AnswersAck case.topology old new (held_on case.topology node.held to) to id node (holding after node) (outcomes.Committed commit)
answers-settled case old new node interval to id commit after h covers pending =
    let shape = case.topology in
    let asked = settled_as to id h.held in
    let left : worker_at (holding after node) ≡ with_outgoing (made_of shape asked commit) (worker_at node) =
    ap (λ (l : ℕ → Option ℕ). record { leases = l; prepared = sending_of node; outbox = node.outbox })
    (leases-written shape interval to commit _ node.held after h)
    ∙ ap (λ (o : List Outgoing). record (worker_at node) { outbox = o }) (sym (append-nil node.outbox)) in
    ack-answers shape old new node (holding after node) to id h.held (outcomes.Committed commit)
    (held-on-at shape node.held to interval h.held covers h.was) pending
    (committed shape old new asked (worker_at node) (holding after node) commit
    (appended-settled shape old new interval to id commit node.held after h) refl (if-anyway old.told _ refl) left)

-- the desk refused
pub answers-unsettled : (case : CaseShape) (old new : DeskView) (was mid node : NodeView) (interval : ℕ) (here : HeldView) (to : RowName)
    (id : RecordId) (why : DeskRefusal) → interval_of case.topology to ≡ Some interval → held_at was.held interval ≡ Some here
    → is_some (found_delivery id (row_held case.topology here to).pending) ≡ true → Fits case old was → HasLooked old new
    → IsRefusedOf old new was.held interval why → HasKept was mid → HasYielded case.topology interval why mid node
    → IfOk (answered why) (AnswersAck case.topology old new (held_on case.topology was.held to) to id was node)
answers-unsettled case old new was mid node interval here to id why covers at pending fits looked reason kept left =
    let shape = case.topology in
    ok-answers (answered why) (AnswersWrite shape old new (settled_as to id here) (worker_at was) was node)
    (AnswersAck shape old new (held_on shape was.held to) to id was node)
    (λ outcome is. ack-answers shape old new was node to id here outcome (held-on-at shape was.held to interval here covers at) pending is)
    (refused-held case old new was mid node interval here (settled_as to id here) why fits at refl looked reason kept left)

-- why a call fails, by what was asked
pub fails-asked : (old new : DeskView) (o : Option Request) (asked : Request) (result : Result Outcome NodeFault) → o ≡ Some asked
    → IfErr result (λ fault. IsRefused old new asked.lease (refusal_of fault)) → IfErr result (FailsAsked old new o)
fails-asked old new o asked (Ok outcome) is why = tt
fails-asked old new o asked (Err fault) is why = subst (λ (r : Option Request). FailsAsked old new r fault) (sym is) why

-- and so of an acknowledgement
pub fails-unsettled : (shape : Shape) (old new : DeskView) (was : NodeView) (interval : ℕ) (here : HeldView) (to : RowName)
    (id : RecordId) (why : DeskRefusal) → interval_of shape to ≡ Some interval → held_at was.held interval ≡ Some here
    → is_some (found_delivery id (row_held shape here to).pending) ≡ true → IsRefusedOf old new was.held interval why
    → IfErr (answered why) (FailsAsked old new (settle_asked shape was to id))
fails-unsettled shape old new was interval here to id why covers at pending reason =
    fails-asked old new (settle_asked shape was to id) (settled_as to id here) (answered why)
    (ap (option_and_then (settling shape to id)) (held-on-at shape was.held to interval here covers at) ∙ pending-asked shape
    to id here pending)
    (fails-refused old new here.lease why (reason-at old new was.held interval here why at reason))

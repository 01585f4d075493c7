-- What a node asks for of the next line of an injector, and what it leaves once the line is injected.
use Rattle.std.proofs.Common.{◌≡◌, ◌∙◌, ◌<◌, ◌≤◌, ◌^◌, ℕ, List, ◌++◌, refl, sym, ap, subst, arith, inl, inr}
use Rattle.std.specs.Prelude.{All, IfErr, IfOk, IfSome, IsSome, Option, Some, None}
use Rattle.std.specs.Option.{option_and_then, option_map}
use Rattle.std.proofs.lemmas.Bool.{cases_eq, lt-ltb}
use Rattle.std.proofs.lemmas.List.Elements.{All-append}
use Rattle.list_lemmas.proofs.Told.{if-anyway}
use Rattle.mw_types.specs.Outcomes.{EffectsView}
use Rattle.mw_types.specs.declared.delivery.Delivery.{Delivery}
use Rattle.mw_types.specs.declared.entry.Entry.TheVariants as entries
use Rattle.mw_types.specs.declared.identity.RowName.{RowName}
use Rattle.mw_types.specs.declared.record.Record.{Record}
use Rattle.injector.specs.Sources.{item_at}
use Rattle.injector.specs.declared.item.Item.{Item}
use Rattle.topology.specs.Shapes.{Shape, injectors_of}
use Rattle.row_parts.specs.Contents.{Contents}
use Rattle.run_history.specs.Cases.{CaseShape, record_of, source_of}
use Rattle.run_history.specs.Fences.{interval_of}
use Rattle.run_history.specs.Made.{late_cause}
use Rattle.run_history.specs.Runs.{run_of}
use Rattle.list_lemmas.proofs.Lists.{some_same}
use Rattle.book.specs.Desks.{DeskView, HasLooked, IsSound}
use Rattle.book.specs.Proposals.{IsHandling, IsNextLine}
use Rattle.book.specs.declared.desk_refusal.DeskRefusal.{DeskRefusal}
use Rattle.book.specs.declared.proposal.Proposal.{Proposal}
use Rattle.book.specs.declared.proposal.Proposal.TheVariants as proposals
use Rattle.holdings.specs.Holding.{AreAllHeld, HeldView, IsRefusedOf, held_at, row_held, with_row}
use Rattle.holdings.proofs.HeldRows.{row_held-other}
use Rattle.node.specs.Answers.{AnswersAsked, AnswersWrite, FailsAsked, HasKept, made_of}
use Rattle.node.specs.Asking.{Request, line_asked, next_line}
use Rattle.node.specs.Fits.{Fits, IsHandled, IsPrepared, IsWork}
use Rattle.node.specs.LineSteps.{IsLineNext, injector_row, line_deliveries}
use Rattle.outbox.specs.Messages.{IsAddressed, IsOutgoing, messages_from}
use Rattle.node.specs.Steps.{HasYielded, answered}
use Rattle.node.specs.Workers.{NodeView, WorkView, with_outgoing, worker_at}
use Rattle.node.specs.declared.outcome.Outcome.TheVariants as outcomes
use Rattle.outbox.specs.declared.outgoing.Outgoing.TheVariants as outgoing
use Rattle.node.proofs.CommitLaws.{HoldsWork, IsAppended, appended-written, committed, leases-written, more-by, small-number}
use Rattle.node.proofs.FitLaws.{HasMore, fails-refused, held-interval, outbox-more, outgoing-more}
use Rattle.node.proofs.PurgeLaws.{ok-answers, held-at-on}
use Rattle.node.proofs.RefusedLaws.{reason-at, refused-held}
use Rattle.outbox.proofs.SendLaws.{made-outgoing}
use Rattle.node.proofs.SettleLaws.{fails-asked}

-- ---- what is asked

-- a line of an injector's row that is held
abbrev pub injecting : ℕ → ℕ → Record → HeldView → Request
injecting part line item held = record {
  lease = held.lease;
  name = injector_row part;
  entry = entries.Inject held.lease.seq part line item;
  late = item.late;
}

-- what is asked of the record of a line
asked-item : (o : Option Item) (item : Record) (ask : Record → Request) → option_map record_of o ≡ Some item
    → option_map (λ (i : Item). ask (record_of i)) o ≡ Some (ask item)
asked-item None item ask is = absurd cc
asked-item (Some i) item ask is = ap (λ (r : Record). Some (ask r)) (some_same (record_of i) item is)

-- the next line is asked
pub asked-line : (case : CaseShape) (node : NodeView) (part line : ℕ) (item : Record) (next : IsLineNext case node part line)
    → option_map record_of (item_at (source_of case part) line) ≡ Some item
    → line_asked case node part ≡ Some (injecting part line item next.held)
asked-line case node part line item next is =
    let name = injector_row part in
    ap (option_and_then (next_line case name)) next.there
    ∙ subst (λ (l : ℕ). option_map (λ (i : Item). injecting part l (record_of i) next.held) (item_at (source_of case part) l)
    ≡ Some (injecting part line item next.held)) next.next
    (asked-item (item_at (source_of case part) line) item (λ (r : Record). injecting part line r next.held) is)

-- the injector's row is held
pub next-there : (case : CaseShape) (node : NodeView) (part line interval : ℕ) (name : RowName) → name ≡ injector_row part
    → IsLineNext case node part line → interval_of case.topology name ≡ Some interval → IsSome (held_at node.held interval)
next-there case node part line interval name is next covers =
    subst (λ (o : Option HeldView). IsSome o) (sym (held-at-on case.topology node.held (injector_row part) interval next.held next.there
    (subst (λ (n : RowName). interval_of case.topology n ≡ Some interval) is covers))) refl

-- it may be proposed
pub next-line : (case : CaseShape) (node : NodeView) (part line interval : ℕ) (name : RowName) → name ≡ injector_row part
    → IsLineNext case node part line → interval_of case.topology name ≡ Some interval
    → IfSome (held_at node.held interval) (λ held. IsNextLine case name (row_held case.topology held name) line)
next-line case node part line interval name is next covers =
    let shape = case.topology in
    let IsOne = λ (n : RowName) (o : Option HeldView). IfSome o (λ held. IsNextLine case n (row_held shape held n) line) in
    let at = held-at-on shape node.held (injector_row part) interval next.held next.there
    (subst (λ (n : RowName). interval_of shape n ≡ Some interval) is covers) in
    subst (λ (n : RowName). IsOne n (held_at node.held interval)) (sym is) (subst (IsOne (injector_row part)) (sym at) (record {
      injector = lt-ltb part (injectors_of shape) next.injector;
      no_key = refl;
      next = next.next;
      there = next.within;
    }))

-- ---- a line that was injected

-- a line of an injector's row that is held, as the desk answered it
abbrev HoldsOwn : Shape → DeskView → DeskView → ℕ → ℕ → ℕ → ℕ → List (Option HeldView) → List (Option HeldView) → Type 0
HoldsOwn shape old new interval part line commit before after =
    HoldsWork shape old new interval (injector_row part) (proposals.Inject line) commit before after

-- its entry stands
pub appended-line : (case : CaseShape) (old new : DeskView) (interval part line : ℕ) (item : Record) (commit : ℕ)
    (before after : List (Option HeldView)) → old.case ≡ case → option_map record_of (item_at (source_of case part) line) ≡ Some item
    → (h : HoldsOwn case.topology old new interval part line commit before after)
    → IsAppended old new h.held.lease (entries.Inject h.held.lease.seq part line item) commit
appended-line case old new interval part line item commit before after of_case is h =
    let entry = h.entry.written.of_proposal in
    let found = subst (λ (k : CaseShape). option_map record_of (item_at (source_of k part) line) ≡ Some entry.0) of_case entry.1.0 in
    appended-written case.topology old new interval (injector_row part) (proposals.Inject line) commit before after h _
    (entry.1.1 ∙ ap (entries.Inject h.held.lease.seq part line) (some_same entry.0 item (sym found ∙ is)))

-- ---- what is prepared

-- a record that was handled stays right beside a row that was written of another part
handled-apart : (case : CaseShape) (old new : DeskView) (before after : List (Option HeldView)) (interval part line commit : ℕ)
    (sender : RowName) (d : Delivery) (effects : EffectsView) → HasMore old new → part < injectors_of case.topology
    → HoldsOwn case.topology old new interval part line commit before after → IsHandled case old before sender d effects
    → IsHandled case new after sender d effects
handled-apart case old new before after interval part line commit sender d effects more injector h is =
    let shape = case.topology in
    let name = injector_row part in
    let on = held-interval shape before d.to is.held is.there in
    let sent = outgoing-more case old new (outgoing.Deliver d sender) more is.sent in
    let computes : injectors_of shape ≤ d.to.part = is.sent.addressed.to.no_injector in
    let apart : d.to ≡ name → ⊥ = λ same.
    absurd (let part_same : d.to.part ≡ part = ap (λ (n : RowName). n.part) same in omega (arith, part_same, computes, injector)) in
    elim (cases_eq on.0 interval) [
      | inl here ↦
          let same : is.held ≡ h.held = some_same _ _ (sym on.2 ∙ ap (held_at before) here ∙ h.was) in
          record {
            sent = sent;
            held = with_row name h.answer.row h.held;
            there = ap (option_and_then (held_at after)) on.1 ∙ ap (held_at after) here ∙ h.is;
            handling = subst (λ (r : Contents). IsHandling case d.to r d effects)
                (ap (λ (held : HeldView). row_held shape held d.to) same ∙ sym (row_held-other shape name d.to h.answer.row h.held apart))
                is.handling;
          }
      | inr other ↦ record {
        sent = sent;
        held = is.held;
        there = ap (option_and_then (held_at after)) on.1 ∙ h.others on.0 other ∙ on.2;
        handling = is.handling;
      }
    ]

-- and so what is proposed of it
prepared-apart : (case : CaseShape) (old new : DeskView) (before after : List (Option HeldView)) (interval part line commit : ℕ)
    (sender : RowName) (proposal : Proposal) → HasMore old new → part < injectors_of case.topology
    → HoldsOwn case.topology old new interval part line commit before after → IsPrepared case old before sender proposal
    → IsPrepared case new after sender proposal
prepared-apart case old new before after interval part line commit sender (proposals.Handle d effects) more injector h is =
    handled-apart case old new before after interval part line commit sender d effects more injector h is
prepared-apart case old new before after interval part line commit sender (proposals.Inject other) more injector h is = absurd is
prepared-apart case old new before after interval part line commit sender (proposals.Fire timer mark effects) more injector h is =
    absurd is

-- the same of what may be prepared
works-apart : (case : CaseShape) (old new : DeskView) (before after : List (Option HeldView)) (interval part line commit : ℕ)
    (work : Option WorkView) → HasMore old new → part < injectors_of case.topology
    → HoldsOwn case.topology old new interval part line commit before after → IfSome work (IsWork case old before)
    → IfSome work (IsWork case new after)
works-apart case old new before after interval part line commit None more injector h is = tt
works-apart case old new before after interval part line commit (Some work) more injector h is =
    prepared-apart case old new before after interval part line commit work.sender work.proposal more injector h is

-- ---- what is left

-- what an injected line leaves of a node
abbrev pub injected_by : Shape → List (Option HeldView) → ℕ → Record → ℕ → NodeView → NodeView
injected_by shape held part item commit node = record node {
  held = held;
  outbox = node.outbox ++ messages_from (injector_row part) (line_deliveries shape part item commit);
}

-- it fits
pub Fits-injected : (case : CaseShape) (old new : DeskView) (node : NodeView) (interval part line : ℕ) (item : Record) (commit : ℕ)
    (after : List (Option HeldView)) → option_map record_of (item_at (source_of case part) line) ≡ Some item
    → HoldsOwn case.topology old new interval part line commit node.held after → AreAllHeld case new after
    → part < injectors_of case.topology → IsSound new
    → ((number : ℕ) → number < 2 ^ 32 → All (IsAddressed case.topology)
    (messages_from (injector_row part) (line_deliveries case.topology part item number)))
    → Fits case old node → Fits case new (injected_by case.topology after part item commit node)
Fits-injected case old new node interval part line item commit after is h fit injector sound addressed fits =
    let shape = case.topology in
    let name = injector_row part in
    let entry = entries.Inject h.held.lease.seq part line item in
    let a = appended-line case old new interval part line item commit node.held after fits.of_case is h in
    let more = more-by old new h.held.lease entry commit a in
    let made = messages_from name (line_deliveries shape part item commit) in record {
      of_case = more.case ∙ fits.of_case;
      held = fit;
      work = works-apart case old new node.held after interval part line commit node.prepared more injector h fits.work;
      outbox = All-append (IsOutgoing case new) node.outbox made (outbox-more case old new node.outbox more fits.outbox)
          (made-outgoing case new a.before entry name item.late commit a.appended refl a.number
          (if-anyway new.told (late_cause (run_of shape a.before).made entry ≡ item.late) refl)
          (addressed commit (small-number old new h.held.lease entry commit sound a)));
    }

-- once it is injected
pub answers-injected : (case : CaseShape) (old new : DeskView) (node : NodeView) (interval part line : ℕ) (item : Record) (commit : ℕ)
    (after : List (Option HeldView)) → IsLineNext case node part line → interval_of case.topology (injector_row part) ≡ Some interval
    → option_map record_of (item_at (source_of case part) line) ≡ Some item → old.case ≡ case
    → HoldsOwn case.topology old new interval part line commit node.held after
    → AnswersAsked case.topology old new (line_asked case node part) (worker_at node) node
    (injected_by case.topology after part item commit node) (outcomes.Committed commit)
answers-injected case old new node interval part line item commit after next covers is of_case h =
    let shape = case.topology in
    let name = injector_row part in
    let at = held-at-on shape node.held name interval next.held next.there covers in
    let same : next.held ≡ h.held = some_same next.held h.held (sym at ∙ h.was) in
    let asked = injecting part line item h.held in
    let a = appended-line case old new interval part line item commit node.held after of_case is h in
    let last = injected_by shape after part item commit node in
    let left : worker_at last ≡ with_outgoing (made_of shape asked commit) (worker_at node) =
    ap (λ (l : ℕ → Option ℕ). record { leases = l; prepared = (worker_at node).prepared; outbox = last.outbox })
    (leases-written shape interval name commit _ node.held after h) in
    subst (λ (o : Option Request). AnswersAsked shape old new o (worker_at node) node last (outcomes.Committed commit))
    (sym (asked-line case node part line item next is ∙ ap (λ (held : HeldView). Some (injecting part line item held)) same))
    (committed shape old new asked (worker_at node) last commit a refl
    (if-anyway old.told (late_cause (run_of shape a.before).made asked.entry ≡ asked.late) refl) left)

-- ---- a refusal

-- what a call answers that was refused
pub answers-uninjected : (case : CaseShape) (old new : DeskView) (was mid node : NodeView) (interval part line : ℕ) (item : Record)
    (why : DeskRefusal) → IsLineNext case was part line → interval_of case.topology (injector_row part) ≡ Some interval
    → option_map record_of (item_at (source_of case part) line) ≡ Some item → Fits case old was → HasLooked old new
    → IsRefusedOf old new was.held interval why → HasKept was mid → HasYielded case.topology interval why mid node
    → IfOk (answered why) (AnswersAsked case.topology old new (line_asked case was part) (worker_at was) was node)
answers-uninjected case old new was mid node interval part line item why next covers is fits looked reason kept left =
    let shape = case.topology in
    let asked = injecting part line item next.held in
    let at = held-at-on shape was.held (injector_row part) interval next.held next.there covers in
    ok-answers (answered why) (AnswersWrite shape old new asked (worker_at was) was node)
    (AnswersAsked shape old new (line_asked case was part) (worker_at was) was node)
    (λ outcome answers. subst (λ (o : Option Request). AnswersAsked shape old new o (worker_at was) was node outcome)
    (sym (asked-line case was part line item next is)) answers)
    (refused-held case old new was mid node interval next.held asked why fits at refl looked reason kept left)

-- and why it failed
pub fails-uninjected : (case : CaseShape) (old new : DeskView) (was : NodeView) (interval part line : ℕ) (item : Record)
    (why : DeskRefusal) → IsLineNext case was part line → interval_of case.topology (injector_row part) ≡ Some interval
    → option_map record_of (item_at (source_of case part) line) ≡ Some item → IsRefusedOf old new was.held interval why
    → IfErr (answered why) (FailsAsked old new (line_asked case was part))
fails-uninjected case old new was interval part line item why next covers is reason =
    let at = held-at-on case.topology was.held (injector_row part) interval next.held next.there covers in
    fails-asked old new (line_asked case was part) (injecting part line item next.held) (answered why)
    (asked-line case was part line item next is)
    (fails-refused old new next.held.lease why (reason-at old new was.held interval next.held why at reason))

-- What a proposal leaves fits its row's name, and its entry may come next.
use Rattle.std.proofs.Common.{◌≡◌, ◌<◌, ◌+◌, ℕ, Bool, true, false, cond, ◌&&◌, List, [], ◌∷◌, ◌++◌, length, take, drop, refl, sym, ◌∙◌, ap, subst, arith}
use Rattle.std.specs.Prelude.{Some, Result, Ok, Err, IfOk, OnOk, IfSome, ◌==◌, option_map}
use Rattle.std.specs.Option.{option_map_or}
use Rattle.std.specs.List.{list_all}
use Rattle.std.proofs.lemmas.Bool.{and_from, le-leb}
use Rattle.std.proofs.lemmas.List.{take-append-drop}
use Rattle.std.proofs.lemmas.List.Folds.{list_all-append}
use Rattle.list_lemmas.proofs.Tests.{both_true}
use Rattle.mw_types.specs.declared.identity.RowName.{RowName}
use Rattle.mw_types.specs.declared.record.Record.{Record}
use Rattle.mw_types.specs.declared.record.Production.{Production}
use Rattle.mw_types.specs.declared.delivery.Delivery.{Delivery}
use Rattle.mw_types.specs.declared.kind.Kind.{Kind}
use Rattle.mw_types.specs.declared.state.State.{State}
use Rattle.mw_types.specs.declared.state.State.TheVariants as states
use Rattle.mw_types.specs.declared.timer.Timer.{Timer}
use Rattle.mw_types.specs.declared.entry.Entry.{Entry}
use Rattle.mw_types.specs.declared.entry.Entry.TheVariants as entries
use Rattle.mw_types.specs.Outcomes.{EffectsView}
use Rattle.topology.specs.Shapes.{Shape, kind_of}
use Rattle.computations.specs.Handlers.{Cause, has_kind, OfRecord, OfTimer}
use Rattle.row_parts.specs.Contents.{Contents, is_finished, cursor_in, found_delivery}
use Rattle.injector.specs.Sources.{item_at}
use Rattle.run_history.specs.Cases.{CaseShape, is_injector, source_of, record_of}
use Rattle.run_history.specs.Made.{deliveries_made, productions_of}
use Rattle.run_history.specs.Runs.{run_of, row_of, advanced, written_row}
use Rattle.run_history.specs.Legal.{IsLegal}
use Rattle.run_history.specs.Fences.{IsFenced, last_claim, known}
use Rattle.history_laws.proofs.FeedLaws.{injector-no_kind}
use Rattle.history_laws.proofs.Caused.{IsOutcome, IsOutcome-does}
use Rattle.history_laws.proofs.IdLaws.{next-length}
use Rattle.history_laws.proofs.FinishedLaws.{waits-unless_finished}
use Rattle.history_laws.proofs.SeenLaws.{found-more, IsLegalAndFenced-front}
use Rattle.book.specs.Books.{BookView, LeaseView, core_of}
use Rattle.run_history.specs.Fits.{fits, suits_part, is_cursor_within, is_sent_before}
use Rattle.book.specs.Lawful.{HoldsRowsOf, IsLawful}
use Rattle.book.specs.Conditions.{MayUseAt, IsRowSeenAt}
use Rattle.book.specs.Answers.{IsWritten, answer_of}
use Rattle.book.specs.declared.refusals.WriteRefusal.{WriteRefusal}
use Rattle.book.specs.Proposals.{IsNextLine, IsHandling, IsFiring, IsDueUnder, IsProposable, IsProposedOf, IsEntryOf, IsWrittenBy, left_by}
use Rattle.book.specs.Appending.{IsNext}
use Rattle.book.specs.declared.proposal.Proposal.{Proposal}
use Rattle.book.specs.declared.proposal.Proposal.TheVariants as proposals
use Rattle.run_history.proofs.Fitting.{fits-parts, sent_each-later}
use Rattle.book.proofs.SentLaws.{sent-before}
use Rattle.book.proofs.SeenRows.{told-both, told-then, row-front, IsNext-seen, IsWritten-next}

-- ---- rows that fit, by the part

-- an injector's row
suits-injector : (case : CaseShape) (part : ℕ) (row : Contents) → is_injector case.topology part ≡ true
    → suits_part case part row ≡ (is_cursor_within (length (source_of case part)) row.state && (length row.timers == 0))
suits-injector case part row is =
    ap (λ b. cond b (is_cursor_within (length (source_of case part)) row.state && (length row.timers == 0))
    (option_map_or (λ (kind : Kind). has_kind kind row.state) (kind_of case.topology part) false)) is

-- a computation's row
suits-computation : (case : CaseShape) (part : ℕ) (row : Contents) (kind : Kind) → kind_of case.topology part ≡ Some kind
    → suits_part case part row ≡ has_kind kind row.state
suits-computation case part row kind is = by_part (is_injector case.topology part) refl
  where
    by_part : (b : Bool) → is_injector case.topology part ≡ b → suits_part case part row ≡ has_kind kind row.state
    by_part true injects = absurd (injector-no_kind case.topology part kind injects is)
    by_part false injects =
        ap (λ b. cond b (is_cursor_within (length (source_of case part)) row.state && (length row.timers == 0))
        (option_map_or (λ (k : Kind). has_kind k row.state) (kind_of case.topology part) false)) injects
        ∙ ap (λ o. option_map_or (λ (k : Kind). has_kind k row.state) o false) is

-- an injector's state, once it has injected a line that is there
cursor-moves : (lines : ℕ) (state : State) → is_cursor_within lines state ≡ true → cursor_in state < lines
    → is_cursor_within lines (advanced state) ≡ true
cursor-moves lines (states.Injector cursor) within less = le-leb (cursor + 1) lines (omega (arith, less))
cursor-moves lines (states.Count late windows) within less = absurd cc
cursor-moves lines (states.Spike late held known) within less = absurd cc
cursor-moves lines (states.Pass late) within less = absurd cc

-- what is pending with what was sent
pending-fits : (shape : Shape) (n part : ℕ) (productions : List Production) (late : Bool) (pending : List Delivery)
    → list_all (is_sent_before shape n) pending ≡ true
    → list_all (is_sent_before shape (n + 1)) (pending ++ deliveries_made shape part productions late n) ≡ true
pending-fits shape n part productions late pending before =
    list_all-append (is_sent_before shape (n + 1)) pending (deliveries_made shape part productions late n)
    ∙ and_from (list_all (is_sent_before shape (n + 1)) pending)
    (list_all (is_sent_before shape (n + 1)) (deliveries_made shape part productions late n))
    (sent_each-later shape n pending before) (sent-before shape part productions late n)

-- an injector's row still fits, once a line is injected
fits-injected : (case : CaseShape) (n : ℕ) (name : RowName) (row left : Contents) (productions : List Production) (late : Bool)
    → fits case n name row ≡ true
    → is_injector case.topology name.part ≡ true → cursor_in row.state < length (source_of case name.part)
    → left.state ≡ advanced row.state → left.timers ≡ row.timers
    → left.pending ≡ row.pending ++ deliveries_made case.topology name.part productions late n
    → fits case (n + 1) name left ≡ true
fits-injected case n name row left productions late fit injector there state timers pending =
    let parts = fits-parts case n name row fit in
    let lines = length (source_of case name.part) in
    let old = both_true (is_cursor_within lines row.state) (length row.timers == 0)
    (sym (suits-injector case name.part row injector) ∙ parts.0) in
    and_from (suits_part case name.part left) (list_all (is_sent_before case.topology (n + 1)) left.pending)
    (suits-injector case name.part left injector
    ∙ and_from (is_cursor_within lines left.state) (length left.timers == 0)
    (ap (is_cursor_within lines) state ∙ cursor-moves lines row.state old.0 there)
    (ap (λ (l : List Timer). length l == 0) timers ∙ old.1))
    (ap (list_all (is_sent_before case.topology (n + 1))) pending
    ∙ pending-fits case.topology n name.part productions late row.pending parts.1)

-- a computation's row still fits, once its handler has left its state
fits-caused : (case : CaseShape) (n : ℕ) (name : RowName) (row left : Contents) (cause : Cause) (o : EffectsView)
    (late : Bool)
    → fits case n name row ≡ true → IsOutcome case name row cause o → left.state ≡ o.state
    → left.pending ≡ row.pending ++ deliveries_made case.topology name.part o.productions late n
    → fits case (n + 1) name left ≡ true
fits-caused case n name row left cause o late fit is state pending =
    let parts = fits-parts case n name row fit in
    let kept = is.leaves.left.kept (sym (suits-computation case name.part row is.kind is.of_part) ∙ parts.0) in
    and_from (suits_part case name.part left) (list_all (is_sent_before case.topology (n + 1)) left.pending)
    (suits-computation case name.part left is.kind is.of_part ∙ ap (has_kind is.kind) state ∙ kept)
    (ap (list_all (is_sent_before case.topology (n + 1))) pending
    ∙ pending-fits case.topology n name.part o.productions late row.pending parts.1)

-- ---- the entry of a proposal may come next

-- an injected line
next-injected : (book : BookView) (lease : LeaseView) (front : ℕ) (name : RowName) (row left : Contents) (line : ℕ) (item : Record)
    → IsLawful book.case (core_of book) → MayUseAt book lease front name → IsRowSeenAt book lease front name row
    → last_claim lease.interval book.history ≡ Some lease.seq → length book.history < book.limit
    → IsNextLine book.case name row line → option_map record_of (item_at (source_of book.case name.part) line) ≡ Some item
    → left ≡ left_by book.case.topology name (proposals.Inject line) (length book.history)
    (entries.Inject lease.seq name.part line item) row
    → IsNext book.case (core_of book) name (entries.Inject lease.seq name.part line item) left
next-injected book lease front name row left line item lawful uses seen last room next of_line leaves =
    let shape = book.case.topology in
    let entry = entries.Inject lease.seq name.part line item in
    let number = length book.history in
    let sent = deliveries_made shape name.part (productions_of entry) item.late number in
    let whole : record { part = name.part; key = [] } ≡ name = λ i. record { part = name.part; key = sym next.no_key i } in
    let cursor = next.next in
    let there = next.there in
    IsNext-seen book lease front name entry row left sent lawful uses seen last room (ap Some whole) refl (omega arith) tt leaves
    (subst (λ (c : Contents). fits book.case (number + 1) name c ≡ true) (sym leaves)
    (fits-injected book.case number name row (written_row number entry sent row) (productions_of entry) item.late seen.fit next.injector
    (omega (arith, cursor, there)) refl refl refl))
    (told-then book.rows (λ _. row ≡ row_of shape (run_of shape (known lease.interval lease.seq (take front book.history))) name) _
    seen.known
    (λ r is. record {
      injector = next.injector;
      next_line = next.next ∙ ap (λ (c : Contents). cursor_in c.state) (is ∙ row-front book lease front name uses last)
          ∙ ap (λ (n : RowName). cursor_in (row_of shape (run_of shape (take front book.history)) n).state) (sym whole);
      of_line = of_line;
    }))
    (told-then book.rows (HoldsRowsOf book.case book.history) _ lawful.held
    (λ r _. ap (λ n. deliveries_made shape name.part (productions_of entry) item.late n) (sym (next-length shape book.history))))

-- a handled record
next-handled : (book : BookView) (lease : LeaseView) (front : ℕ) (name : RowName) (row left : Contents) (delivery : Delivery)
    (effects : EffectsView)
    → IsLawful book.case (core_of book) → MayUseAt book lease front name → IsRowSeenAt book lease front name row
    → last_claim lease.interval book.history ≡ Some lease.seq → length book.history < book.limit
    → IsHandling book.case name row delivery effects
    → IfSome book.rows (λ _. found_delivery delivery.id (run_of book.case.topology (take front book.history)).made ≡ Some delivery)
    → left ≡ left_by book.case.topology name (proposals.Handle delivery effects) (length book.history)
    (entries.Handle lease.seq name delivery.id effects) row
    → IsNext book.case (core_of book) name (entries.Handle lease.seq name delivery.id effects) left
next-handled book lease front name row left delivery effects lawful uses seen last room handling made leaves =
    let shape = book.case.topology in
    let entry = entries.Handle lease.seq name delivery.id effects in
    let number = length book.history in
    let first = take front book.history in
    let split = take-append-drop front book.history in
    let late = delivery.item.late in
    let sent = deliveries_made shape name.part effects.productions late number in
    let cause = OfRecord delivery.item in
    let outcome = IsOutcome-does book.case name row cause effects handling.does in
    IsNext-seen book lease front name entry row left sent lawful uses seen last room refl refl
    outcome.leaves.productions.few
    handling.id leaves
    (subst (λ (c : Contents). fits book.case (number + 1) name c ≡ true) (sym leaves)
    (fits-caused book.case number name row (written_row number entry sent row)
    cause effects late seen.fit outcome refl refl))
    (told-then book.rows
    (λ r. HoldsRowsOf book.case book.history r × ((row ≡ row_of shape (run_of shape (known lease.interval lease.seq first)) name) ×
    (found_delivery delivery.id (run_of shape first).made ≡ Some delivery))) _
    (told-both book.rows _ _ lawful.held (told-both book.rows _ _ seen.known made))
    (λ r p.
    let legal = IsLegalAndFenced-front book.case first (drop front book.history)
    (record { legal = subst (IsLegal book.case) (sym split) p.0.legal; fenced = subst (IsFenced shape) (sym split) lawful.fenced }) in
    let handles = subst (λ (c : Contents). IsHandling book.case name c delivery effects)
    (p.1.0 ∙ row-front book lease front name uses last) handling in record {
      delivery = delivery;
      waits = waits-unless_finished book.case first delivery legal.legal p.1.1
          (ap (λ (n : RowName). is_finished delivery.id (row_of shape (run_of shape first) n)) handling.to_row
          ∙ handles.new);
      to_row = handling.to_row;
      does = handles.does;
    }))
    (told-then book.rows (λ _. found_delivery delivery.id (run_of shape first).made ≡ Some delivery) _ made
    (λ r found.
    let there : found_delivery delivery.id (run_of shape book.history).made ≡ Some delivery =
    subst (λ (h : List Entry). found_delivery delivery.id (run_of shape h).made ≡ Some delivery) split
    (found-more shape first (drop front book.history) delivery.id delivery found) in
    λ i. deliveries_made shape name.part effects.productions (option_map_or (λ (d : Delivery). d.item.late) (sym there i) false)
    (sym (next-length shape book.history) i)))

-- a fired timer
next-fired : (book : BookView) (lease : LeaseView) (front : ℕ) (name : RowName) (row left : Contents) (timer : Timer) (mark : ℕ)
    (effects : EffectsView)
    → IsLawful book.case (core_of book) → MayUseAt book lease front name → IsRowSeenAt book lease front name row
    → last_claim lease.interval book.history ≡ Some lease.seq → length book.history < book.limit
    → IsFiring book.case name row timer effects
    → IfSome book.rows (λ _. IsDueUnder book.case (run_of book.case.topology (take front book.history)) name.part mark timer)
    → left ≡ left_by book.case.topology name (proposals.Fire timer mark effects) (length book.history)
    (entries.Fire lease.seq name timer mark effects) row
    → IsNext book.case (core_of book) name (entries.Fire lease.seq name timer mark effects) left
next-fired book lease front name row left timer mark effects lawful uses seen last room firing under leaves =
    let shape = book.case.topology in
    let entry = entries.Fire lease.seq name timer mark effects in
    let number = length book.history in
    let first = take front book.history in
    let sent = deliveries_made shape name.part effects.productions timer.late number in
    let cause = OfTimer timer in
    let outcome = IsOutcome-does book.case name row cause effects firing.does in
    IsNext-seen book lease front name entry row left sent lawful uses seen last room refl refl
    outcome.leaves.productions.few tt leaves
    (subst (λ (c : Contents). fits book.case (number + 1) name c ≡ true) (sym leaves)
    (fits-caused book.case number name row (written_row number entry sent row)
    cause effects timer.late seen.fit outcome refl refl))
    (told-then book.rows
    (λ r. (row ≡ row_of shape (run_of shape (known lease.interval lease.seq first)) name) × IsDueUnder book.case
    (run_of shape first) name.part mark timer) _
    (told-both book.rows _ _ seen.known under)
    (λ r p.
    let fires = subst (λ (c : Contents). IsFiring book.case name c timer effects)
    (p.0 ∙ row-front book lease front name uses last) firing in record {
      least_timer = fires.least;
      due = p.1.due;
      under_watermark = p.1.under_watermark;
      does = fires.does;
    }))
    (told-then book.rows (HoldsRowsOf book.case book.history) _ lawful.held
    (λ r _. ap (λ n. deliveries_made shape name.part effects.productions timer.late n) (sym (next-length shape book.history))))

-- the entry of a proposal may come next
pub IsNext-proposed : (book : BookView) (lease : LeaseView) (front : ℕ) (name : RowName) (row left : Contents) (proposal : Proposal)
    (entry : Entry)
    → IsLawful book.case (core_of book) → MayUseAt book lease front name → IsRowSeenAt book lease front name row
    → last_claim lease.interval book.history ≡ Some lease.seq → length book.history < book.limit
    → IsProposable book.case name row proposal
    → IfSome book.rows (λ _. IsProposedOf book.case name proposal (run_of book.case.topology (take front book.history)))
    → IsEntryOf book.case lease.seq name proposal entry
    → left ≡ left_by book.case.topology name proposal (length book.history) entry row
    → IsNext book.case (core_of book) name entry left
IsNext-proposed book lease front name row left (proposals.Inject line) entry lawful uses seen last room may told is leaves =
    subst (λ (e : Entry). IsNext book.case (core_of book) name e left) (sym is.1.1)
    (next-injected book lease front name row left line is.0 lawful uses seen last room may is.1.0
    (leaves ∙ ap (λ (e : Entry). left_by book.case.topology name (proposals.Inject line) (length book.history) e row) is.1.1))
IsNext-proposed book lease front name row left (proposals.Handle delivery effects) entry lawful uses seen last room may told is leaves =
    subst (λ (e : Entry). IsNext book.case (core_of book) name e left) (sym is)
    (next-handled book lease front name row left delivery effects lawful uses seen last room may told
    (leaves ∙ ap (λ (e : Entry). left_by book.case.topology name (proposals.Handle delivery effects) (length book.history) e row) is))
IsNext-proposed book lease front name row left (proposals.Fire timer mark effects) entry lawful uses seen last room may told is leaves =
    subst (λ (e : Entry). IsNext book.case (core_of book) name e left) (sym is)
    (next-fired book lease front name row left timer mark effects lawful uses seen last room may told
    (leaves ∙ ap (λ (e : Entry). left_by book.case.topology name (proposals.Fire timer mark effects) (length book.history) e row) is))

-- an accepted proposal, by what changing the row answered
pub IsWrittenBy-result : (old new : BookView) (lease : LeaseView) (name : RowName) (proposal : Proposal) (row left after : Contents)
    (entry : Entry) (result : Result ℕ WriteRefusal)
    → IsNext old.case (core_of old) name entry left → last_claim lease.interval old.history ≡ Some lease.seq
    → IsEntryOf old.case lease.seq name proposal entry → left ≡ left_by old.case.topology name proposal (length old.history) entry row
    → OnOk result (new.history ≡ old.history ++ entry ∷ []) → IfOk result (λ commit. commit ≡ length old.history)
    → OnOk result (after ≡ left)
    → IfOk result (λ commit. IsWrittenBy old.case old.rows old.history new.history lease name proposal row (answer_of commit after))
IsWrittenBy-result old new lease name proposal row left after entry (Err why) next last of leaves appended commit is = tt
IsWrittenBy-result old new lease name proposal row left after entry (Ok n) next last of leaves appended commit is = record {
  entry = entry;
  of_proposal = of;
  written = subst (λ (c : Contents). IsWritten old.case old.rows old.history new.history lease name entry c (answer_of n after)) leaves
      (IsWritten-next old new lease name entry left (answer_of n after) next last appended commit is);
}

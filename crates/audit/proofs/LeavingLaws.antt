-- The row that an entry leaves which may come next.
use Rattle.std.proofs.Common.{◌≡◌, ◌∙◌, ◌<◌, ◌≤◌, ◌^◌, ℕ, true, false, List, [], length, map, refl, sym, ap, subst, arith}
use Rattle.std.specs.Prelude.{Option, Some, unwrap_or}
use Rattle.std.specs.Option.{option_map_or}
use Rattle.list_lemmas.proofs.Lists.{some_same, find-passes}
use Rattle.mw_types.specs.declared.identity.RecordId.{RecordId}
use Rattle.mw_types.specs.declared.identity.RowName.{RowName}
use Rattle.mw_types.specs.declared.record.Record.{Record}
use Rattle.mw_types.specs.declared.timer.Timer.{Timer}
use Rattle.mw_types.specs.declared.delivery.Delivery.{Delivery}
use Rattle.mw_types.specs.declared.entry.Entry.{Entry}
use Rattle.mw_types.specs.declared.entry.Entry.TheVariants.{Inject, Handle, Fire, Ack, Purge}
use Rattle.mw_types.specs.Outcomes.{EffectsView}
use Rattle.row_parts.specs.Contents.{Contents, found_delivery, fresh, ids_from, without_delivery, same_id}
use Rattle.run_history.specs.Cases.{CaseShape, fresh_of}
use Rattle.run_history.specs.Finished.{all_pending}
use Rattle.run_history.specs.Fits.{fits}
use Rattle.run_history.specs.Made.{deliveries_made, late_cause, productions_of, row_written}
use Rattle.run_history.specs.Runs.{cached, row_in, row_of, run_of, written_row}
use Rattle.run_history.proofs.RunLaws.{next-length}
use Rattle.history_laws.proofs.FitLaws.{legal-fits}
use Rattle.history_laws.proofs.IdLaws.{legal-ids, waits_as_made, same_id-true}
use Rattle.history_laws.proofs.FloorLaws.{fold_min-bound}
use Rattle.book.specs.Proposals.{is_cause_late, left_by}
use Rattle.book.specs.declared.proposal.Proposal.{Proposal}
use Rattle.book.specs.declared.proposal.Proposal.TheVariants as proposals
use Rattle.book.specs.declared.answers.NamedRow.{NamedRow}
use Rattle.audit.specs.declared.kept.Kept.{Kept}
use Rattle.audit.specs.Choices.{MayCome}
use Rattle.audit.specs.Keeping.{IsFollowed, IsKept, IsLeftBy, IsLeftOf, row_left}
use Rattle.audit.proofs.KeepingLaws.{part-there, row-kept, there-kept}

-- the row that is kept under the name of an entry which may come next fits the name
pub fits-kept : (case : CaseShape) (history : List Entry) (kept : Kept) (entry : Entry) (name : RowName) (commit : ℕ)
    → IsFollowed case history → IsKept case history kept → MayCome case history entry → row_written entry ≡ Some name
    → commit ≡ length history
    → fits case commit name (row_of case.topology (cached kept.rows.entries) name) ≡ true
fits-kept case history kept entry name commit follows keeps may on number =
    (λ i. fits case (number i) name (row-kept case history kept name keeps i))
    ∙ legal-fits case history name follows.lawful.legal (part-there case history entry name follows may.may on)

-- what a proposal leaves is what its entry leaves, where both say the same of the cause's lateness
left-same : (case : CaseShape) (history : List Entry) (kept : Kept) (name : RowName) (proposal : Proposal) (commit : ℕ) (entry : Entry)
    → IsKept case history kept → commit ≡ length history → row_written entry ≡ Some name
    → is_cause_late proposal entry ≡ late_cause (run_of case.topology history).made entry
    → left_by case.topology name proposal commit entry (row_of case.topology (cached kept.rows.entries) name)
    ≡ row_left case.topology (run_of case.topology history) entry name
left-same case history kept name proposal commit entry keeps number on late =
    let shape = case.topology in
    let run = run_of shape history in
    let next : commit ≡ run.next = number ∙ sym (next-length shape history) in
    let row = row-kept case history kept name keeps in
    (λ i. written_row (next i) entry (deliveries_made shape name.part (productions_of entry) (late i) (next i)) (row i))
    ∙ sym (ap (λ (o : Option RowName). written_row run.next entry (option_map_or
    (λ (r : RowName). deliveries_made shape r.part (productions_of entry) (late_cause run.made entry) run.next) o [])
    (row_of shape run name)) on)

-- so the row that was left by the entry of a proposal is the row that the entry leaves
pub left-by_proposal : (case : CaseShape) (history : List Entry) (kept : Kept) (name : RowName) (seq : ℕ) (proposal : Proposal)
    (commit : ℕ)
    (entry : Entry) (left : NamedRow)
    → IsKept case history kept → commit ≡ length history → row_written entry ≡ Some name
    → is_cause_late proposal entry ≡ late_cause (run_of case.topology history).made entry
    → (by : IsLeftBy case seq name proposal commit (row_of case.topology (cached kept.rows.entries) name) left) → by.entry ≡ entry
    → IsLeftOf case history entry (Some left)
left-by_proposal case history kept name seq proposal commit entry left keeps number on late by same = (
  on ∙ ap Some (sym by.named),
  by.leaves
      ∙ ap (λ (e : Entry). left_by case.topology name proposal commit e (row_of case.topology (cached kept.rows.entries) name)) same
      ∙ left-same case history kept name proposal commit entry keeps number on late
      ∙ ap (row_left case.topology (run_of case.topology history) entry) (sym by.named),
)

-- an injected line
pub left-injected : (case : CaseShape) (history : List Entry) (kept : Kept) (seq part line : ℕ) (item : Record) (commit : ℕ)
    (left : NamedRow)
    → IsKept case history kept → MayCome case history (Inject seq part line item) → commit ≡ length history
    → IsLeftBy case seq (record { part = part; key = [] }) (proposals.Inject line) commit
    (row_of case.topology (cached kept.rows.entries) (record { part = part; key = [] })) left
    → IsLeftOf case history (Inject seq part line item) (Some left)
left-injected case history kept seq part line item commit left keeps may number by =
    left-by_proposal case history kept (record { part = part; key = [] }) seq (proposals.Inject line) commit
    (Inject seq part line item) left
    keeps number refl refl by
    (by.of_proposal.1.1 ∙ ap (Inject seq part line) (some_same _ _ (sym by.of_proposal.1.0 ∙ may.may.of_line)))

-- a handled record
pub left-handled : (case : CaseShape) (history : List Entry) (kept : Kept) (seq : ℕ) (name : RowName) (id : RecordId)
    (effects : EffectsView)
    (commit : ℕ) (delivery : Delivery) (left : NamedRow)
    → IsFollowed case history → IsKept case history kept → MayCome case history (Handle seq name id effects) → commit ≡ length history
    → found_delivery id (run_of case.topology history).unhandled ≡ Some delivery
    → IsLeftBy case seq name (proposals.Handle delivery effects) commit (row_of case.topology (cached kept.rows.entries) name) left
    → IsLeftOf case history (Handle seq name id effects) (Some left)
left-handled case history kept seq name id effects commit delivery left follows keeps may number waits by =
    let run = run_of case.topology history in
    let made = waits_as_made history run id delivery (legal-ids case history follows.lawful.legal) waits in
    let same_delivery : delivery.id ≡ id = same_id-true delivery.id id
    (find-passes
    (λ (d : Delivery). same_id d.id id) run.unhandled delivery waits) in
    left-by_proposal case history kept name seq (proposals.Handle delivery effects) commit (Handle seq name id effects) left
    keeps number refl (sym (ap (λ (o : Option Delivery). option_map_or (λ (d : Delivery). d.item.late) o false) made)) by
    (by.of_proposal ∙ ap (λ (i : RecordId). Handle seq name i effects) same_delivery)

-- a fired timer
pub left-fired : (case : CaseShape) (history : List Entry) (kept : Kept) (seq : ℕ) (name : RowName) (timer : Timer) (mark : ℕ)
    (effects : EffectsView) (commit : ℕ) (left : NamedRow)
    → IsKept case history kept → commit ≡ length history
    → IsLeftBy case seq name (proposals.Fire timer mark effects) commit (row_of case.topology (cached kept.rows.entries) name) left
    → IsLeftOf case history (Fire seq name timer mark effects) (Some left)
left-fired case history kept seq name timer mark effects commit left keeps number by =
    left-by_proposal case history kept name seq (proposals.Fire timer mark effects) commit (Fire seq name timer mark effects) left
    keeps number refl refl by by.of_proposal

-- the row that is there
row-there : (case : CaseShape) (history : List Entry) (kept : Kept) (name : RowName) (row : Contents) → IsKept case history kept
    → row_in (cached kept.rows.entries) name ≡ Some row → row ≡ row_of case.topology (run_of case.topology history) name
row-there case history kept name row keeps there =
    sym (ap (λ (o : Option Contents). unwrap_or o (fresh (fresh_of case.topology name.part))) (sym
    (there-kept case history kept name keeps) ∙ there))

-- an id that is settled
pub left-settled : (case : CaseShape) (history : List Entry) (kept : Kept) (seq : ℕ) (name : RowName) (id : RecordId) (commit : ℕ)
    (row : Contents) (left : NamedRow) → IsKept case history kept → commit ≡ length history
    → row_in (cached kept.rows.entries) name ≡ Some row
    → left ≡ record { name = name; row = record row { pending = without_delivery id row.pending; last = commit } }
    → IsLeftOf case history (Ack seq name id) (Some left)
left-settled case history kept seq name id commit row left keeps number there is =
    let next : commit ≡ (run_of case.topology history).next = number ∙ sym (next-length case.topology history) in
    let same = row-there case history kept name row keeps there in
    subst (λ (l : NamedRow). IsLeftOf case history (Ack seq name id) (Some l)) (sym is) (
      refl,
      λ i. record (same i) { pending = without_delivery id (same i).pending; last = next i },
    )

-- ids that are forgotten
pub left-purged : (case : CaseShape) (history : List Entry) (kept : Kept) (seq : ℕ) (name : RowName) (floor commit : ℕ)
    (row : Contents) (left : NamedRow) → IsKept case history kept → commit ≡ length history
    → row_in (cached kept.rows.entries) name ≡ Some row
    → left ≡ record { name = name; row = record row { floor = floor; seen = ids_from floor row.seen; last = commit } }
    → IsLeftOf case history (Purge seq name floor) (Some left)
left-purged case history kept seq name floor commit row left keeps number there is =
    let next : commit ≡ (run_of case.topology history).next = number ∙ sym (next-length case.topology history) in
    let same = row-there case history kept name row keeps there in
    subst (λ (l : NamedRow). IsLeftOf case history (Purge seq name floor) (Some l)) (sym is) (
      refl,
      λ i. record (same i) { floor = floor; seen = ids_from floor (same i).seen; last = next i },
    )

-- a floor that may be set is at most the number of the next entry
pub floor-few : (case : CaseShape) (history : List Entry) (seq : ℕ) (name : RowName) (floor : ℕ) → MayCome case history
    (Purge seq name floor)
    → length history < 2 ^ 32 → floor ≤ 2 ^ 32
floor-few case history seq name floor may few =
    let run = run_of case.topology history in
    let next = next-length case.topology history in
    let bound = may.may.finished in
    let least = fold_min-bound run.next (map (λ (d : Delivery). d.id.commit) (all_pending run)) in
    omega (arith, next, bound, least, few)

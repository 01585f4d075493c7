-- How many deliveries an entry makes, by the row that it leaves.
use Rattle.std.proofs.Common.{◌≡◌, ℕ, ◌+◌, Bool, List, [], ◌∷◌, ◌++◌, length, map, refl, sym, ◌∙◌, ap, subst, arith, length-append}
use Rattle.std.specs.Prelude.{Some}
use Rattle.std.specs.Option.{option_map_or}
use Rattle.std.specs.List.{flat_map, enumerate_from}
use Rattle.std.proofs.lemmas.List.{length-map}
use Rattle.std.proofs.lemmas.List.FromFn.{length-enumerate_from}
use Rattle.mw_types.specs.declared.identity.RowName.{RowName}
use Rattle.mw_types.specs.declared.record.Record.{Record}
use Rattle.mw_types.specs.declared.record.Production.{Production}
use Rattle.mw_types.specs.declared.entry.Entry.{Entry}
use Rattle.topology.specs.declared.subscription.Subscription.{Subscription}
use Rattle.topology.specs.Shapes.{Shape, consumers_of}
use Rattle.row_parts.specs.Contents.{Contents}
use Rattle.run_history.specs.Cases.{CaseShape}
use Rattle.run_history.specs.Made.{deliveries_made, delivery_at, sends_of, produced, row_to, row_written, productions_of, late_cause}
use Rattle.run_history.specs.Runs.{run_of}
use Rattle.book.specs.Appending.{sent_by}
use Rattle.book.specs.Proposals.{IsEntryOf, left_by, is_cause_late}
use Rattle.book.specs.declared.proposal.Proposal.{Proposal}
use Rattle.book.specs.declared.proposal.Proposal.TheVariants as proposals

-- records are sent as often whether they are late or not
sends-any_late : (subscriptions : List Subscription) (one other : Bool) (productions : List Production)
    → length (flat_map (sends_of subscriptions) (map (produced one) productions)) ≡ length
    (flat_map (sends_of subscriptions) (map (produced other) productions))
sends-any_late subscriptions one other [] = refl
sends-any_late subscriptions one other (p ∷ ps) =
    omega (
      arith,
      sends-any_late subscriptions one other ps,
      length-append (sends_of subscriptions (produced one p)) (flat_map (sends_of subscriptions) (map (produced one) ps)),
      length-append (sends_of subscriptions (produced other p)) (flat_map (sends_of subscriptions) (map (produced other) ps)),
      length-map {B = RowName × Record} subscriptions (λ (s : Subscription). (row_to (produced one p) s, produced one p)),
      length-map {B = RowName × Record} subscriptions (λ (s : Subscription). (row_to (produced other p) s, produced other p)),
    )

-- as many deliveries are made whether their cause is late or not
pub made-any_late : (shape : Shape) (part : ℕ) (productions : List Production) (one other : Bool) (commit : ℕ)
    → length (deliveries_made shape part productions one commit) ≡ length (deliveries_made shape part productions other commit)
made-any_late shape part productions one other commit =
    many one ∙ sends-any_late (consumers_of shape part) one other productions ∙ sym (many other)
  where
    many : (late : Bool) → length (deliveries_made shape part productions late commit) ≡ length
        (flat_map (sends_of (consumers_of shape part)) (map (produced late) productions))
    many late = length-map (enumerate_from 0 (flat_map (sends_of (consumers_of shape part)) (map (produced late) productions)))
        (delivery_at commit)
        ∙ length-enumerate_from 0 (flat_map (sends_of (consumers_of shape part)) (map (produced late) productions))

-- what the entry of a proposal leaves pending: what was, and what it sends
left-pending : (case : CaseShape) (seq commit : ℕ) (name : RowName) (proposal : Proposal) (entry : Entry) (row : Contents)
    → IsEntryOf case seq name proposal entry
    → (left_by case.topology name proposal commit entry row).pending
    ≡ row.pending ++ deliveries_made case.topology name.part (productions_of entry) (is_cause_late proposal entry) commit
left-pending case seq commit name (proposals.Inject line) entry row is =
    subst (λ (e : Entry). (left_by case.topology name (proposals.Inject line) commit e row).pending
    ≡ row.pending ++ deliveries_made case.topology name.part (productions_of e) (is_cause_late (proposals.Inject line) e) commit)
    (sym is.1.1) refl
left-pending case seq commit name (proposals.Handle delivery effects) entry row is =
    subst (λ (e : Entry). (left_by case.topology name (proposals.Handle delivery effects) commit e row).pending
    ≡ row.pending ++ deliveries_made case.topology name.part (productions_of e)
    (is_cause_late (proposals.Handle delivery effects) e) commit) (sym is) refl
left-pending case seq commit name (proposals.Fire timer mark effects) entry row is =
    subst (λ (e : Entry). (left_by case.topology name (proposals.Fire timer mark effects) commit e row).pending
    ≡ row.pending ++ deliveries_made case.topology name.part (productions_of e)
    (is_cause_late (proposals.Fire timer mark effects) e) commit) (sym is) refl

-- how many the next entry sends, whether its cause is late or not
sent_by-any_late : (shape : Shape) (history : List Entry) (entry : Entry) (name : RowName) (late : Bool) → row_written entry ≡ Some name
    → sent_by shape history entry ≡ length (deliveries_made shape name.part (productions_of entry) late (length history))
sent_by-any_late shape history entry name late written =
    ap (λ w. length (option_map_or (λ (row : RowName). deliveries_made shape row.part (productions_of entry)
    (late_cause (run_of shape history).made entry) (length history)) w [])) written
    ∙ made-any_late shape name.part (productions_of entry) (late_cause (run_of shape history).made entry) late (length history)

-- the entry of a proposal sends as many as its row has pending more than before
pub left-more : (case : CaseShape) (history : List Entry) (seq : ℕ) (name : RowName) (proposal : Proposal) (entry : Entry)
    (row left : Contents)
    → IsEntryOf case seq name proposal entry → row_written entry ≡ Some name
    → left ≡ left_by case.topology name proposal (length history) entry row
    → length left.pending ≡ length row.pending + sent_by case.topology history entry
left-more case history seq name proposal entry row left of written leaves =
    let sent = deliveries_made case.topology name.part (productions_of entry) (is_cause_late proposal entry) (length history) in
    let pending : left.pending ≡ row.pending ++ sent =
    ap (λ (c : Contents). c.pending) leaves ∙ left-pending case seq (length history) name proposal entry row of in
    omega (
      arith,
      ap length pending,
      length-append row.pending sent,
      sent_by-any_late case.topology history entry name
          (is_cause_late proposal entry) written,
    )

-- In a legal history no record is handled twice, and none is acknowledged twice.
use Rattle.std.proofs.Common.{◌≡◌, ℕ, Bool, true, false, List, [], ◌∷◌, ◌++◌, refl, sym, ◌∙◌, ap, subst, append_assoc, arith}
use Rattle.std.specs.Prelude.{Option, Some, None, IsSome, filter, not, ◌||◌}
use Rattle.std.specs.List.{AllByRecursion, list_any}
use Rattle.std.proofs.lemmas.Bool.{both_ways}
use Rattle.std.proofs.lemmas.List.Folds.{list_any-append}
use Rattle.mw_types.specs.declared.identity.RecordId.{RecordId}
use Rattle.mw_types.specs.declared.identity.RowName.{RowName}
use Rattle.mw_types.specs.declared.delivery.Delivery.{Delivery}
use Rattle.mw_types.specs.declared.entry.Entry.{Entry}
use Rattle.mw_types.specs.declared.entry.Entry.TheVariants.{Claim, Inject, Handle, Fire, Ack, Purge}
use Rattle.mw_types.specs.Outcomes.{EffectsView}
use Rattle.row_parts.specs.Contents.{Contents, same_id, found_delivery}
use Rattle.run_history.specs.Cases.{CaseShape}
use Rattle.run_history.specs.Runs.{Run, run_of, row_of, empty_run}
use Rattle.run_history.specs.Legal.{IsLegal}
use Rattle.run_history.specs.Finished.{handles, is_handled, acknowledges, is_acknowledged, all_pending, IsFinished}
use Rattle.history_laws.specs.Ids.{is_left, IsSentBy}
use Rattle.list_lemmas.proofs.Lists.{none_some, each-weaker, find-each, find-passes, filter-passes}
use Rattle.history_laws.proofs.Along.{AreLegal-apart}
use Rattle.history_laws.proofs.IdLaws.{same_id-true, legal-ids}
use Rattle.history_laws.proofs.AckLaws.{legal-acknowledged}
use Rattle.history_laws.proofs.FinishedLaws.{is_handled-more}
use Rattle.history_laws.proofs.RowSteps.{row_of-each}
use Rattle.history_laws.proofs.UnfinishedLaws.{filter-nil, flat_map-nil, no_length}

-- what fails when it is turned around does not hold
off : (b : Bool) → not b ≡ true → b ≡ false
off true e = cc
off false e = refl

-- a record that is handled was not handled before
pub handled-not_before : (case : CaseShape) (before after : List Entry) (seq : ℕ) (row : RowName) (id : RecordId) (effects : EffectsView)
    → IsLegal case (before ++ Handle seq row id effects ∷ after) → is_handled id before ≡ false
handled-not_before case before after seq row id effects legal =
    let parts = AreLegal-apart case before (Handle seq row id effects ∷ after) empty_run legal in
    let run = run_of case.topology before in
    let may = parts.1.0 in
    let waits = subst (λ (l : List Delivery). found_delivery id l ≡ Some may.delivery) (legal-ids case before parts.0).waiting may.waits in
    let left = find-each (λ (e : Delivery). is_left before e ≡ true) (λ (e : Delivery). same_id e.id id)
    (filter (is_left before) run.made) may.delivery
    (filter-passes (is_left before) run.made) waits in
    let own : may.delivery.id ≡ id = same_id-true may.delivery.id id
    (find-passes (λ (e : Delivery). same_id e.id id) run.unhandled may.delivery may.waits) in
    ap (λ (i : RecordId). is_handled i before) (sym own) ∙ off (is_handled may.delivery.id before) left

-- a record that is handled is not handled again
pub handled-not_after : (case : CaseShape) (id : RecordId) (after before : List Entry) → IsLegal case (before ++ after)
    → is_handled id before ≡ true → is_handled id after ≡ false
handled-not_after case id [] before legal handled = refl
handled-not_after case id (e ∷ es) before legal handled =
    ap (λ b. b || is_handled id es) (here e legal)
    ∙ handled-not_after case id es (before ++ e ∷ []) (subst (IsLegal case) (sym (append_assoc before (e ∷ []) es)) legal)
    (is_handled-more id before (e ∷ []) handled)
  where
    here : (entry : Entry) → IsLegal case (before ++ entry ∷ es) → handles id entry ≡ false
    here (Claim worker interval) legal = refl
    here (Inject seq part line item) legal = refl
    here (Handle seq row other effects) legal = elim (same_id id other) as (λ t. same_id id other ≡ t → t ≡ false) [
      | false ↦ λ _. refl
      | true ↦ λ same. absurd (both_ways (is_handled id before)
          (ap (λ (i : RecordId). is_handled i before) (same_id-true id other same)
          ∙ handled-not_before case before es seq row other effects legal) handled)
    ] refl
    here (Fire seq row timer mark effects) legal = refl
    here (Ack seq row other) legal = refl
    here (Purge seq row floor) legal = refl

-- a record is handled by one entry alone
pub handled-once : (case : CaseShape) (before after : List Entry) (seq : ℕ) (row : RowName) (id : RecordId) (effects : EffectsView)
    → IsLegal case (before ++ Handle seq row id effects ∷ after) → (is_handled id before ≡ false) × (is_handled id after ≡ false)
handled-once case before after seq row id effects legal =
    let entry : Entry = Handle seq row id effects in (
      handled-not_before case before after seq row id effects legal,
      handled-not_after case id after (before ++ entry ∷ []) (subst (IsLegal case) (sym (append_assoc before (entry ∷ []) after)) legal)
          (list_any-append (handles id) before (entry ∷ [])
          ∙ ap (λ b. is_handled id before || (b || false)) (Rattle.history_laws.proofs.IdLaws.same_id-itself id)
          ∙ last (is_handled id before)),
    )
  where
    last : (b : Bool) → (b || (true || false)) ≡ true
    last true = refl
    last false = refl

-- a record that is acknowledged was not acknowledged before
pub acknowledged-not_before : (case : CaseShape) (before after : List Entry) (seq : ℕ) (row : RowName) (id : RecordId)
    → IsLegal case (before ++ Ack seq row id ∷ after) → is_acknowledged id before ≡ false
acknowledged-not_before case before after seq row id legal =
    let parts = AreLegal-apart case before (Ack seq row id ∷ after) empty_run legal in
    there parts.0 (found_delivery id (row_of case.topology (run_of case.topology before) row).pending) refl parts.1.0.pending
  where
    there : IsLegal case before → (o : Option Delivery)
        → found_delivery id (row_of case.topology (run_of case.topology before) row).pending ≡ o → IsSome o
        → is_acknowledged id before ≡ false
    there front None at is = absurd (cc)
    there front (Some d) at is =
        let own : d.id ≡ id = same_id-true d.id id
        (find-passes (λ (e : Delivery). same_id e.id id) (row_of case.topology (run_of case.topology before) row).pending d at) in
        ap (λ (i : RecordId). is_acknowledged i before) (sym own)
        ∙ find-each (λ (e : Delivery). is_acknowledged e.id before ≡ false) (λ (e : Delivery). same_id e.id id)
        (row_of case.topology (run_of case.topology before) row).pending d
        ((legal-acknowledged case before front).left row) at

-- a record that is acknowledged is not acknowledged again
pub acknowledged-not_after : (case : CaseShape) (id : RecordId) (after before : List Entry) → IsLegal case (before ++ after)
    → is_acknowledged id before ≡ true → is_acknowledged id after ≡ false
acknowledged-not_after case id [] before legal acked = refl
acknowledged-not_after case id (e ∷ es) before legal acked =
    ap (λ b. b || is_acknowledged id es) (here e legal)
    ∙ acknowledged-not_after case id es (before ++ e ∷ []) (subst (IsLegal case) (sym (append_assoc before (e ∷ []) es)) legal)
    (list_any-append (acknowledges id) before (e ∷ []) ∙ ap (λ b. b || list_any (acknowledges id) (e ∷ [])) acked)
  where
    here : (entry : Entry) → IsLegal case (before ++ entry ∷ es) → acknowledges id entry ≡ false
    here (Claim worker interval) legal = refl
    here (Inject seq part line item) legal = refl
    here (Handle seq row other effects) legal = refl
    here (Fire seq row timer mark effects) legal = refl
    here (Ack seq row other) legal = elim (same_id id other) as (λ t. same_id id other ≡ t → t ≡ false) [
      | false ↦ λ _. refl
      | true ↦ λ same. absurd (both_ways (is_acknowledged id before)
          (ap (λ (i : RecordId). is_acknowledged i before) (same_id-true id other same)
          ∙ acknowledged-not_before case before es seq row other legal) acked)
    ] refl
    here (Purge seq row floor) legal = refl

-- a record is acknowledged by one entry alone, which comes after the one that handled it
pub acknowledged-once : (case : CaseShape) (before after : List Entry) (seq : ℕ) (row : RowName) (id : RecordId)
    → IsLegal case (before ++ Ack seq row id ∷ after) → (is_acknowledged id before ≡ false) × (is_acknowledged id after ≡ false)
acknowledged-once case before after seq row id legal =
    let entry : Entry = Ack seq row id in (
      acknowledged-not_before case before after seq row id legal,
      acknowledged-not_after case id after (before ++ entry ∷ [])
          (subst (IsLegal case) (sym (append_assoc before (entry ∷ []) after)) legal)
          (list_any-append (acknowledges id) before (entry ∷ [])
          ∙ ap (λ b. is_acknowledged id before || (b || false)) (Rattle.history_laws.proofs.IdLaws.same_id-itself id)
          ∙ last (is_acknowledged id before)),
    )
  where
    last : (b : Bool) → (b || (true || false)) ≡ true
    last true = refl
    last false = refl

-- where nothing waits, each record that was made is handled
pub done-handled : (case : CaseShape) (history : List Entry) → IsLegal case history → (run_of case.topology history).unhandled ≡ []
    → AllByRecursion (λ (d : Delivery). is_handled d.id history ≡ true) (run_of case.topology history).made
done-handled case history legal none =
    let run = run_of case.topology history in
    each-weaker (λ (d : Delivery). is_left history d ≡ false) (λ (d : Delivery). is_handled d.id history ≡ true)
    (λ d left. on (is_handled d.id history) left) run.made
    (filter-nil (is_left history) run.made (sym (legal-ids case history legal).waiting ∙ none))
  where
    on : (b : Bool) → not b ≡ false → b ≡ true
    on true e = refl
    on false e = cc

-- where no work is left, each record that was made is acknowledged
pub finished-acknowledged : (case : CaseShape) (history : List Entry) → IsLegal case history
    → IsFinished case (run_of case.topology history)
    → AllByRecursion (λ (d : Delivery). is_acknowledged d.id history ≡ true) (run_of case.topology history).made
finished-acknowledged case history legal finished =
    each-weaker (λ (d : Delivery). is_acknowledged d.id history ≡ false → IsSentBy case.topology run d)
    (λ (d : Delivery). is_acknowledged d.id history ≡ true)
    (λ d sent. elim (is_acknowledged d.id history) as (λ b. is_acknowledged d.id history ≡ b → b ≡ true) [
      | true ↦ λ _. refl
      | false ↦ λ left. absurd (none (sent left))
    ] refl) run.made (legal-acknowledged case history legal).sent
  where
    run : Run
    run = run_of case.topology history

    rows : AllByRecursion (λ (r : RowName × Contents). r.1.pending ≡ []) run.rows
    rows = flat_map-nil (λ (r : RowName × Contents). r.1.pending) run.rows (no_length (all_pending run) (omega (arith, finished)))

    none : {d : Delivery} → IsSentBy case.topology run d → ⊥
    none {d} by = none_some d (sym (ap (found_delivery d.id)
        (row_of-each case.topology run by.sender (λ (c : Contents). c.pending ≡ []) rows refl)) ∙ by.pending)

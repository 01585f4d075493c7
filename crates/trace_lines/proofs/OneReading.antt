-- A lawful entry is fixed by its choice, and a lawful history by its lines.
use Rattle.std.proofs.Common.{◌≡◌, ℕ, ◌+◌, ◌<◌, ◌^◌, List, [], ◌∷◌, ◌++◌, length, length-append, refl, sym, ap, ap₂, ◌∙◌, subst, arith, append_assoc}
use Rattle.std.specs.Prelude.{Option, Some, slice_get}
use Rattle.std.specs.Option.{option_map, option_and_then}
use Rattle.mw_types.specs.declared.identity.RowName.{RowName}
use Rattle.mw_types.specs.declared.timer.Timer.{Timer}
use Rattle.mw_types.specs.declared.delivery.Delivery.{Delivery}
use Rattle.mw_types.specs.declared.entry.Entry.{Entry}
use Rattle.mw_types.specs.declared.entry.Entry.TheVariants.{Claim, Inject, Handle, Fire, Ack, Purge}
use Rattle.mw_types.specs.Outcomes.{EffectsView}
use Rattle.injector.specs.Sources.{item_at}
use Rattle.row_parts.specs.Contents.{found_delivery}
use Rattle.run_history.specs.Cases.{CaseShape, record_of, source_of}
use Rattle.run_history.specs.Fences.{IsUnderLastClaim, interval_of, last_claim}
use Rattle.run_history.specs.Inputs.{IsRunnable}
use Rattle.computations.specs.Handlers.{Cause, OfRecord, OfTimer}
use Rattle.run_history.specs.Legal.{MayFollow, outcome_of}
use Rattle.run_history.specs.Runs.{empty_run, row_of, run_of}
use Rattle.run_history.specs.Watermarks.{cursor_of}
use Rattle.run_history.proofs.Making.{length-numbered}
use Rattle.list_lemmas.proofs.Lists.{some_same}
use Rattle.history_laws.specs.Keys.{AreKeyed}
use Rattle.history_laws.specs.Writes.{IsLegalAndFenced}
use Rattle.history_laws.proofs.Along.{AreLegal-apart}
use Rattle.trace_lines.specs.declared.choice.Choice.{Choice}
use Rattle.trace_lines.specs.declared.choice.Choice.TheVariants as choices
use Rattle.trace_lines.specs.Choices.{choice_of}
use Rattle.trace_lines.specs.Lines.{entry_lines_in, text_of_entry}
use Rattle.trace_lines.specs.Entries.{IsEntry}
use Rattle.trace_lines.specs.Readings.{texts_from, IsReading, IsRunText}
use Rattle.trace_lines.specs.Values.{AreValued}
use Rattle.trace_lines.proofs.Choosing.{choice_of-same}
use Rattle.trace_lines.proofs.EntryLaws.{legal-entries, next-entry}
use Rattle.trace_lines.proofs.Parting.{entry_lines_in-printed}

-- ---- the entry of a choice

-- the number of the last claim of a row's interval
abbrev seq_of : CaseShape → List Entry → RowName → Option ℕ
seq_of case history name = option_and_then (λ (i : ℕ). last_claim i history) (interval_of case.topology name)

-- what injects a line of an injector
abbrev inject_of : CaseShape → ℕ → ℕ → ℕ → Option Entry
inject_of case part line seq = option_map (Inject seq part line) (option_map record_of (item_at (source_of case part) line))

-- what a cause brings about in a row, with what the row's handler leaves of it
abbrev brought_by : CaseShape → List Entry → RowName → Cause → (ℕ → EffectsView → Entry) → Option Entry
brought_by case history row cause entry = option_and_then (λ seq. option_map (entry seq)
    (outcome_of case row (row_of case.topology (run_of case.topology history) row) cause)) (seq_of case history row)

-- the entry that a choice makes
abbrev entry_for : CaseShape → List Entry → Choice → Option Entry
entry_for case history (choices.Claim worker interval) = Some (Claim worker interval)
entry_for case history (choices.Inject part) =
    option_and_then (inject_of case part (cursor_of case (run_of case.topology history) part))
    (seq_of case history (record { part = part; key = [] }))
entry_for case history (choices.Handle id) =
    option_and_then (λ (d : Delivery). brought_by case history d.to (OfRecord d.item) (λ seq. Handle seq d.to id))
    (found_delivery id (run_of case.topology history).unhandled)
entry_for case history (choices.Fire row mark) =
    option_and_then (λ timer. brought_by case history row (OfTimer timer) (λ seq. Fire seq row timer mark))
    (slice_get (row_of case.topology (run_of case.topology history) row).timers 0)
entry_for case history (choices.Ack row id) = option_map (λ seq. Ack seq row id) (seq_of case history row)
entry_for case history (choices.Purge row floor) = option_map (λ seq. Purge seq row floor) (seq_of case history row)

-- that is the entry with what the handler leaves, under the last claim
brought_by-left : (case : CaseShape) (history : List Entry) (row : RowName) (cause : Cause)
    (entry : ℕ → EffectsView → Entry) (seq : ℕ) (effects : EffectsView) → seq_of case history row ≡ Some seq
    → outcome_of case row (row_of case.topology (run_of case.topology history) row) cause ≡ Some effects
    → brought_by case history row cause entry ≡ Some (entry seq effects)
brought_by-left case history row cause entry seq effects under does =
    λ i. option_and_then (λ s. option_map (entry s) (does i)) (under i)

-- a lawful entry is the one that its choice makes
entry_for-own : (case : CaseShape) (history : List Entry) (entry : Entry) → MayFollow case (run_of case.topology history) entry
    → IsUnderLastClaim case.topology history entry → entry_for case history (choice_of entry) ≡ Some entry
entry_for-own case history (Claim worker interval) may under = refl
entry_for-own case history (Inject seq part line item) may under =
    ap (option_and_then (inject_of case part (cursor_of case (run_of case.topology history) part)))
    (under (record { part = part; key = [] }) refl)
    ∙ ap (λ l. inject_of case part l seq) (sym may.next_line)
    ∙ ap (option_map (Inject seq part line)) may.of_line
entry_for-own case history (Handle seq row id effects) may under =
    let item = may.delivery.item in
    ap (option_and_then (λ (d : Delivery). brought_by case history d.to (OfRecord d.item) (λ s. Handle s d.to id)))
    may.waits
    ∙ ap (λ (r : RowName). brought_by case history r (OfRecord item) (λ s. Handle s r id)) may.to_row
    ∙ brought_by-left case history row (OfRecord item) (λ s. Handle s row id) seq effects (under row refl) may.does
entry_for-own case history (Fire seq row timer mark effects) may under =
    ap (option_and_then (λ (t : Timer). brought_by case history row (OfTimer t) (λ s. Fire s row t mark)))
    may.least_timer
    ∙ brought_by-left case history row (OfTimer timer) (λ s. Fire s row timer mark) seq effects (under row refl)
    may.does
entry_for-own case history (Ack seq row id) may under = ap (option_map (λ s. Ack s row id)) (under row refl)
entry_for-own case history (Purge seq row floor) may under = ap (option_map (λ s. Purge s row floor)) (under row refl)

-- so lawful entries of one choice are one entry
pub choice_of-fixes : (case : CaseShape) (history : List Entry) (one other : Entry)
    → MayFollow case (run_of case.topology history) one → IsUnderLastClaim case.topology history one
    → MayFollow case (run_of case.topology history) other → IsUnderLastClaim case.topology history other
    → choice_of one ≡ choice_of other → one ≡ other
choice_of-fixes case history one other may_one under_one may_other under_other same = some_same one other
    (sym (entry_for-own case history one may_one under_one) ∙ ap (entry_for case history) same
    ∙ entry_for-own case history other may_other under_other)

-- ---- the history of some lines

-- what comes next in a lawful history
pub record ComesNext (case : CaseShape) (front : List Entry) (e : Entry) : Type 0 where
  pub is : IsEntry e
  pub may : MayFollow case (run_of case.topology front) e
  pub under : IsUnderLastClaim case.topology front e

pub comes-next : (case : CaseShape) (front : List Entry) (e : Entry) (es : List Entry) → IsRunnable case → AreKeyed case → AreValued case
    → IsLegalAndFenced case (front ++ e ∷ es) → length (front ++ e ∷ es) < 2 ^ 32 → ComesNext case front e
comes-next case front e es runs keyed valued lawful short =
    let parts = AreLegal-apart case front (e ∷ es) empty_run lawful.legal in
    let long = length-append front (e ∷ es) in
    let under = lawful.fenced front e (es, append_assoc front (e ∷ []) es) in record {
      is = next-entry case front e runs keyed valued parts.0 (omega (arith, long, short)) parts.1.0 under;
      may = parts.1.0;
      under = under;
    }

-- entries behind the same ones, with the same lines, are the same
behind-same : (case : CaseShape) (front one other : List Entry) → IsRunnable case → AreKeyed case → AreValued case
    → IsLegalAndFenced case (front ++ one) → length (front ++ one) < 2 ^ 32
    → IsLegalAndFenced case (front ++ other) → length (front ++ other) < 2 ^ 32
    → texts_from (length front) one ≡ texts_from (length front) other → one ≡ other
behind-same case front [] [] runs keyed valued lawful_one short_one lawful_other short_other same = refl
behind-same case front [] (y ∷ ys) runs keyed valued lawful_one short_one lawful_other short_other same = absurd (cc)
behind-same case front (x ∷ xs) [] runs keyed valued lawful_one short_one lawful_other short_other same = absurd (cc)
behind-same case front (x ∷ xs) (y ∷ ys) runs keyed valued lawful_one short_one lawful_other short_other same =
    let n = length front in
    let of_x = comes-next case front x xs runs keyed valued lawful_one short_one in
    let of_y = comes-next case front y ys runs keyed valued lawful_other short_other in
    let line : text_of_entry n x ≡ text_of_entry n y = cc in
    let lines : texts_from (n + 1) xs ≡ texts_from (n + 1) ys = cc in
    let long = length-append front (x ∷ xs) in
    let number : n < 2 ^ 64 = omega (arith, long, short_one) in
    let first : x ≡ y = choice_of-fixes case front x y of_x.may of_x.under of_y.may of_y.under
    (choice_of-same n x y number of_x.is of_y.is line) in
    let more : (z : Entry) (zs : List Entry) → (front ++ z ∷ []) ++ zs ≡ front ++ z ∷ zs = λ z zs. append_assoc front (z ∷ []) zs in
    let other : (front ++ x ∷ []) ++ ys ≡ front ++ y ∷ ys = more x ys ∙ ap (λ z. front ++ z ∷ ys) first in
    let count : length (front ++ x ∷ []) ≡ n + 1 = length-append front (x ∷ []) in
    ap₂ (λ z zs. z ∷ zs) first (behind-same case (front ++ x ∷ []) xs ys runs keyed valued
    (subst (IsLegalAndFenced case) (sym (more x xs)) lawful_one)
    (subst (λ (h : List Entry). length h < 2 ^ 32) (sym (more x xs)) short_one)
    (subst (IsLegalAndFenced case) (sym other) lawful_other)
    (subst (λ (h : List Entry). length h < 2 ^ 32) (sym other) short_other)
    (subst (λ m. texts_from m xs ≡ texts_from m ys) (sym count) lines))

-- a history is as long as its lines are many
pub reading-long : (case : CaseShape) (lines : List (List ℕ)) (history : List Entry) → IsReading case history lines
    → length history ≡ length lines
reading-long case lines history is =
    sym (length-numbered (λ (e : ℕ × Entry). text_of_entry e.0 e.1) 0 history) ∙ ap length is.printed

-- lines have one reading
pub reading-one : (case : CaseShape) (lines : List (List ℕ)) (one other : List Entry) → IsRunnable case → AreKeyed case → AreValued case
    → length lines < 2 ^ 32 → IsReading case one lines → IsReading case other lines → one ≡ other
reading-one case lines one other runs keyed valued short is_one is_other =
    let long_one = reading-long case lines one is_one in
    let long_other = reading-long case lines other is_other in
    behind-same case [] one other runs keyed valued is_one.lawful (omega (arith, long_one, short))
    is_other.lawful (omega (arith, long_other, short)) (is_one.printed ∙ sym is_other.printed)

-- the history of a text is the reading of its lines of entries
pub run_text-read : (case : CaseShape) (history : List Entry) (bytes : List ℕ) → IsRunnable case → AreKeyed case → AreValued case
    → length history < 2 ^ 32 → IsRunText case history bytes → IsReading case history (entry_lines_in bytes)
run_text-read case history bytes runs keyed valued short is = record {
  lawful = is.lawful;
  printed = sym (ap entry_lines_in is.whole ∙ entry_lines_in-printed case.topology history is.result
      (legal-entries case history runs keyed valued is.lawful short) (omega (arith, short)) is.is_result);
}

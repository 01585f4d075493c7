-- What stands behind the lines of entries, once all of them have been read.
use Rattle.std.proofs.Common.{◌≡◌, ℕ, ◌+◌, ◌-◌, ◌<◌, ◌^◌, List, [], ◌∷◌, ◌++◌, length, inl, inr, sym, ap, subst, ◌∙◌, arith, append-nil, length-append}
use Rattle.std.specs.Prelude.{◌⊎◌, Err, IfErr, IfOk, Ok, Result}
use Rattle.std.specs.List.{take_while}
use Rattle.std.proofs.lemmas.List.{append_cancel_left}
use Rattle.mw_types.specs.declared.entry.Entry.{Entry}
use Rattle.run_history.specs.Cases.{CaseShape}
use Rattle.run_history.specs.HistoryLines.{lines_of_history}
use Rattle.run_history.specs.Texts.{IsResultText}
use Rattle.history_laws.specs.Writes.{IsLegalAndFenced}
use Rattle.trace_lines.specs.declared.refusal.AuditWhy.TheVariants.{NotALine, Unlawful, NotFinished, BadText}
use Rattle.trace_lines.specs.declared.refusal.AuditRefusal.{AuditRefusal}
use Rattle.trace_lines.specs.declared.refusal.AuditRefusal.TheVariants.{Bad, NoMemory}
use Rattle.trace_lines.specs.Entries.{IsEntryLine}
use Rattle.trace_lines.specs.Lines.{begins_entry, entry_lines_in, lines_in}
use Rattle.trace_lines.specs.Readings.{texts_from, IsAllRead, IsFirstUnread, IsRunText}
use Rattle.trace_lines.specs.Refusals.{IsAuditRefusal}
use Rattle.trace_lines.proofs.Parting.{begin-from}
use Rattle.audit.specs.Steps.{IsEndRefusal, IsHeadOf, IsLineRefusal, IsReadTo, IsReal, IsWholeRun}
use Rattle.audit.proofs.OneResult.{result-some}
use Rattle.audit.proofs.Printing.{texts-many}
use Rattle.audit.proofs.Reading.{first-unread}

-- ---- a line is refused

-- a number from 1, less one
less-one : (n : ℕ) → (n + 1) - 1 ≡ n
less-one n = omega arith

-- the refusal of a line is that of the text
pub line-wrong : (case : CaseShape) (bytes rest line after : List ℕ) (history : List Entry) (refusal : AuditRefusal) → IsReal case
    → length bytes < 2 ^ 32 → IsReadTo bytes rest history → IsHeadOf rest line after → IsLineRefusal case history line refusal
    → IsAuditRefusal case bytes refusal
line-wrong case bytes rest line after history NoMemory real few read head is = tt
line-wrong case bytes rest line after history (Bad number NotALine) real few read head is = (
  line,
  subst (λ (n : ℕ). IsFirstUnread case bytes n line) (sym is.0) (first-unread case bytes rest line after history real few is.1 read head is.2),
  subst (λ (n : ℕ). IsEntryLine n line → ⊥) (sym (ap (λ (n : ℕ). n - 1) is.0 ∙ less-one (length history))) is.3,
)
line-wrong case bytes rest line after history (Bad number Unlawful) real few read head is = (
  line,
  subst (λ (n : ℕ). IsFirstUnread case bytes n line) (sym is.0) (first-unread case bytes rest line after history real few is.1 read head is.2),
  subst (λ (n : ℕ). IsEntryLine n line) (sym (ap (λ (n : ℕ). n - 1) is.0 ∙ less-one (length history))) is.3,
)
line-wrong case bytes rest line after history (Bad number NotFinished) real few read head is = absurd is.3
line-wrong case bytes rest line after history (Bad number BadText) real few read head is = absurd is.3

-- ---- all lines of entries have been read

-- the history is their reading
all-read : (case : CaseShape) (bytes rest : List ℕ) (history : List Entry) → IsLegalAndFenced case history → IsReadTo bytes rest history
    → entry_lines_in rest ≡ [] → IsAllRead case bytes (length history + 1) history
all-read case bytes rest history lawful read none =
    let printed : texts_from 0 history ≡ entry_lines_in bytes =
    sym (ap (take_while begins_entry) read.lines ∙ begin-from 0 history (lines_in rest)
    ∙ ap (λ l. texts_from 0 history ++ l) none ∙ append-nil (texts_from 0 history)) in record {
      reading = record { lawful = lawful; printed = printed };
      numbered = ap (λ n. n + 1) (sym (texts-many history) ∙ ap length printed);
    }

-- where the text is that of a run of this history, what is left is its result
result-of : (case : CaseShape) (bytes rest : List ℕ) (history : List Entry) → IsReadTo bytes rest history
    → IsRunText case history bytes → IsResultText case.topology history rest
result-of case bytes rest history read is = by read.text
  where
    by : (bytes ≡ lines_of_history history ++ rest) ⊎ ((bytes ++ 10 ∷ [] ≡ lines_of_history history) × (rest ≡ []))
        → IsResultText case.topology history rest
    by (inl whole) = subst (IsResultText case.topology history)
        (append_cancel_left (lines_of_history history) is.result rest (sym is.whole ∙ whole)) is.is_result
    by (inr ended) = absurd (omega
        (arith, ap length is.whole, length-append (lines_of_history history) is.result, ap length ended.0, length-append bytes (10 ∷ [])))

-- the refusal of what is left is that of the text
pub end-wrong : (case : CaseShape) (bytes rest : List ℕ) (history : List Entry) (refusal : AuditRefusal) → IsReadTo bytes rest history
    → entry_lines_in rest ≡ [] → IsEndRefusal case history rest refusal → IsAuditRefusal case bytes refusal
end-wrong case bytes rest history NoMemory read none is = tt
end-wrong case bytes rest history (Bad number NotALine) read none is = absurd is.2
end-wrong case bytes rest history (Bad number Unlawful) read none is = absurd is.2
end-wrong case bytes rest history (Bad number NotFinished) read none is = (
  history,
  subst (λ (n : ℕ). IsAllRead case bytes n history) (sym is.0) (all-read case bytes rest history is.1 read none),
  is.2,
)
end-wrong case bytes rest history (Bad number BadText) read none is = (
  history,
  subst (λ (n : ℕ). IsAllRead case bytes n history) (sym is.0) (all-read case bytes rest history is.1 read none),
  is.2.0,
  λ run. is.2.1 (result-of case bytes rest history read run),
)

-- so where an answer has it
pub end-answer : {T : Type 0} (case : CaseShape) (bytes rest : List ℕ) (history : List Entry) → IsReadTo bytes rest history
    → entry_lines_in rest ≡ [] → (result : Result T AuditRefusal) → IfErr result (IsEndRefusal case history rest)
    → IfErr result (IsAuditRefusal case bytes)
end-answer case bytes rest history read none (Ok x) is = tt
end-answer case bytes rest history read none (Err refusal) is = end-wrong case bytes rest history refusal read none is

-- where it is the result, the text is that of a run
pub whole-text : (case : CaseShape) (bytes rest : List ℕ) (history answered : List Entry) → IsReadTo bytes rest history
    → IsWholeRun case history rest answered → IsRunText case answered bytes
whole-text case bytes rest history answered read is =
    subst (λ (h : List Entry). IsRunText case h bytes) (sym is.same) (by read.text)
  where
    by : (bytes ≡ lines_of_history history ++ rest) ⊎ ((bytes ++ 10 ∷ [] ≡ lines_of_history history) × (rest ≡ []))
        → IsRunText case history bytes
    by (inl whole) = record {
      lawful = is.lawful;
      finished = is.finished;
      result = rest;
      is_result = is.is_result;
      whole = whole;
    }
    by (inr ended) = absurd (omega (arith, result-some case.topology history rest is.is_result, ap length ended.1))

-- so where an answer has it
pub ok-text : {X : Type 0} (case : CaseShape) (bytes rest : List ℕ) (history : List Entry) → IsReadTo bytes rest history
    → (result : Result (List Entry) X) → IfOk result (λ answered. IsWholeRun case history rest answered)
    → IfOk result (λ answered. IsRunText case answered bytes)
ok-text case bytes rest history read (Ok answered) is = whole-text case bytes rest history answered read is
ok-text case bytes rest history read (Err why) is = tt

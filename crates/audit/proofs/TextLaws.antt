-- A text is that of one run at most, and of none where a line is wrong.
use Rattle.std.proofs.Common.{◌≡◌, ℕ, ◌+◌, ◌<◌, ◌^◌, List, [], ◌∷◌, ◌++◌, length, take, drop, sym, ap, subst, ◌∙◌, arith, append_assoc, length-append}
use Rattle.std.proofs.lemmas.List.{length-take, take-append-drop, take-append-le, take_all}
use Rattle.mw_types.specs.declared.entry.Entry.{Entry}
use Rattle.run_history.specs.Cases.{CaseShape}
use Rattle.run_history.specs.Finished.{IsFinished}
use Rattle.run_history.specs.HistoryLines.{lines_of_history}
use Rattle.run_history.specs.Inputs.{IsRunnable}
use Rattle.run_history.specs.Runs.{run_of}
use Rattle.history_laws.specs.Keys.{AreKeyed}
use Rattle.history_laws.specs.Writes.{IsLegalAndFenced}
use Rattle.history_laws.proofs.SeenLaws.{IsLegalAndFenced-front}
use Rattle.trace_lines.specs.declared.refusal.AuditWhy.{AuditWhy}
use Rattle.trace_lines.specs.declared.refusal.AuditWhy.TheVariants.{NotALine, Unlawful, NotFinished, BadText}
use Rattle.trace_lines.specs.Lines.{entry_lines_in}
use Rattle.trace_lines.specs.Readings.{texts_from, IsReading, IsRead, IsFirstUnread, IsRunText}
use Rattle.trace_lines.specs.Refusals.{IsFirstWrong}
use Rattle.trace_lines.specs.Values.{AreValued}
use Rattle.trace_lines.proofs.OneReading.{reading-long, reading-one, run_text-read}
use Rattle.audit.proofs.Printing.{texts_from-append, texts-many, lines-long}

-- a history is not longer than its text
run-short : (case : CaseShape) (history : List Entry) (bytes : List ℕ) → length bytes < 2 ^ 32 → IsRunText case history bytes
    → length history < 2 ^ 32
run-short case history bytes few is =
    omega (arith, lines-long 0 history, ap length is.whole, length-append (lines_of_history history) is.result, few)

-- the lines of entries have a reading that is the run's
run-reading : (case : CaseShape) (history : List Entry) (bytes : List ℕ) → IsRunnable case → AreKeyed case → AreValued case
    → length bytes < 2 ^ 32 → IsRunText case history bytes → IsReading case history (entry_lines_in bytes)
run-reading case history bytes runs keyed valued few is =
    run_text-read case history bytes runs keyed valued (run-short case history bytes few is) is

-- and each reading of them is the run's
run-one : (case : CaseShape) (bytes : List ℕ) (one other : List Entry) → IsRunnable case → AreKeyed case → AreValued case
    → length bytes < 2 ^ 32 → IsRunText case one bytes → IsReading case other (entry_lines_in bytes) → one ≡ other
run-one case bytes one other runs keyed valued few is reads =
    let mine = run-reading case one bytes runs keyed valued few is in
    let long = reading-long case (entry_lines_in bytes) one mine in
    let short = run-short case one bytes few is in
    reading-one case (entry_lines_in bytes) one other runs keyed valued (omega (arith, long, short)) mine reads

-- a text is that of one run at most
pub one-run : (case : CaseShape) (bytes : List ℕ) (one other : List Entry) → IsRunnable case → AreKeyed case → AreValued case
    → length bytes < 2 ^ 32 → IsRunText case one bytes → IsRunText case other bytes → one ≡ other
one-run case bytes one other runs keyed valued few is also =
    run-one case bytes one other runs keyed valued few is (run-reading case other bytes runs keyed valued few also)

-- the first lines of a reading have one
read-front : (case : CaseShape) (front rest : List (List ℕ)) (history : List Entry) → IsReading case history (front ++ rest)
    → IsRead case front
read-front case front rest history is =
    let k = length front in
    let mine = take k history in
    let parts : mine ++ drop k history ≡ history = take-append-drop k history in
    let long = reading-long case (front ++ rest) history is in
    let both = length-append front rest in
    let many : length mine ≡ k = omega (arith, length-take k history, long, both) in
    let lines : texts_from 0 mine ++ texts_from (length mine) (drop k history) ≡ front ++ rest =
    sym (texts_from-append mine (drop k history)) ∙ ap (texts_from 0) parts ∙ is.printed in
    let texts : length (texts_from 0 mine) ≡ k = texts-many mine ∙ many in (
      mine,
      record {
        lawful = IsLegalAndFenced-front case mine (drop k history) (subst (IsLegalAndFenced case) (sym parts) is.lawful);
        printed = sym (take_all k (texts_from 0 mine) (omega (arith, texts)))
            ∙ sym (take-append-le k (texts_from 0 mine) (texts_from (length mine) (drop k history)) (omega (arith, texts)))
            ∙ ap (take k) lines ∙ take-append-le k front rest (omega arith) ∙ take_all k front (omega arith);
      },
    )

-- a text with a first line of which no entry is read is that of no run
unread-none : (case : CaseShape) (bytes : List ℕ) (number : ℕ) (line : List ℕ) (history : List Entry) → IsRunnable case → AreKeyed case
    → AreValued case → length bytes < 2 ^ 32 → IsFirstUnread case bytes number line → IsRunText case history bytes → ⊥
unread-none case bytes number line history runs keyed valued few first is =
    first.unread (read-front case (first.before ++ line ∷ []) first.after history
    (subst (IsReading case history) (first.stands ∙ sym (append_assoc first.before (line ∷ []) first.after))
    (run-reading case history bytes runs keyed valued few is)))

-- nor is any text with a first wrong line
pub wrong-none : (case : CaseShape) (bytes : List ℕ) (number : ℕ) (why : AuditWhy) (history : List Entry) → IsRunnable case
    → AreKeyed case → AreValued case → length bytes < 2 ^ 32 → IsFirstWrong case bytes number why → IsRunText case history bytes → ⊥
wrong-none case bytes number NotALine history runs keyed valued few wrong is =
    unread-none case bytes number wrong.0 history runs keyed valued few wrong.1 is
wrong-none case bytes number Unlawful history runs keyed valued few wrong is =
    unread-none case bytes number wrong.0 history runs keyed valued few wrong.1 is
wrong-none case bytes number NotFinished history runs keyed valued few wrong is =
    let same = run-one case bytes history wrong.0 runs keyed valued few is wrong.1.reading in
    wrong.2 (subst (λ (h : List Entry). IsFinished case (run_of case.topology h)) same is.finished)
wrong-none case bytes number BadText history runs keyed valued few wrong is =
    let same = run-one case bytes history wrong.0 runs keyed valued few is wrong.1.reading in
    wrong.3 (subst (λ (h : List Entry). IsRunText case h bytes) same is)

-- What a line tells of the entry that may come next.
use Rattle.std.proofs.Common.{◌≡◌, ℕ, List, length, sym, ap, ◌∙◌, arith}
use Rattle.std.specs.Prelude.{None, Some}
use Rattle.list_lemmas.proofs.Lists.{none_some, some_same}
use Rattle.mw_types.specs.declared.entry.Entry.{Entry}
use Rattle.mw_types.specs.declared.entry.Entry.TheVariants.{Claim, Inject, Handle, Fire, Ack, Purge}
use Rattle.run_history.specs.Cases.{CaseShape}
use Rattle.run_history.specs.HistoryLines.{HasLine}
use Rattle.trace_lines.specs.declared.choice.Choice.{Choice}
use Rattle.trace_lines.specs.Choices.{choice_at, choice_of}
use Rattle.trace_lines.specs.Entries.{IsEntry}
use Rattle.trace_lines.specs.Lines.{text_of_entry}
use Rattle.trace_lines.proofs.Choosing.{choice_at-entry}
use Rattle.trace_lines.proofs.EntryLaws.{next-entry}
use Rattle.trace_lines.proofs.OneReading.{choice_of-fixes}
use Rattle.audit.specs.Choices.{IsChosen, MayCome}
use Rattle.audit.specs.Steps.{HasRoom, IsNextRead}

-- what may come next is within the bounds of its types
pub next-is : (case : CaseShape) (history : List Entry) (entry : Entry) → HasRoom case history → MayCome case history entry → IsEntry entry
next-is case history entry room may = next-entry case history entry room.real.runnable room.real.keyed room.real.valued
    room.lawful.legal room.few may.may may.under

-- an entry within the bounds of its types can be printed
pub entry-line : (entry : Entry) → IsEntry entry → HasLine entry
entry-line (Claim worker interval) is = tt
entry-line (Inject seq part line item) is = tt
entry-line (Handle seq row id effects) is = is.2
entry-line (Fire seq row timer mark effects) is = tt
entry-line (Ack seq row id) is = is.2
entry-line (Purge seq row floor) is = tt

-- so its line tells its choice
told-next : (case : CaseShape) (history : List Entry) (entry : Entry) (line : List ℕ) → HasRoom case history
    → MayCome case history entry → text_of_entry (length history) entry ≡ line → choice_at line ≡ Some (choice_of entry)
told-next case history entry line room may same =
    ap choice_at (sym same)
    ∙ choice_at-entry (length history) entry (omega (arith, room.few)) (next-is case history entry room may)

-- a line that tells no choice is that of no entry which may come next
pub none-told : (case : CaseShape) (history : List Entry) (line : List ℕ) → HasRoom case history → choice_at line ≡ None
    → IsNextRead case history line None
none-told case history line room none entry may same =
    absurd (none_some (choice_of entry) (sym none ∙ told-next case history entry line room may same))

-- nor is one of whose choice there is no entry
pub none-chosen : (case : CaseShape) (history : List Entry) (line : List ℕ) (choice : Choice) → HasRoom case history
    → choice_at line ≡ Some choice → IsChosen case history choice None → IsNextRead case history line None
none-chosen case history line choice room told none entry may same =
    none entry (some_same (choice_of entry) choice (sym (told-next case history entry line room may same) ∙ told)) may

-- nor is one that differs from the line of the entry of its choice
pub none-own : (case : CaseShape) (history : List Entry) (line : List ℕ) (own : Entry) → HasRoom case history
    → choice_at line ≡ Some (choice_of own) → MayCome case history own → (text_of_entry (length history) own ≡ line → ⊥)
    → IsNextRead case history line None
none-own case history line own room told its differs entry may same =
    let one : own ≡ entry = choice_of-fixes case history own entry its.may its.under may.may may.under
    (some_same (choice_of own) (choice_of entry) (sym told ∙ told-next case history entry line room may same)) in
    differs (ap (text_of_entry (length history)) one ∙ same)

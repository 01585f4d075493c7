-- What one more entry does to the run of a history, and to its being legal.
use Rattle.std.proofs.Common.{◌≡◌, ◌∙◌, ◌+◌, List, [], ◌∷◌, ◌++◌, fold, length, arith}
use Rattle.std.proofs.lemmas.List.Sums.{fold-append}
use Rattle.mw_types.specs.declared.entry.Entry.{Entry}
use Rattle.topology.specs.Shapes.{Shape}
use Rattle.run_history.specs.Cases.{CaseShape}
use Rattle.run_history.specs.Runs.{Run, run_of, followed, empty_run}
use Rattle.run_history.specs.Legal.{MayFollow, AreLegal, IsLegal}

-- the run of a history with one more entry is that of the history, and the entry followed
pub run_of-push : (shape : Shape) (history : List Entry) (entry : Entry)
    → run_of shape (history ++ entry ∷ []) ≡ followed shape (run_of shape history) entry
run_of-push shape history entry = fold-append (followed shape) empty_run history (entry ∷ [])

-- each entry takes one commit number
next-fold : (shape : Shape) (run : Run) (entries : List Entry) → (fold (followed shape) run entries).next ≡ run.next + length entries
next-fold shape run [] = omega arith
next-fold shape run (e ∷ es) = next-fold shape (followed shape run e) es ∙ omega arith

-- the next commit number after a history is its length
pub next-length : (shape : Shape) (history : List Entry) → (run_of shape history).next ≡ length history
next-length shape history =
    let zero_more : 0 + length history ≡ length history = omega arith in next-fold shape empty_run history ∙ zero_more

-- entries that are legal, and one that may follow them, are legal together
AreLegal-push : (case : CaseShape) (run : Run) (entries : List Entry) (entry : Entry) → AreLegal case run entries
    → MayFollow case (Rattle.std.specs.List.fold (followed case.topology) run entries) entry
    → AreLegal case run (entries ++ entry ∷ [])
AreLegal-push case run [] entry legal may = (may, tt)
AreLegal-push case run (e ∷ es) entry legal may = (legal.0, AreLegal-push case (followed case.topology run e) es entry legal.1 may)

-- a legal history and an entry that may follow it are legal together
pub IsLegal-push : (case : CaseShape) (history : List Entry) (entry : Entry) → IsLegal case history
    → MayFollow case (run_of case.topology history) entry → IsLegal case (history ++ entry ∷ [])
IsLegal-push case history entry = AreLegal-push case empty_run history entry

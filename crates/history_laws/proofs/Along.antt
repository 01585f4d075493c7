-- What holds along each legal history, by what one entry does.
use Rattle.std.proofs.Common.{◌≡◌, List, [], ◌∷◌, ◌++◌, fold, sym, subst, append_assoc}
use Rattle.std.proofs.lemmas.List.{append-nil}
use Rattle.std.proofs.lemmas.List.Sums.{fold-append}
use Rattle.mw_types.specs.declared.entry.Entry.{Entry}
use Rattle.topology.specs.Shapes.{Shape}
use Rattle.run_history.specs.Cases.{CaseShape}
use Rattle.run_history.specs.Runs.{Run, run_of, followed, empty_run}
use Rattle.run_history.specs.Legal.{MayFollow, AreLegal, IsLegal}

-- the run of a history that goes on
pub run_of-append : (shape : Shape) (front rest : List Entry)
    → run_of shape (front ++ rest) ≡ fold (followed shape) (run_of shape front) rest
run_of-append shape front rest = fold-append (followed shape) empty_run front rest

-- legal entries after legal entries are legal each
pub AreLegal-apart : (case : CaseShape) (front rest : List Entry) (run : Run) → AreLegal case run (front ++ rest)
    → AreLegal case run front × AreLegal case (fold (followed case.topology) run front) rest
AreLegal-apart case [] rest run legal = (tt, legal)
AreLegal-apart case (e ∷ es) rest run legal =
    let parts = AreLegal-apart case es rest (followed case.topology run e) legal.1 in ((legal.0, parts.0), parts.1)

-- what holds of a history and its run, and still does after each entry that may follow, holds after entries that are legal
pub along_entries : (case : CaseShape) (Holds : List Entry → Run → Type 0)
    → ((done : List Entry) (run : Run) (entry : Entry) → Holds done run → MayFollow case run entry
    → Holds (done ++ entry ∷ []) (followed case.topology run entry))
    → (entries done : List Entry) (run : Run) → Holds done run → AreLegal case run entries
    → Holds (done ++ entries) (fold (followed case.topology) run entries)
along_entries case Holds step [] done run holds legal = subst (λ (h : List Entry). Holds h run) (sym (append-nil done)) holds
along_entries case Holds step (e ∷ es) done run holds legal =
    subst (λ (h : List Entry). Holds h (fold (followed case.topology) (followed case.topology run e) es)) (append_assoc done (e ∷ []) es)
    (along_entries case Holds step es (done ++ e ∷ []) (followed case.topology run e) (step done run e holds legal.0) legal.1)

-- what holds before any entry, and still does after each entry that may follow, holds after each legal history
pub along_history : (case : CaseShape) (Holds : List Entry → Run → Type 0)
    → ((done : List Entry) (run : Run) (entry : Entry) → Holds done run → MayFollow case run entry
    → Holds (done ++ entry ∷ []) (followed case.topology run entry))
    → Holds [] empty_run
    → (history : List Entry) → IsLegal case history → Holds history (run_of case.topology history)
along_history case Holds step first history legal = along_entries case Holds step history [] empty_run first legal

-- what holds of each history, legal or not, by what one entry does
pub along_any : (shape : Shape) (Holds : Run → Type 0)
    → ((run : Run) (entry : Entry) → Holds run → Holds (followed shape run entry))
    → (entries : List Entry) (run : Run) → Holds run → Holds (fold (followed shape) run entries)
along_any shape Holds step [] run holds = holds
along_any shape Holds step (e ∷ es) run holds = along_any shape Holds step es (followed shape run e) (step run e holds)

-- what holds of each history and its run, legal or not, by what one entry does
pub along_all : (shape : Shape) (Holds : List Entry → Run → Type 0)
    → ((done : List Entry) (run : Run) (entry : Entry) → Holds done run → Holds (done ++ entry ∷ []) (followed shape run entry))
    → (entries done : List Entry) (run : Run) → Holds done run → Holds (done ++ entries) (fold (followed shape) run entries)
along_all shape Holds step [] done run holds = subst (λ (h : List Entry). Holds h run) (sym (append-nil done)) holds
along_all shape Holds step (e ∷ es) done run holds =
    subst (λ (h : List Entry). Holds h (fold (followed shape) (followed shape run e) es)) (append_assoc done (e ∷ []) es)
    (along_all shape Holds step es (done ++ e ∷ []) (followed shape run e) (step done run e holds))

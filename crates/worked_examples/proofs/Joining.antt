-- Entries that are legal one after another.
use Rattle.std.proofs.Common.{List, [], ◌∷◌, ◌++◌, fold}
use Rattle.mw_types.specs.declared.entry.Entry.{Entry}
use Rattle.run_history.specs.Cases.{CaseShape}
use Rattle.run_history.specs.Runs.{Run, followed}
use Rattle.run_history.specs.Legal.{AreLegal}

-- entries that are legal, and entries that are legal after them, are legal together
pub AreLegal-append : (case : CaseShape) (front rest : List Entry) (run : Run) → AreLegal case run front
    → AreLegal case (fold (followed case.topology) run front) rest → AreLegal case run (front ++ rest)
AreLegal-append case [] rest run legal after = after
AreLegal-append case (e ∷ es) rest run legal after =
    (legal.0, AreLegal-append case es rest (followed case.topology run e) legal.1 after)

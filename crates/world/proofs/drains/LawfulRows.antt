-- What a lawful book keeps of its history, where its rows are told.
use Rattle.std.proofs.Common.{List, length}
use Rattle.std.specs.Prelude.{Option, Some, None, IsSome, IfSome}
use Rattle.std.specs.List.{AllByRecursion}
use Rattle.mw_types.specs.declared.entry.Entry.{Entry}
use Rattle.row_keeper.specs.Rows.{Rows}
use Rattle.run_history.specs.Cases.{CaseShape}
use Rattle.run_history.specs.Legal.{IsLegal}
use Rattle.run_history.specs.Runs.{run_of}
use Rattle.book.specs.Lawful.{HoldsRowsOf, IsKeepable}

-- a book's history is legal and its rows can be kept, where they are told
pub lawful-rows : (case : CaseShape) (history : List Entry) (o : Option Rows) → IsSome o → IfSome o (HoldsRowsOf case history)
    → (IsLegal case history) × AllByRecursion (IsKeepable case (length history)) (run_of case.topology history).rows
lawful-rows case history None there is = absurd (cc)
lawful-rows case history (Some rows) there is = (is.legal, is.kept)

-- The least of safe marks that feed an interval bounds the work of each part that feeds it.
use Rattle.std.proofs.Common.{◌≡◌, ℕ, ◌<◌, ◌≤◌, List, arith}
use Rattle.std.specs.Prelude.{All, Some, get_or, slice_get}
use Rattle.std.proofs.lemmas.List.Elements.{All-from_recursion}
use Rattle.mw_types.specs.declared.TheConstants.{END}
use Rattle.key_intervals.specs.declared.bounds.Bounds.{Bounds}
use Rattle.topology.specs.Shapes.{parts_of, feeds_of}
use Rattle.run_history.specs.Cases.{CaseShape, intervals_of}
use Rattle.run_history.specs.Runs.{Run}
use Rattle.run_history.specs.Watermarks.{least}
use Rattle.run_history.specs.Inputs.{IsRunnable}
use Rattle.run_history.specs.Marks.{work_above, IsUnderMarks}
use Rattle.history_laws.proofs.LowLaws.{AreRowsInOrder, least-end}
use Rattle.history_laws.proofs.MarkLaws.{from-work, feeds-there, interval-there}
use Rattle.history_laws.proofs.ReportLaws.{marks-above}
use Rattle.watermark.specs.Marks.{feeding_marks}
use Rattle.watermark.proofs.SafeMarks.{under-feeding}
use Rattle.book.specs.Marks.{AreSafe}

-- a mark that is at most a safe mark of each interval of a part is at most the work of the part and of all above it
pub under-work : (case : CaseShape) (run : Run) (x part : ℕ) → IsRunnable case → AreRowsInOrder run → part < parts_of case.topology
    → x ≤ END → IsUnderMarks case run part x → x ≤ work_above case run part
under-work case run x part runs order there end under =
    from-work case run x order end (parts_of case.topology) part (marks-above case run x part runs there under (parts_of case.topology))

-- the least of the safe marks that feed an interval is at most the work of each part that feeds it, and of all above that
pub inputs-under_work : (case : CaseShape) (run : Run) (marks : List ℕ) (interval : ℕ) (b : Bounds) → IsRunnable case → AreRowsInOrder run
    → AreSafe case run marks → slice_get (intervals_of case.topology) interval ≡ Some b
    → All (λ (feeding : ℕ). least (feeding_marks case.topology interval marks) ≤ work_above case run feeding)
    (feeds_of case.topology b.part)
inputs-under_work case run marks interval b runs order safe at k d within =
    let x = least (feeding_marks case.topology interval marks) in
    let feeds = feeds_of case.topology b.part in
    let there : get_or feeds k d < parts_of case.topology =
    All-from_recursion (λ f. f < parts_of case.topology) feeds
    (feeds-there case b.part runs.topology (interval-there case.topology interval b at)) k d within in
    let one : x ≤ x = omega arith in
    under-work case run x (get_or feeds k d) runs order there (least-end (feeding_marks case.topology interval marks))
    (under-feeding case run marks interval x b safe at one k d within)

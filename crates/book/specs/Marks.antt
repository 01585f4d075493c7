-- The marks of a book: one for each interval, below which no work of the interval is left, and none
-- above it.
-- Akidau et al., VLDB 2013, section 4.5: each worker reports on its intervals, and a low watermark is
-- the least of the oldest work and of the inputs' marks. Own: what is reported
-- is own work, and a mark never falls.
use Rattle.std.specs.Prelude.{◌≡◌, ◌<◌, ◌≤◌, ℕ, min, max, List, slice_get, slice_set, Some}
use Rattle.key_intervals.specs.declared.bounds.Bounds.{Bounds}
use Rattle.topology.specs.Shapes.{Shape, parts_of}
use Rattle.run_history.specs.Cases.{CaseShape, intervals_of}
use Rattle.run_history.specs.Runs.{Run}
use Rattle.run_history.specs.Watermarks.{least, low_watermark}
use Rattle.run_history.specs.Marks.{IsSafe}
use Rattle.watermark.specs.Marks.{mark_of, marks_of, feeding_marks}

-- a mark is safe for the interval of this number, where there is one
abbrev pub IsSafeAt : CaseShape → Run → ℕ → ℕ → Type 0
IsSafeAt case run interval mark = (bounds : Bounds) →
    slice_get (intervals_of case.topology) interval ≡ Some bounds → IsSafe case run bounds mark

-- the mark of each interval is safe
abbrev pub AreSafe : CaseShape → Run → List ℕ → Type 0
AreSafe case run marks = (interval : ℕ) → IsSafeAt case run interval (mark_of marks interval)

-- the least mark of a part's intervals is at most the part's low watermark
abbrev pub AreUnderLow : CaseShape → Run → List ℕ → Type 0
AreUnderLow case run marks = (part : ℕ) → part < parts_of case.topology →
    least (marks_of case.topology part marks) ≤ low_watermark case run part

-- what an interval's mark is once so much own work is reported: the lesser of that and of the marks
-- that feed the interval, unless the mark was greater before
abbrev pub reported : Shape → ℕ → ℕ → List ℕ → ℕ
reported shape interval own marks =
    max (mark_of marks interval) (min own (least (feeding_marks shape interval marks)))

-- the marks with this one in the place of an interval's, and all others as they were
abbrev pub with_mark : ℕ → ℕ → List ℕ → List ℕ
with_mark interval mark marks = slice_set marks interval mark

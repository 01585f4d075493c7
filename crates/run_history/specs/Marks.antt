-- What is still to do above a point: the own work of an interval of keys, the work of a part and of all
-- that feeds it, and which marks are safe. After Akidau et al., VLDB 2013, section 4.5, where a low
-- watermark is the least of the oldest work of a computation and of its inputs' low watermarks.
-- Own: a delivery is work of the row that sent it until it is acknowledged, and the intervals stand for
-- the parts.
use Rattle.std.specs.Prelude.{◌≡◌, ℕ, zero, suc, ◌≤◌, ◌==◌, not, if◌then◌else◌, List, [], ◌∷◌, ◌++◌, map, filter, slice_get, Some, All}
use Rattle.std.specs.List.{flat_map}
use Rattle.mw_types.specs.declared.identity.RowName.{RowName}
use Rattle.mw_types.specs.declared.delivery.Delivery.{Delivery}
use Rattle.key_intervals.specs.declared.bounds.Bounds.{Bounds}
use Rattle.key_intervals.specs.Intervals.{rows_covered}
use Rattle.topology.specs.Shapes.{parts_of, feeds_of}
use Rattle.row_parts.specs.Contents.{Contents}
use Rattle.run_history.specs.Cases.{CaseShape, is_injector, intervals_of}
use Rattle.run_history.specs.Runs.{Run}
use Rattle.run_history.specs.Watermarks.{least, times_set, source_mark}

-- the timestamps of what is pending in a row and is not late
abbrev pub stamps_pending : Contents → List ℕ
stamps_pending row =
    map (λ (d : Delivery). d.item.stamp) (filter (λ (d : Delivery). not d.item.late) row.pending)

-- the times of a row's timers and the timestamps of what it sent, those that are late left out
abbrev pub row_marks : Contents → List ℕ
row_marks row = times_set row ++ stamps_pending row

-- the watermark that an injector's file states; of another part none
abbrev pub stated_marks : CaseShape → Run → ℕ → List ℕ
stated_marks case run part =
    if is_injector case.topology part then source_mark case run part ∷ [] else []

-- the own work of an interval: the least of the marks of its rows, and of an injector the watermark that its
-- file states
abbrev pub own_work : CaseShape → Run → Bounds → ℕ
own_work case run bounds = least
    (flat_map (λ (r : RowName × Contents). row_marks r.1) (rows_covered bounds run.rows)
    ++ stated_marks case run bounds.part)

-- the own work of a part: the least of that of its intervals
abbrev pub part_work : CaseShape → Run → ℕ → ℕ
part_work case run part = least
    (map (own_work case run) (filter (λ (b : Bounds). b.part == part) (intervals_of case.topology)))

-- the work of a part and of all that feeds it, looking back through at most so many streams
abbrev pub work_under : CaseShape → Run → ℕ → ℕ → ℕ
work_under case run zero part = part_work case run part
work_under case run (suc depth) part =
    least (part_work case run part ∷ map (work_under case run depth) (feeds_of case.topology part))

-- the work of a part and of all that feeds it
abbrev pub work_above : CaseShape → Run → ℕ → ℕ
work_above case run part = work_under case run (parts_of case.topology) part

-- a mark of an interval is safe: no work of the interval, and none above it, is older
pub record IsSafe (case : CaseShape) (run : Run) (bounds : Bounds) (mark : ℕ) : Type 0 where
  pub own : mark ≤ own_work case run bounds
  pub inputs : All (λ (feeding : ℕ). mark ≤ work_above case run feeding)
      (feeds_of case.topology bounds.part)

-- a mark is at most a safe mark of each interval of a part
abbrev pub IsUnderMarks : CaseShape → Run → ℕ → ℕ → Type 0
IsUnderMarks case run part mark = (interval : ℕ) (b : Bounds) →
    slice_get (intervals_of case.topology) interval ≡ Some b → b.part ≡ part →
    (safe : ℕ) × (mark ≤ safe) × IsSafe case run b safe

-- Which intervals feed an interval, and which marks are a part's: Akidau et al., VLDB 2013, section 4.5,
-- where the low watermark of a computation looks at those of the computations that output to it.
-- Own: a part is cut into intervals, and each interval has a mark.
use Rattle.std.specs.Prelude.{ℕ, ◌==◌, if◌then◌else◌, List, [], map, slice_get, Some, None, unwrap_or}
use Rattle.std.specs.Option.{option_map_or}
use Rattle.std.specs.List.{list_any, filter_map, enumerate_from, zip}
use Rattle.key_intervals.specs.declared.bounds.Bounds.{Bounds}
use Rattle.topology.specs.Shapes.{Shape, feeds_of}
use Rattle.run_history.specs.Cases.{intervals_of}

-- the numbers of the intervals of some parts, ascending, where the first interval has number n
abbrev pub numbers_in : List ℕ → ℕ → List Bounds → List ℕ
numbers_in parts n intervals = filter_map
    (λ (p : ℕ × Bounds). if list_any (λ part. part == p.1.part) parts then Some p.0 else None)
    (enumerate_from n intervals)

-- the intervals of the parts that feed an interval's part, by number and ascending
abbrev pub feeding_of : Shape → ℕ → List ℕ
feeding_of shape interval = option_map_or
    (λ (b : Bounds). numbers_in (feeds_of shape b.part) 0 (intervals_of shape))
    (slice_get (intervals_of shape) interval) []

-- the marks of a part's intervals, of a mark for each interval
abbrev pub marks_in : List Bounds → ℕ → List ℕ → List ℕ
marks_in intervals part marks = filter_map
    (λ (p : Bounds × ℕ). if p.0.part == part then Some p.1 else None) (zip intervals marks)

-- the mark of an interval, of a mark for each; 0 of one that is not there
abbrev pub mark_of : List ℕ → ℕ → ℕ
mark_of marks interval = unwrap_or (slice_get marks interval) 0

-- the marks of the intervals that feed an interval
abbrev pub feeding_marks : Shape → ℕ → List ℕ → List ℕ
feeding_marks shape interval marks = map (mark_of marks) (feeding_of shape interval)

-- the marks of a part's intervals, of a mark for each interval of a topology
abbrev pub marks_of : Shape → ℕ → List ℕ → List ℕ
marks_of shape = marks_in (intervals_of shape)

-- What a release and a join make of a seat's arrays. No public clause cites this module.
use Rattle.std.specs.Prelude.{◌≡◌, ◌<◌, ◌≤◌, ℕ, if◌then◌else◌, IfSome, List, Option, length, map, slice_index}
use Rattle.mw_types.specs.declared.entry.Entry.{Entry}
use Rattle.topology.specs.Shapes.{Shape, feeds_of}
use Rattle.run_history.specs.Cases.{intervals_of}
use Rattle.run_history.specs.Watermarks.{least}
use Rattle.watermark.specs.Marks.{feeding_marks, mark_of, numbers_in}
use Rattle.shared_book.specs.Places.{PLACES, is_last}

-- the least of the marks that feed a part, as they were loaded
abbrev pub least_of : Shape → List ℕ → ℕ → ℕ
least_of shape loaded part =
    least (map (mark_of loaded) (numbers_in (feeds_of shape part) 0 (intervals_of shape)))

-- a part is told with the least of the marks that feed it, or none is
abbrev pub IsFed : Shape → List ℕ → Option (ℕ × ℕ) → Type 0
IsFed shape loaded last = IfSome last (λ fed. fed.1 ≡ least_of shape loaded fed.0)

-- the input mark of an interval after a release
abbrev pub input_after : Shape → List Entry → List ℕ → ℕ → ℕ → ℕ → ℕ
input_after shape history loaded interval claim input =
    if is_last interval claim history then least (feeding_marks shape interval loaded) else input

-- so many numbers of a list were set, each to what this makes of its place, and the others are as they were
pub record IsFilledTo (made : ℕ → ℕ) (old : List ℕ) (at : ℕ) (new : List ℕ) : Type 0 where
  pub long : length new ≡ length old
  pub done : (k : ℕ) → k < at → slice_index new k ≡ made k
  pub rest : (k : ℕ) → at ≤ k → slice_index new k ≡ slice_index old k

-- so many input marks are settled
abbrev pub AreSettledTo : Shape → List Entry → List ℕ → List ℕ → List ℕ → ℕ → List ℕ → Type 0
AreSettledTo shape history loaded claims old =
    IsFilledTo (λ (k : ℕ). input_after shape history loaded k (slice_index claims k) (slice_index old k)) old

-- the input marks are settled: where the last claim of an interval is the seat's, its input mark is the least of the
-- marks that feed it
abbrev pub AreSettled : Shape → List Entry → List ℕ → List ℕ → List ℕ → Type 0
AreSettled shape history loaded claims inputs = (k : ℕ) → k < PLACES →
    input_after shape history loaded k (slice_index claims k) (slice_index inputs k) ≡ slice_index inputs k

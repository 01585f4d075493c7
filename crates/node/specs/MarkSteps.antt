-- The steps by which a node finds the least known mark of a part. No public clause cites this module.
use Rattle.std.specs.Prelude.{◌≡◌, ◌<◌, ◌≤◌, ℕ, Bool, List, Some, min, slice_get, if◌then◌else◌}
use Rattle.mw_types.specs.declared.TheConstants.{END}
use Rattle.key_intervals.specs.declared.bounds.Bounds.{Bounds}
use Rattle.watermark.specs.Marks.{mark_of}

-- a mark is the lesser of another and of one that an interval had while its desk looked, if that one counts
pub record IsLesser (counts : Bool) (interval : ℕ) (old new : List ℕ) (before after : ℕ) : Type 0 where
  pub mark : ℕ
  pub at_least : mark_of old interval ≤ mark
  pub at_most : mark ≤ mark_of new interval
  pub lesser : after ≡ (if counts then min before mark else before)

-- of the first intervals of a part a mark is at most what each has now, and at least what bounds each
-- that it had before
pub record IsLeastSoFar (intervals : List Bounds) (part : ℕ) (old new : List ℕ) (mark count : ℕ) :
    Type 0 where
  pub at_most : (j : ℕ) (b : Bounds) → j < count → slice_get intervals j ≡ Some b → b.part ≡ part →
      mark ≤ mark_of new j
  pub at_least : (bound : ℕ) → bound ≤ END → ((j : ℕ) (b : Bounds) → slice_get intervals j ≡ Some b →
      b.part ≡ part → bound ≤ mark_of old j) → bound ≤ mark
  pub end : mark ≤ END

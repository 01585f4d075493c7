-- When intervals may not be split or merged, and why. Own.
use Rattle.std.specs.Prelude.{◌+◌, ◌&&◌, ◌==◌, ℕ, nat_le, nat_lt, not, if◌then◌else◌, Bool, false, List, Option, Some, None, length}
use Rattle.std.specs.Option.{option_map_or}
use Rattle.std.specs.Ordering.{is_eq, is_lt}
use Rattle.mw_types.specs.Orders.{key_cmp}
use Rattle.key_intervals.specs.declared.bounds.Bounds.{Bounds}
use Rattle.key_intervals.specs.declared.given.Given.{Given}
use Rattle.key_intervals.specs.declared.TheConstants.{INTERVALS_MAX}
use Rattle.key_intervals.specs.declared.refusals.SplitRefusal.{SplitRefusal}
use Rattle.key_intervals.specs.declared.refusals.SplitRefusal.TheVariants as splits
use Rattle.key_intervals.specs.declared.refusals.MergeRefusal.{MergeRefusal}
use Rattle.key_intervals.specs.declared.refusals.MergeRefusal.TheVariants as merges
use Rattle.key_intervals.specs.Intervals.{ends_after}
use Rattle.key_intervals.specs.Division.{bounds_at, is_live}

-- an interval is a computation's, and a cut leaves keys on both sides: it is above the first key and below the end
abbrev pub may_cut : ℕ → List ℕ → Bounds → Bool
may_cut injectors cut b = nat_le injectors b.part && is_lt (key_cmp b.from cut) && ends_after b.to cut

-- the same of a number's interval
abbrev pub may_cut_at : ℕ → List Given → ℕ → List ℕ → Bool
may_cut_at injectors given interval cut = option_map_or (may_cut injectors cut) (bounds_at given interval) false

-- an interval ends at a key
abbrev pub ends_at : Option (List ℕ) → List ℕ → Bool
ends_at to key = option_map_or (λ (end : List ℕ). is_eq (key_cmp end key)) to false

-- two intervals are neighbours: of one part, and the first ends where the second begins
abbrev pub meets : Bounds → Bounds → Bool
meets a b = (a.part == b.part) && ends_at a.to b.from

-- the same of two numbers' intervals
abbrev pub meet_at : List Given → ℕ → ℕ → Bool
meet_at given low high = option_map_or
    (λ (a : Bounds). option_map_or (meets a) (bounds_at given high) false) (bounds_at given low) false

-- the first reason, if there is one, for which a split is refused
abbrev pub split_refusal : ℕ → List Given → ℕ → List ℕ → Option SplitRefusal
split_refusal injectors given interval cut =
    if not (is_live given interval) then Some splits.NoInterval
    else if not (may_cut_at injectors given interval cut) then Some splits.BadCut
    else if nat_lt INTERVALS_MAX (length given + 2) then Some splits.NumbersFull
    else None

-- the first reason, if there is one, for which a merge is refused
abbrev pub merge_refusal : List Given → ℕ → ℕ → Option MergeRefusal
merge_refusal given low high =
    if not (is_live given low && is_live given high) then Some merges.NoInterval
    else if not (meet_at given low high) then Some merges.NotNeighbours
    else if nat_lt INTERVALS_MAX (length given + 1) then Some merges.NumbersFull
    else None

-- In which order the live intervals of a part are searched. No public clause cites this module.
use Rattle.std.specs.Prelude.{◌≡◌, ◌<◌, ◌+◌, ◌∷◌, ◌==◌, if◌then◌else◌, [], ℕ, List, Bool, true, false, Some, ⊤, Contains, length, slice_get, slice_index}
use Rattle.std.specs.List.{AllByRecursion, range_with_len}
use Rattle.std.specs.Option.{option_map_or}
use Rattle.std.specs.Ordering.{is_le}
use Rattle.std.specs.declared.cmp.Ordering.TheVariants.{Less}
use Rattle.mw_types.specs.Orders.{key_cmp}
use Rattle.mw_types.specs.declared.key.PartCuts.{PartCuts}
use Rattle.key_intervals.specs.declared.bounds.Bounds.{Bounds}
use Rattle.key_intervals.specs.declared.given.Given.{Given}
use Rattle.key_intervals.specs.Intervals.{part_bounds_of}
use Rattle.key_intervals.specs.Division.{bounds_at, fresh}

-- a number is that of a live interval of the part
abbrev pub IsOfPart : List Given → ℕ → ℕ → Type 0
IsOfPart given part interval = (b : Bounds) × (slice_get given interval ≡ Some (fresh b)) × (b.part ≡ part)

-- the first key of a number's interval
abbrev pub from_of : List Given → ℕ → List ℕ
from_of given interval = option_map_or (λ (b : Bounds). b.from) (bounds_at given interval) []

-- the interval of one number begins before that of another
abbrev pub BeginsBefore : List Given → ℕ → ℕ → Type 0
BeginsBefore given one other = key_cmp (from_of given one) (from_of given other) ≡ Less

-- each of some values stands so to each one after it
abbrev pub AreInOrder : {X : Type 0} → (X → X → Type 0) → List X → Type 0
AreInOrder R [] = ⊤
AreInOrder R (x ∷ xs) = AllByRecursion (R x) xs × AreInOrder R xs

-- these are the numbers of a part's live intervals, in the order of their first keys
pub record IsOrder (given : List Given) (part : ℕ) (numbers : List ℕ) : Type 0 where
  pub of_part : AllByRecursion (IsOfPart given part) numbers
  pub whole : (interval : ℕ) → IsOfPart given part interval → Contains numbers interval
  pub rising : AreInOrder (BeginsBefore given) numbers

-- these are the orders of the parts, and no interval is of another part
pub record AreOrders (given : List Given) (orders : List (List ℕ)) : Type 0 where
  pub there : (interval : ℕ) (g : Given) → slice_get given interval ≡ Some g → g.bounds.part < length orders
  pub each : (part : ℕ) (numbers : List ℕ) → slice_get orders part ≡ Some numbers → IsOrder given part numbers

-- the orders of parts that are not split yet, whose intervals have the numbers from n on
abbrev pub orders_from : ℕ → List PartCuts → List (List ℕ)
orders_from n [] = []
orders_from n (p ∷ ps) =
    range_with_len n (length (part_bounds_of p)) ∷ orders_from (n + length (part_bounds_of p)) ps

-- what stands in the place of a number after a split that gave these two: both in that of the interval that has ended
abbrev pub after_split : ℕ → ℕ → ℕ → List ℕ
after_split ended first interval = if interval == ended then first ∷ (first + 1) ∷ [] else interval ∷ []

-- what stands in the place of a number after a merge that gave this one: it in that of the lower interval
abbrev pub after_merge : ℕ → ℕ → ℕ → ℕ → List ℕ
after_merge low high first interval =
    if interval == low then first ∷ [] else if interval == high then [] else interval ∷ []

-- the interval of a number begins by a key
abbrev pub begins_by_key : List Given → List ℕ → ℕ → Bool
begins_by_key given key interval = is_le (key_cmp (from_of given interval) key)

-- a search among numbers ends at this place: what stands there begins by the key, or is the first, and what stands
-- after it does not
pub record IsLastBegun (given : List Given) (numbers key : List ℕ) (place : ℕ) : Type 0 where
  pub there : place < length numbers
  pub begun : 0 < place → begins_by_key given key (slice_index numbers place) ≡ true
  pub later : place + 1 < length numbers → begins_by_key given key (slice_index numbers (place + 1)) ≡ false

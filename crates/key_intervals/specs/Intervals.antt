-- Which rows each interval of keys has: Akidau et al., VLDB 2013, section 7.1, where each computation is divided
-- into lexicographic intervals of keys. Own: the numbers of the intervals, and where the cuts stand.
use Rattle.std.specs.Prelude.{◌≡◌, ◌≤◌, ◌+◌, ◌++◌, ◌∷◌, ◌&&◌, ◌==◌, [], ℕ, List, Bool, true, Option, Some, None, ⊤, length, filter, slice_get, slice_index_or, IsTrue, IfSome, MatchOption}
use Rattle.std.specs.List.{AllAdjacentBelow}
use Rattle.std.specs.List.Sorted.{IsStrictlySortedBy}
use Rattle.std.specs.Ordering.{is_le, is_lt}
use Rattle.std.specs.declared.cmp.Ordering.TheVariants.{Less}
use Rattle.mw_types.specs.Orders.{key_cmp}
use Rattle.mw_types.specs.declared.identity.RowName.{RowName}
use Rattle.mw_types.specs.declared.key.PartCuts.{PartCuts}
use Rattle.key_intervals.specs.declared.bounds.Bounds.{Bounds}
use Rattle.key_intervals.specs.declared.TheConstants.{INTERVALS_MAX}

-- the keys below the end, or all keys where there is no end
abbrev pub ends_after : Option (List ℕ) → List ℕ → Bool
ends_after None key = true
ends_after (Some end) key = is_lt (key_cmp key end)

-- an interval has the rows of its part whose keys are at least `from`, and below `to` where there is one
abbrev pub covers : Bounds → RowName → Bool
covers b name = (b.part == name.part) && is_le (key_cmp b.from name.key) && ends_after b.to name.key

-- those of some rows that an interval has, in their order
abbrev pub rows_covered : {X : Type 0} → Bounds → List (RowName × X) → List (RowName × X)
rows_covered b rows = filter (λ row. covers b row.0) rows

-- there is an interval with this number, and it has the row
abbrev pub HasRow : List Bounds → ℕ → RowName → Type 0
HasRow all number name = (b : Bounds) × (slice_get all number ≡ Some b) × IsTrue (covers b name)

-- these keys divide all keys into intervals: they ascend strictly, above the empty key
abbrev pub DivideKeys : List (List ℕ) → Type 0
DivideKeys cuts = IsStrictlySortedBy key_cmp ([] ∷ cuts)

-- the parts have the numbers n, n + 1 and so on
abbrev pub AreNumbered : ℕ → List PartCuts → Type 0
AreNumbered n [] = ⊤
AreNumbered n (p ∷ ps) = (p.part ≡ n) × AreNumbered (n + 1) ps

-- the intervals of a part from a key on: each ends where the next begins, and the last has no end
abbrev pub bounds_from : ℕ → List ℕ → List (List ℕ) → List Bounds
bounds_from part from [] = record { part = part; from = from; to = None } ∷ []
bounds_from part from (cut ∷ cuts) = record { part = part; from = from; to = Some cut } ∷ bounds_from part cut cuts

-- the intervals of a part: the first begins with the empty key
abbrev pub part_bounds_of : PartCuts → List Bounds
part_bounds_of p = bounds_from p.part [] p.cuts

-- the intervals of all parts, in order
abbrev pub bounds_of : List PartCuts → List Bounds
bounds_of [] = []
bounds_of (p ∷ ps) = part_bounds_of p ++ bounds_of ps

-- the row at which an interval begins
abbrev pub start_of : Bounds → RowName
start_of b = record { part = b.part; key = b.from }

-- after an interval without an end comes the first of the next part, and after another the one that begins at its end
abbrev pub Meets : Bounds → Bounds → Type 0
Meets b next = MatchOption b.to
    ((next.part ≡ b.part + 1) × (next.from ≡ []))
    (λ end. (next.part ≡ b.part) × (next.from ≡ end) × (key_cmp b.from end ≡ Less))

-- intervals that together have each key of their parts, and none twice
pub record AreIntervals (all : List Bounds) : Type 0 where
  pub first : IfSome (slice_get all 0) (λ (b : Bounds). b.from ≡ [])
  pub next : AllAdjacentBelow Meets all (length all)
  pub last : (k : ℕ) (d : Bounds) → k + 1 ≡ length all → (slice_index_or all k d).to ≡ None
  pub few : length all ≤ INTERVALS_MAX

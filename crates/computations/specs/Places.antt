-- Where a number stands in a list that ascends by it, as a search says it.
-- No public clause cites this module.
use Rattle.std.specs.Prelude.{◌≡◌, ℕ, ◌<◌, ◌≤◌, List, length, slice_index_or}

-- the element at this place has the number, those before it are smaller and those after it greater
pub record IsPlace {X : Type 0} (number : X → ℕ) (xs : List X) (n at : ℕ) : Type 0 where
  pub in_range : at < length xs
  pub before : (j : ℕ) (d : X) → j < at → number (slice_index_or xs j d) < n
  pub here : (d : X) → number (slice_index_or xs at d) ≡ n
  pub after : (j : ℕ) (d : X) → at < j → j < length xs → n < number (slice_index_or xs j d)

-- the elements before this place are smaller than the number, and those from there on greater
pub record IsGap {X : Type 0} (number : X → ℕ) (xs : List X) (n at : ℕ) : Type 0 where
  pub in_range : at ≤ length xs
  pub before : (j : ℕ) (d : X) → j < at → number (slice_index_or xs j d) < n
  pub after : (j : ℕ) (d : X) → at ≤ j → j < length xs → n < number (slice_index_or xs j d)

-- a number that the list may have stands between these places:
-- the elements before the first are smaller, those from the second on greater
pub record IsBetween {X : Type 0} (number : X → ℕ) (xs : List X) (n low high : ℕ) : Type 0 where
  pub ordered : low ≤ high
  pub in_range : high ≤ length xs
  pub before : (j : ℕ) (d : X) → j < low → number (slice_index_or xs j d) < n
  pub after : (j : ℕ) (d : X) → high ≤ j → j < length xs → n < number (slice_index_or xs j d)

-- the elements before this place are smaller than the number, and those from there on are not
pub record IsFirstFrom {X : Type 0} (number : X → ℕ) (xs : List X) (n at : ℕ) : Type 0 where
  pub before : (j : ℕ) (d : X) → j < at → number (slice_index_or xs j d) < n
  pub after : (j : ℕ) (d : X) → at ≤ j → j < length xs → n ≤ number (slice_index_or xs j d)

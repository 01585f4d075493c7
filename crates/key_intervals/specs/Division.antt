-- Which intervals there are while they are split and merged: Akidau et al., VLDB 2013, section 7.1, where the intervals
-- of a computation move from one worker to another. Own: that they are split and merged, and their numbers, each of
-- which is given once, to bounds that stay.
use Rattle.std.specs.Prelude.{◌≡◌, ◌<◌, ◌≤◌, ◌++◌, ◌∷◌, ◌&&◌, ◌==◌, [], ℕ, zero, suc, List, Bool, true, false, Option, Some, length, slice_get}
use Rattle.std.specs.Option.{option_map, option_map_or}
use Rattle.std.specs.List.{position_from}
use Rattle.mw_types.specs.declared.identity.RowName.{RowName}
use Rattle.key_intervals.specs.declared.bounds.Bounds.{Bounds}
use Rattle.key_intervals.specs.declared.given.Given.{Given}
use Rattle.key_intervals.specs.declared.TheConstants.{INTERVALS_MAX}
use Rattle.key_intervals.specs.Intervals.{covers, ends_after}

-- an interval that has just got its number
abbrev pub fresh : Bounds → Given
fresh b = record { bounds = b; live = true }

-- how many parts are divided, how many of them, from the first on, are injectors, and to which intervals numbers were
-- given, by number
pub record Division : Type 0 where
  pub parts : ℕ
  pub injectors : ℕ
  pub given : List Given

-- the bounds to which a number was given
abbrev pub bounds_at : List Given → ℕ → Option Bounds
bounds_at given interval = option_map (λ (g : Given). g.bounds) (slice_get given interval)

-- a number was given, and its interval has not ended
abbrev pub is_live : List Given → ℕ → Bool
is_live given interval = option_map_or (λ (g : Given). g.live) (slice_get given interval) false

-- an interval has not ended, and has the row
abbrev pub has_live : RowName → Given → Bool
has_live name g = g.live && covers g.bounds name

-- the number of the live interval that has a row: none where the row's part is not divided
abbrev pub live_of : List Given → RowName → Option ℕ
live_of given name = position_from (has_live name) 0 given

-- a number is that of a live interval, which has the row
abbrev pub HasLive : List Given → ℕ → RowName → Type 0
HasLive given interval name = (b : Bounds) × (slice_get given interval ≡ Some (fresh b)) × (covers b name ≡ true)

-- a row is within the bounds of a number, whether its interval has ended or not
abbrev pub LiesIn : List Given → ℕ → RowName → Type 0
LiesIn given interval name = (b : Bounds) × (bounds_at given interval ≡ Some b) × (covers b name ≡ true)

-- two intervals are of one part, and neither ends before the other begins: so two that have keys have one in common
abbrev pub overlaps : Bounds → Bounds → Bool
overlaps a b = (a.part == b.part) && ends_after a.to b.from && ends_after b.to a.from

-- the intervals after that of one number has ended
abbrev pub once_ended : ℕ → List Given → List Given
once_ended interval [] = []
once_ended zero (g ∷ gs) = record g { live = false } ∷ gs
once_ended (suc interval) (g ∷ gs) = g ∷ once_ended interval gs

-- what an interval has below a cut
abbrev pub lower_of : List ℕ → Bounds → Bounds
lower_of cut b = record b { to = Some cut }

-- what an interval has from a cut on
abbrev pub upper_of : List ℕ → Bounds → Bounds
upper_of cut b = record b { from = cut }

-- what two neighbours have together
abbrev pub joined : Bounds → Bounds → Bounds
joined low high = record low { to = high.to }

-- the intervals after a split: that of the number has ended, and its lower half and its upper one have the next numbers
abbrev pub once_split : ℕ → List ℕ → List Given → List Given
once_split interval cut given = option_map_or
    (λ (b : Bounds). once_ended interval given ++ fresh (lower_of cut b) ∷ fresh (upper_of cut b) ∷ [])
    (bounds_at given interval) given

-- the intervals after a merge: those of both numbers have ended, and what they had together has the next number
abbrev pub once_merged : ℕ → ℕ → List Given → List Given
once_merged low high given = option_map_or (λ (a : Bounds). option_map_or
    (λ (b : Bounds). once_ended high (once_ended low given) ++ fresh (joined a b) ∷ [])
    (bounds_at given high) given) (bounds_at given low) given

-- the live intervals have each row of so many parts, and none twice, and no interval is without keys
pub record AreDivided (parts : ℕ) (given : List Given) : Type 0 where
  pub each : (name : RowName) → name.part < parts → (interval : ℕ) × HasLive given interval name
  pub once : (name : RowName) (one other : ℕ) → HasLive given one name → HasLive given other name → one ≡ other
  pub rising : (interval : ℕ) (g : Given) → slice_get given interval ≡ Some g → ends_after g.bounds.to g.bounds.from ≡ true
  pub few : length given ≤ INTERVALS_MAX

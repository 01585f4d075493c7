-- Where a search in a list that stands in order ends. No public clause cites this module.
use Rattle.std.specs.Prelude.{◌≡◌, ℕ, List, length, All, take, drop, ◌+◌, ◌<◌, ◌≤◌, Result, MatchResult}
use Rattle.std.specs.List.{HoldsAt}
use Rattle.std.specs.declared.cmp.Ordering.{Ordering}
use Rattle.std.specs.Ordering.{nat_cmp, ordering_then}
use Rattle.mw_types.specs.declared.timer.Timer.{Timer}
use Rattle.mw_types.specs.declared.delivery.Delivery.{Delivery}
use Rattle.mw_types.specs.declared.identity.RecordId.{RecordId}
use Rattle.mw_types.specs.Orders.{id_cmp}
use Rattle.std.specs.declared.cmp.Ordering.TheVariants.{Less, Equal, Greater}

-- the element at the place is the one that is wanted, those before it are below, and those after it above
pub record IsHit {X : Type 0} (rank : X → Ordering) (xs : List X) (at : ℕ) : Type 0 where
  pub within : at < length xs
  pub here : HoldsAt (λ x. rank x ≡ Equal) xs at
  pub before : All (λ x. rank x ≡ Less) (take at xs)
  pub behind : All (λ x. rank x ≡ Greater) (drop (at + 1) xs)

-- the one that is wanted is not there, and the place is between those below it and those above
pub record IsGap {X : Type 0} (rank : X → Ordering) (xs : List X) (at : ℕ) : Type 0 where
  pub within : at ≤ length xs
  pub before : All (λ x. rank x ≡ Less) (take at xs)
  pub behind : All (λ x. rank x ≡ Greater) (drop at xs)

-- a search answers where the element is, or where it would stand
abbrev pub IsHitOrGap : {X : Type 0} → (X → Ordering) → List X → Result ℕ ℕ → Type 0
IsHitOrGap rank xs found = MatchResult found (IsHit rank xs) (IsGap rank xs)

-- how a timer stands to a tag and a time
abbrev pub timer_rank : ℕ → ℕ → Timer → Ordering
timer_rank tag time t = ordering_then (nat_cmp t.time time) (nat_cmp t.tag tag)

-- how an id stands to another
abbrev pub id_rank : RecordId → RecordId → Ordering
id_rank id x = id_cmp x id

-- how a delivery stands to an id
abbrev pub delivery_rank : RecordId → Delivery → Ordering
delivery_rank id d = id_cmp d.id id

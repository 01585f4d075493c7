-- What a seat has settled of its leases, and how two lists of marks become one. Own.
use Rattle.std.specs.Prelude.{◌≡◌, ◌<◌, ℕ, suc, ◌==◌, map, max, nat_lt, if◌then◌else◌, List, [], ◌∷◌, length, slice_get, slice_set, unwrap_or, Bool, false}
use Rattle.std.specs.Option.{option_map_or}
use Rattle.mw_types.specs.declared.entry.Entry.{Entry}
use Rattle.mw_types.specs.declared.entry.Entry.TheVariants.{Claim}
use Rattle.topology.specs.Shapes.{Shape}
use Rattle.run_history.specs.Cases.{intervals_of}
use Rattle.run_history.specs.Fences.{last_claim}
use Rattle.run_history.specs.Watermarks.{least}
use Rattle.watermark.specs.Marks.{mark_of, feeding_marks}
use Rattle.book.specs.Books.{LeaseView}
use Rattle.shared_book.specs.declared.views.Settled.{Settled}
use Rattle.shared_book.specs.declared.views.View.{View}
use Rattle.shared_book.specs.Lists.{IsIn}

-- how many places a list of a seat has: no topology has more intervals
abbrev pub PLACES : ℕ
PLACES = 61

-- no lease: nothing is settled
abbrev pub nothing : Settled
nothing = record { claim = 0; base = 0; input = 0 }

-- what is settled of an interval
abbrev pub place_of : List Settled → ℕ → Settled
place_of places interval = unwrap_or (slice_get places interval) nothing

-- the mark that a lease may be raised to by what feeds it: 0 where the seat has a newer lease of the interval
abbrev pub input_under : View → LeaseView → ℕ
input_under v lease = let place = place_of v.settled lease.interval in
    if place.claim == suc lease.seq then place.input else 0

-- ---- a claim

-- what is settled of a lease that was just claimed under this number: its rows were those before
abbrev pub claimed_now : ℕ → Settled
claimed_now commit = record { claim = suc commit; base = suc commit; input = 0 }

-- what is settled, once an entry of this number was appended
abbrev pub settled_by : Entry → ℕ → List Settled → List Settled
settled_by (Claim worker interval) commit places = slice_set places interval (claimed_now commit)
settled_by _ commit places = places

-- the same, once the first of these was appended
abbrev pub settled_in : List Entry → ℕ → List Settled → List Settled
settled_in [] commit places = places
settled_in (entry ∷ entries) commit places = settled_by entry commit places

-- ---- a release

-- whether the last claim of an interval is 1 less than this
abbrev pub is_last : ℕ → ℕ → List Entry → Bool
is_last interval claim history = option_map_or (λ (seq : ℕ). suc seq == claim) (last_claim interval history) false

-- of one interval what is settled at a release: where the lease is the last of it, all that was seen, and the least
-- of the marks that feed it as they were loaded
abbrev pub place_after : Shape → List Entry → List ℕ → ℕ → Settled → Settled
place_after shape front marks interval place = if is_last interval place.claim front
    then record { claim = place.claim; base = length front; input = least (feeding_marks shape interval marks) }
    else place

-- of each interval from a number on
abbrev pub places_after : Shape → List Entry → List ℕ → ℕ → List Settled → List Settled
places_after shape front marks from [] = []
places_after shape front marks from (place ∷ places) =
    place_after shape front marks from place ∷ places_after shape front marks (suc from) places

-- ---- a join

-- of two leases of one interval the newer
abbrev pub newer : Settled → Settled → Settled
newer one other = if nat_lt one.claim other.claim then other else one

-- of each interval the newer of two leases
abbrev pub newest : List Settled → List Settled → List Settled
newest [] others = others
newest (one ∷ ones) [] = one ∷ ones
newest (one ∷ ones) (other ∷ others) = newer one other ∷ newest ones others

-- of each two numbers the greater
abbrev pub greatest : List ℕ → List ℕ → List ℕ
greatest [] others = others
greatest (one ∷ ones) [] = one ∷ ones
greatest (one ∷ ones) (other ∷ others) = max one other ∷ greatest ones others

-- ---- what a seat keeps of it

-- a view has a place for each interval
pub record HasAllPlaces (v : View) : Type 0 where
  pub marks : length v.marks ≡ PLACES
  pub settled : length v.settled ≡ PLACES

-- each lease is of an interval that is there, and has a place
abbrev pub AreThere : Shape → List LeaseView → Type 0
AreThere shape leases = (lease : LeaseView) → IsIn lease leases →
    (lease.interval < PLACES) × (lease.interval < length (intervals_of shape))

-- the claims of what is settled, by the intervals' numbers
abbrev pub claims_of : View → List ℕ
claims_of v = map (λ (p : Settled). p.claim) v.settled

-- the input marks of what is settled
abbrev pub inputs_of : View → List ℕ
inputs_of v = map (λ (p : Settled). p.input) v.settled

-- ---- a load

-- the view of a seat that loaded a mark
abbrev pub with_mark_loaded : View → ℕ → ℕ → View
with_mark_loaded v interval mark = record v {
  marks = slice_set v.marks interval mark;
  loads = slice_set v.loads interval (suc (mark_of v.loads interval));
}

-- the view of a seat that loaded the floor
abbrev pub with_floor_loaded : View → ℕ → View
with_floor_loaded v floor = record v { floor = floor; floor_loads = suc v.floor_loads }

-- What each atomic step does to the view of the seat that makes it. A step is told the table's word that it
-- found, and the seat's view before and after, each with the places that the seat holds. Own. A step reads
-- the book where the seat holds its place: so an entry is appended, and a fault noted, while the longer
-- history, or the higher count, already lies there.
use Rattle.std.specs.Prelude.{◌≡◌, ℕ, suc, ◌==◌, List, [], ◌∷◌, ◌++◌, true, false, IfSome, Some, None, length, drop, take, false, MatchBool, ◌<◌, ◌≤◌, ◌^◌}
use Rattle.atomic_table.specs.Table.{Me, Step}
use Rattle.mw_types.specs.declared.entry.Entry.{Entry}
use Rattle.mw_types.specs.declared.entry.Entry.TheVariants.{Claim}
use Rattle.run_history.specs.Legal.{IsLegal, floor_of}
use Rattle.run_history.specs.Runs.{run_of}
use Rattle.run_history.specs.Fences.{Begins, IsCurrent, IsFenced, sequencer_of}
use Rattle.book.specs.Books.{CoreView, LeaseView}
use Rattle.book.specs.Marks.{AreSafe}
use Rattle.shared_book.specs.declared.views.Settled.{Settled}
use Rattle.shared_book.specs.declared.views.View.{View}
use Rattle.shared_book.specs.Lists.{Ascends, IsIn}
use Rattle.shared_book.specs.Places.{place_of, places_after, settled_in}
use Rattle.shared_book.specs.FenceLaw.{Slot, CarriesBelow, IsCore, AreClaimed, HasSeenOwn, HasWrittenAll, sequencers}

-- a seat, as a step sees it: its view, and the places that it holds with what they hold
abbrev pub SeatView : Type 0
SeatView = Me Slot View

-- the step is on this word, with this operand and no second one. A step does not tell by which operation it
-- was made: the fence law says of each word what it may become
abbrev pub IsStep : Step Slot → ℕ → ℕ → Type 0
IsStep step word operand = (step.word ≡ word) × (step.first ≡ operand) × (step.second ≡ 0)

-- ---- the turn is taken, or another has it

-- the view of a seat that took the turn and found this book
abbrev pub holding : View → CoreView → View
holding v core = record v { turn = true; count = core.faults; front = core.history }

-- the view of a seat that found this word, since another had the turn
abbrev pub missing : View → ℕ → View
missing v found = record v { missed = v.missed ++ found ∷ [] }

-- what a seat learns of the book that it found, by what its view was
pub record HasFound (v : View) (book : CoreView) : Type 0 where
  pub begins : Begins v.front book.history
  pub claimed : AreClaimed v.front v.leases
  pub seen_own : HasSeenOwn book.history v
  pub core : IsCore v.basis book.history book.faults book
  -- the marks that the seat had loaded, whenever that was, are safe where told, and its floor is at most the history's
  pub marks : IfSome v.basis.told (λ _. AreSafe v.basis.case (run_of v.basis.case.topology book.history) v.marks)
  pub floor : v.floor ≤ floor_of (run_of v.basis.case.topology book.history)

-- the step of a try for the turn: word 1 goes from 0 to 1 more than the least number of the seat
pub record IsTry (step : Step Slot) (v : View) : Type 0 where
  pub word : step.word ≡ 1
  pub from : step.first ≡ 0
  pub least : ℕ
  pub others : List ℕ
  pub numbers : v.numbers ≡ least ∷ others
  pub to : step.second ≡ suc least

-- what a try that found this word tells: at 0 the seat has the turn, and the book with it; else it notes the
-- word
abbrev pub IsTold : SeatView → ℕ → SeatView → Type 0
IsTold seat found after = MatchBool (found == 0)
    ((core : CoreView) × (after ≡ (holding seat.0 core, (0, Some core) ∷ seat.1)) × HasFound seat.0 core)
    (after ≡ (missing seat.0 found, seat.1))

-- a seat tries for the turn
abbrev pub Takes : Step Slot → SeatView → ℕ → SeatView → Type 0
Takes step seat found after = IsTry step seat.0 × IsTold seat found after

-- ---- an entry is appended

-- the history of the book in the place that the seat holds
abbrev pub history_in : List (ℕ × Slot) → List Entry
history_in [] = []
history_in ((at, None) ∷ places) = []
history_in ((at, Some core) ∷ places) = core.history

-- the lease that the first of these entries gives, where it is a claim, under this commit number
abbrev pub lease_in : List Entry → ℕ → List LeaseView
lease_in [] commit = []
lease_in (Claim worker interval ∷ entries) commit = record { interval = interval; seq = commit } ∷ []
lease_in (entry ∷ entries) commit = []

-- the view of a seat that appended an entry, so that this is the history: the entry is its own, and a claim
-- a lease, under which nothing may be raised yet
abbrev pub grown : View → List Entry → View
grown v history = record v {
  front = history;
  own = v.own ++ length v.front ∷ [];
  leases = v.leases ++ lease_in (drop (length v.front) history) (length v.front);
  settled = settled_in (drop (length v.front) history) (length v.front) v.settled;
}

-- the seat with the turn appends the entry that the book in its place has more: 1 is added to word 0
abbrev pub Appends : Step Slot → SeatView → ℕ → SeatView → Type 0
Appends step seat found after = IsStep step 0 1 × (found ≡ length seat.0.front)
    × (after ≡ (grown seat.0 (history_in seat.1), seat.1))

-- an entry may be appended by a seat: where it carries a sequencer, that is one of the seat's leases
abbrev pub IsOwnEntry : View → Entry → Type 0
IsOwnEntry v entry = (seq : ℕ) → sequencer_of entry ≡ Some seq → IsIn seq (sequencers v.leases)

-- a history has one entry more than the seat has seen, which the seat may append
abbrev pub IsNext : View → List Entry → Type 0
IsNext v history = (entry : Entry) × (history ≡ v.front ++ entry ∷ []) × IsOwnEntry v entry

-- ---- the turn is given back

-- the view of a seat that gave the turn back: each lease that is the last of its interval is settled
abbrev pub idle : View → View
idle v = record v {
  turn = false;
  count = 0;
  settled = places_after v.basis.case.topology v.front v.marks 0 v.settled;
}

-- the seat gives the turn back, and the book with it: word 1 becomes 0
abbrev pub GivesBack : Step Slot → SeatView → ℕ → SeatView → Type 0
GivesBack step seat found after = IsStep step 1 0 × (after ≡ (idle seat.0, []))

-- ---- a fault is noted

-- how often the keeper of the book has failed, in the place that the seat holds
abbrev pub faults_in : List (ℕ × Slot) → ℕ
faults_in [] = 0
faults_in ((at, None) ∷ places) = 0
faults_in ((at, Some core) ∷ places) = core.faults

-- the view of a seat that saw the keeper fail, so that this is its count
abbrev pub faulted : View → ℕ → View
faulted v count = record v { faults = suc v.faults; count = count }

-- the seat with the turn notes that the keeper failed, at a load of word 0
abbrev pub Faults : Step Slot → SeatView → ℕ → SeatView → Type 0
Faults step seat found after = IsStep step 0 0 × (after ≡ (faulted seat.0 (faults_in seat.1), seat.1))

-- ---- a look, which changes nothing

-- what a seat has seen is the beginning of a lawful history, with the claims of its leases; and its numbers
-- ascend
pub record HasSeenLawful (v : View) : Type 0 where
  pub fenced : IsFenced v.basis.case.topology v.front
  pub legal : IfSome v.basis.told (λ _. IsLegal v.basis.case v.front)
  pub few : length v.front ≤ v.basis.limit
  pub limit : v.basis.limit ≤ 2 ^ 32
  pub claimed : AreClaimed v.front v.leases
  pub ascend : Ascends v.numbers
  -- and the floor that it loaded is not above the greatest of a history
  pub floor : v.floor ≤ 2 ^ 32

-- a seat has seen what it appended, and of what it has seen each entry under one of its leases is its own
pub record HasSeenWritten (v : View) : Type 0 where
  pub own : (commit : ℕ) → IsIn commit v.own → commit < length v.front
  pub written : HasWrittenAll v.front v

-- what is settled of one interval is by what was seen: its lease was the last of the interval then, and nothing of
-- what was seen since was written under it
pub record IsSettledSeen (v : View) (interval : ℕ) (place : Settled) : Type 0 where
  pub within : place.base ≤ length v.front
  pub last : (seq : ℕ) → place.claim ≡ suc seq → IsCurrent interval seq (take place.base v.front)
  pub quiet : (seq : ℕ) → place.claim ≡ suc seq → CarriesBelow v.front seq place.base

-- and so of each interval
abbrev pub HasSeenSettled : View → Type 0
HasSeenSettled v = (interval : ℕ) → IsSettledSeen v interval (place_of v.settled interval)

-- a seat looks, by a load of word 0, and learns what it has seen, and that what it took in was of its own
-- book
abbrev pub Looks : Step Slot → SeatView → ℕ → SeatView → Type 0
Looks step seat found after = IsStep step 0 0 × (after ≡ seat) × HasSeenLawful seat.0
    × Begins seat.0.met seat.0.front × HasSeenWritten seat.0 × (seat.0.met_basis ≡ seat.0.basis)
    × (seat.0.turn ≡ false → HasSeenSettled seat.0)

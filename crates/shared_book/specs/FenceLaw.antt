-- What holds between any two atomic steps of threads that share a book, over the table's words, the book's
-- place in it, and what each seat knows. Akidau et al., VLDB 2013, section 6.2, where a sequencer is
-- checked at each write, so that a former owner's write is refused. Own: threads that share one history,
-- the turn, and what each seat has seen of it.
use Rattle.std.specs.Prelude.{◌≡◌, ◌⊎◌, ℕ, suc, ◌<◌, ◌≤◌, ◌^◌, List, [], ◌∷◌, true, false, Option, Some, IfSome, length, slice_get}
use mathlib.Core.Option.{some, none}
use lib.ListN.{get_elem?}
use Rattle.atomic_table.specs.Table.{State}
use Rattle.mw_types.specs.Causes.{Rose}
use Rattle.mw_types.specs.declared.entry.Entry.{Entry}
use Rattle.run_history.specs.Legal.{IsLegal}
use Rattle.run_history.specs.Fences.{Begins, IsClaimed, IsCurrent, IsFenced, sequencer_of}
use Rattle.book.specs.Books.{CoreView, LeaseView}
use Rattle.book.specs.Lawful.{IsLawful}
use Rattle.book.specs.OwnDesks.{telling}
use Rattle.shared_book.specs.declared.views.Basis.{Basis}
use Rattle.shared_book.specs.declared.views.Settled.{Settled}
use Rattle.shared_book.specs.declared.views.View.{View}
use Rattle.shared_book.specs.Joins.{spent}
use Rattle.shared_book.specs.MarksLaw.{MarksLaw}
use Rattle.shared_book.specs.Places.{PLACES, place_of}
use Rattle.shared_book.specs.Lists.{IsIn, Ascends, AreDistinct, Somewhere, Everywhere, Pairwise}

-- ---- the words and the place

-- what the table's one place holds: a book but for its case, or nothing
abbrev pub Slot : Type 0
Slot = Option CoreView

-- a book but for its case is that of a history: it is lawful, its limit and whether it tells are those of
-- the start, and its keeper has failed at least so often
pub record IsCore (basis : Basis) (history : List Entry) (count : ℕ) (core : CoreView) : Type 0 where
  pub whole : core.history ≡ history
  pub enough : count ≤ core.faults
  pub lawful : IsLawful basis.case core
  pub limit : core.limit ≡ basis.limit
  pub told : telling core.rows ≡ basis.told

-- the book of a history is at home
abbrev pub IsHome : Basis → List Entry → ℕ → List (mathlib.Core.Option.Option Slot) → Type 0
IsHome basis history count homes =
    (core : CoreView) × (get_elem? homes 0 ≡ some (some (Some core))) × IsCore basis history count core

-- ---- what one seat knows

-- the sequencers of leases
abbrev pub sequencers : List LeaseView → List ℕ
sequencers [] = []
sequencers (lease ∷ leases) = lease.seq ∷ sequencers leases

-- the claim of each lease stands in what was seen
abbrev pub AreClaimed : List Entry → List LeaseView → Type 0
AreClaimed front leases = (lease : LeaseView) → IsIn lease leases → IsClaimed lease.interval lease.seq front

-- each entry of a history that carries a sequencer is among the first so many
abbrev pub CarriesBelow : List Entry → ℕ → ℕ → Type 0
CarriesBelow history seq number = (at : ℕ) (entry : Entry) → slice_get history at ≡ Some entry →
    sequencer_of entry ≡ Some seq → at < number

-- each entry that carries the sequencer of a seat's lease is in what the seat has seen
abbrev pub HasSeenOwn : List Entry → View → Type 0
HasSeenOwn history v = (seq : ℕ) → IsIn seq (sequencers v.leases) → CarriesBelow history seq (length v.front)

-- each entry that carries the sequencer of a lease of the seat is the seat's own
abbrev pub HasWrittenAll : List Entry → View → Type 0
HasWrittenAll history v = (seq : ℕ) → IsIn seq (sequencers v.leases) → (at : ℕ) (entry : Entry) →
    slice_get history at ≡ Some entry → sequencer_of entry ≡ Some seq → IsIn at v.own

-- what is settled of an interval is of a lease of the seat, and nothing was written under that since; but for
-- what the seat with the turn appended, whose lease is then the last of the interval
pub record IsQuietPlace (history : List Entry) (v : View) (interval : ℕ) (place : Settled) : Type 0 where
  pub held : (seq : ℕ) → place.claim ≡ suc seq → IsIn (record { interval = interval; seq = seq }) v.leases
  pub quiet : (seq : ℕ) → place.claim ≡ suc seq →
      CarriesBelow history seq place.base ⊎ ((v.turn ≡ true) × IsCurrent interval seq history)

-- and so of each interval
abbrev pub IsQuiet : List Entry → View → Type 0
IsQuiet history v = (interval : ℕ) → IsQuietPlace history v interval (place_of v.settled interval)

-- the seat that has the turn: the word is 1 more than its least number, it has seen all, and it has the
-- count
abbrev pub HoldsTurn : List Entry → ℕ → ℕ → View → Type 0
HoldsTurn history turn count v = (least : ℕ) × (others : List ℕ) × (v.numbers ≡ least ∷ others)
    × (turn ≡ suc least) × (v.front ≡ history) × (v.count ≡ count)

-- a view without a number can only look
abbrev pub OnlyLooks : View → Type 0
OnlyLooks v = (v.turn ≡ false) × (v.leases ≡ []) × (v.own ≡ [])

-- one view, under a history, the turn's word and the count
pub record Fits (basis : Basis) (history : List Entry) (turn count : ℕ) (v : View) : Type 0 where
  -- all seats of the book have the same constants
  pub same : v.live ≡ true → v.basis ≡ basis
  -- a view that is not live is that of a seat that was taken in: not the blank one, from which all begin
  pub gone : v.live ≡ false → v ≡ spent
  -- what was seen is a beginning of the history, and not less than what the book began with: else one who
  -- closes it could lack what was there at the start
  pub begins : Begins v.front history
  pub reaches : v.live ≡ true → basis.begin ≤ length v.front
  -- what another had seen that was taken in was seen: two views alone do not show which of them has seen
  -- more
  pub met : Begins v.met v.front
  -- and that was of the same book
  pub met_same : v.live ≡ true → v.met_basis ≡ basis
  pub holds : v.turn ≡ true → HoldsTurn history turn count v
  -- leases: each was claimed in what was seen, none stands twice, and all that was written under it was
  -- seen
  pub claimed : AreClaimed v.front v.leases
  pub once : AreDistinct (sequencers v.leases)
  pub seen_own : HasSeenOwn history v
  -- and it alone wrote that
  pub written : HasWrittenAll history v
  -- own entries came after the start, were seen, and stand in order
  pub own : (commit : ℕ) → IsIn commit v.own → (basis.begin ≤ commit) × (commit < length v.front)
  pub own_ascend : Ascends v.own
  -- no number is above those of callers' seats, and they stand in order: so one who has all has every entry
  pub numbers : (n : ℕ) → IsIn n v.numbers → n < basis.seats
  pub numbers_ascend : Ascends v.numbers
  pub only_looks : v.numbers ≡ [] → OnlyLooks v
  -- a seat that saw the keeper fail saw its count rise
  pub failed : 0 < v.faults → Rose basis.count count

-- no two views share the turn, a sequencer, an own entry or a number
pub record AreApart (v w : View) : Type 0 where
  pub turn : v.turn ≡ true → w.turn ≡ true → ⊥
  pub leases : (seq : ℕ) → IsIn seq (sequencers v.leases) → IsIn seq (sequencers w.leases) → ⊥
  pub own : (commit : ℕ) → IsIn commit v.own → IsIn commit w.own → ⊥
  pub numbers : (n : ℕ) → IsIn n v.numbers → IsIn n w.numbers → ⊥

-- ---- the law

-- the fence law, of one history under one turn, and beside it the law of marks
pub record FenceLaw (basis : Basis) (s : State Slot View) : Type 0 where
  pub history : List Entry
  pub turn : ℕ
  pub count : ℕ
  pub floor : ℕ
  pub marks : List ℕ
  -- word 0 is the history's length, word 1 the turn, word 2 the floor, and each other a mark
  pub words : s.words ≡ length history ∷ turn ∷ floor ∷ marks
  pub places : length marks ≡ PLACES
  -- where word 1 is not 0 a seat has the turn: else nobody could tell that the book is at home
  pub holder : 0 < turn → Somewhere s.views (λ v. v.turn ≡ true)
  -- where word 1 is 0 the book is at home, with this history; else its place is empty
  pub home : turn ≡ 0 → IsHome basis history count s.homes
  pub out : 0 < turn → get_elem? s.homes 0 ≡ some none
  -- the history is fenced, legal where a contract can see the rows, and not shorter than at the start
  pub fenced : IsFenced basis.case.topology history
  pub legal : IfSome basis.told (λ _. IsLegal basis.case history)
  pub few : length history ≤ basis.limit
  pub limit : basis.limit ≤ 2 ^ 32
  pub started : basis.begin ≤ length history
  -- the keeper's count that is known is not below that of the start
  pub counted : basis.count ≤ count
  -- each view by itself, and each two of them
  pub views : Everywhere s.views (Fits basis history turn count)
  pub apart : Pairwise s.views AreApart
  -- each entry since the start is some seat's own, and each number of a caller's seat is some seat's
  pub owned : (commit : ℕ) → basis.begin ≤ commit → commit < length history →
      Somewhere s.views (λ v. IsIn commit v.own)
  pub numbered : (n : ℕ) → n < basis.seats → Somewhere s.views (λ v. IsIn n v.numbers)
  -- the floor and the marks, whoever raised them
  pub law : MarksLaw basis history floor marks s.views
  -- and what is settled of a lease is still all that was written under it
  pub quiet : Everywhere s.views (IsQuiet history)

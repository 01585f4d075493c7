-- What a worker knows of a history through its desk, and what the calls of a desk do to that.
-- Akidau et al., VLDB 2013, section 6.2 for sequencers and section 4.5 for marks. Own: a desk, which has
-- seen a beginning of the history, and of which no other may append under its leases.
use Rattle.std.specs.Prelude.{◌≡◌, ◌≤◌, ◌^◌, ◌++◌, ◌∷◌, [], ℕ, suc, Bool, true, false, List, Option, IsSome, IfSome, drop, length}
use Rattle.mw_types.specs.declared.entry.Entry.{Entry}
use Rattle.run_history.specs.Cases.{CaseShape, intervals_of}
use Rattle.run_history.specs.Runs.{run_of}
use Rattle.run_history.specs.Legal.{IsLegal, floor_of}
use Rattle.run_history.specs.Fences.{Begins, CarryNot, IsClaimed, IsFenced}
use Rattle.run_history.specs.Inputs.{IsRunnable}
use Rattle.watermark.specs.Marks.{mark_of}
use Rattle.book.specs.Books.{LeaseView}

-- the commit numbers of these entries, the first of which has this one
abbrev pub numbers_from : ℕ → List Entry → List ℕ
numbers_from at [] = []
numbers_from at (entry ∷ entries) = at ∷ numbers_from (suc at) entries

-- what a desk knows: its book's case, how many entries there may be, what it has seen of the history, the
-- commit numbers of what it appended, whether a contract can see the keeper's rows, which leases it may use,
-- a mark for each interval, a floor, what it found in turns that others had taken, how often the keeper
-- failed, and whether it is alone
pub record DeskView : Type 0 where
  pub case : CaseShape
  pub limit : ℕ
  pub seen : List Entry
  pub own : List ℕ
  pub told : Option Unit
  pub leases : LeaseView → Bool
  pub marks : List ℕ
  pub floor : ℕ
  pub missed : List ℕ
  pub faults : ℕ
  pub alone : Bool

-- where a desk stands among those of its book: the numbers that name the book, and those of the desk's own
-- seats
pub record Home : Type 0 where
  pub book : List ℕ
  pub seats : List ℕ

-- what a note tells: a case, and what was seen of a history of it
pub record Sight : Type 0 where
  pub case : CaseShape
  pub seen : List Entry

-- what always holds of a desk: its case is runnable; what it has seen is fenced, no longer than the limit,
-- and legal where told; each interval has a mark, and the floor is at most 2^32
pub record IsSound (desk : DeskView) : Type 0 where
  pub runnable : IsRunnable desk.case
  pub limit : desk.limit ≤ 2 ^ 32
  pub few : length desk.seen ≤ desk.limit
  pub fenced : IsFenced desk.case.topology desk.seen
  pub legal : IfSome desk.told (λ _. IsLegal desk.case desk.seen)
  -- it has seen the claim of each lease that it may use
  pub claimed : (lease : LeaseView) → desk.leases lease ≡ true → IsClaimed lease.interval lease.seq desk.seen
  pub marks : length desk.marks ≡ length (intervals_of desk.case.topology)
  pub floor : desk.floor ≤ 2 ^ 32
  -- the floor of a desk that is alone is that of what it has seen
  pub own_floor : desk.alone ≡ true → desk.floor ≡ floor_of (run_of desk.case.topology desk.seen)

-- a call came to see so much, but for its own entry. What others appended carries no sequencer of a lease
-- that the desk could use before, and a desk that is alone sees none of it. Its own entry is what it has seen
-- beyond so much. Those leases may still be used, neither floor nor faults fall, and all else but marks and
-- `missed` stays
pub record HasMoved (old new : DeskView) (before : List Entry) : Type 0 where
  pub case : new.case ≡ old.case
  pub limit : new.limit ≡ old.limit
  pub told : new.told ≡ old.told
  pub alone : new.alone ≡ old.alone
  pub others : List Entry
  pub more : before ≡ old.seen ++ others
  pub foreign : (lease : LeaseView) → old.leases lease ≡ true → CarryNot lease.seq others
  pub none : old.alone ≡ true → others ≡ []
  pub own : new.own ≡ old.own ++ numbers_from (length before) (drop (length before) new.seen)
  pub leases : (lease : LeaseView) → old.leases lease ≡ true → new.leases lease ≡ true
  pub floor : old.floor ≤ new.floor
  pub faults : old.faults ≤ new.faults

-- a call came to its end without an entry of its own
abbrev pub HasLooked : DeskView → DeskView → Type 0
HasLooked old new = HasMoved old new new.seen

-- no known mark falls, and none of a desk that is alone changes
pub record KeepsMarks (old new : DeskView) : Type 0 where
  pub rise : (interval : ℕ) → mark_of old.marks interval ≤ mark_of new.marks interval
  pub same : old.alone ≡ true → new.marks ≡ old.marks

-- a desk has come to see what a note of its own book tells
abbrev pub HasMet : Option Sight → DeskView → Type 0
HasMet sight desk = IfSome sight (λ told. (told.case ≡ desk.case) × Begins told.seen desk.seen)

-- a note tells what a desk has seen, where it tells anything; it tells nothing where a contract cannot see
-- the keeper's rows
abbrev pub IsNoteOf : DeskView → Option Sight → Type 0
IsNoteOf desk sight = IfSome sight (λ told.
    (told.case ≡ desk.case) × (told.seen ≡ desk.seen) × IsSome desk.told)

-- a note of a desk's own book tells, where a contract can see the keeper's rows, unless the desk is alone
abbrev pub TellsUnlessAlone : DeskView → Option Sight → Type 0
TellsUnlessAlone desk sight = desk.alone ≡ false → IsSome desk.told → IsSome sight

-- The rule of the table, and how it begins: the table is made empty, its first seat takes the place, and
-- gives it back with the book. Own. The constants of the law stand in views: a step cannot read what the
-- table was told when it was made.
use Rattle.std.specs.Prelude.{◌≡◌, ◌⊎◌, ◌≤◌, ℕ, zero, suc, List, [], ◌∷◌, Bool, true, false, IfSome, None, Some, length}
use mathlib.Core.Option.{some}
use lib.ListN.{get_elem?}
use Rattle.atomic_table.specs.Table.{State, Step}
use Rattle.run_history.specs.Cases.{CaseShape}
use Rattle.run_history.specs.Legal.{floor_of}
use Rattle.run_history.specs.Runs.{run_of}
use Rattle.book.specs.Books.{CoreView}
use Rattle.book.specs.Marks.{AreSafe}
use Rattle.book.specs.OwnDesks.{telling}
use Rattle.shared_book.specs.declared.views.Basis.{Basis}
use Rattle.shared_book.specs.declared.views.View.{View}
use Rattle.shared_book.specs.declared.shared.Key.{Key}
use Rattle.shared_book.specs.FenceLaw.{Slot, FenceLaw}
use Rattle.shared_book.specs.Places.{PLACES}
use Rattle.shared_book.specs.Steps.{SeatView}
use Rattle.shared_book.specs.Joins.{spent, unmarked, unsettled}

-- the view of the first seat before the book is in the table, and whether the seat holds the place
abbrev pub blank : CaseShape → ℕ → Bool → View
blank case seats out = record spent {
  basis = record { case = case; limit = 0; seats = seats; begin = 0; count = 0; told = None };
  numbers = 0 ∷ [];
  turn = out;
}

-- so many numbers from one on
abbrev pub span : ℕ → ℕ → List ℕ
span from zero = []
span from (suc count) = from ∷ span (suc from) count

-- what no step changes, once this book is in the table
abbrev pub basis_of : View → CoreView → Basis
basis_of v core = record {
  case = v.basis.case;
  limit = core.limit;
  seats = v.basis.seats;
  begin = length core.history;
  count = core.faults;
  told = telling core.rows;
}

-- the view of the first seat once this book is in the table: all numbers, and the whole history
abbrev pub newborn : View → CoreView → View
newborn v core = record spent {
  live = true;
  basis = basis_of v core;
  numbers = span 0 v.basis.seats;
  front = core.history;
  met_basis = basis_of v core;
  settled = unsettled;
  marks = unmarked;
  loads = unmarked;
}

-- the floor and the marks that a table is told are right for a book: the floor is at most that of its history,
-- and where a contract can see the keeper's rows each mark is safe
pub record AreRight (case : CaseShape) (floor : ℕ) (marks : List ℕ) (core : CoreView) : Type 0 where
  pub places : length marks ≡ PLACES
  pub under_floor : floor ≤ floor_of (run_of case.topology core.history)
  pub safe : IfSome (telling core.rows) (λ _. AreSafe case (run_of case.topology core.history) marks)

-- no book is in the table yet: there is one seat, and nothing in the place; the floor and the marks are those
-- with which the book will come
pub record IsUnborn (key : Key) (s : State Slot View) : Type 0 where
  pub words : (word : ℕ) × (s.words ≡ word ∷ 0 ∷ key.floor ∷ key.marks)
  pub out : Bool
  pub views : s.views ≡ blank key.case.now key.seats out ∷ []
  pub home : out ≡ false → get_elem? s.homes 0 ≡ some (some None)

-- the rule of the table: the fence law, once the book is there
abbrev pub SharedLaw : Key → State Slot View → Type 0
SharedLaw key s = IsUnborn key s ⊎ ((basis : _) × FenceLaw basis s)

-- the first seat takes the place, with nothing in it
abbrev pub Fetches : Step Slot → SeatView → ℕ → SeatView → Type 0
Fetches step seat found after = after ≡ (record seat.0 { turn = true }, (0, None) ∷ [])

-- the book in the place that a seat holds, or else this one
abbrev pub core_or : List (ℕ × Slot) → CoreView → CoreView
core_or [] d = d
core_or ((at, None) ∷ places) d = d
core_or ((at, Some core) ∷ places) d = core

-- a book without anything
abbrev pub no_core : CoreView
no_core = record {
  history = [];
  limit = 0;
  rows = None;
  faults = 0;
  work = 0;
  unacknowledged = [];
  marks = [];
}

-- the first seat gives the place back with the book in it
abbrev pub Opens : Step Slot → SeatView → ℕ → SeatView → Type 0
Opens step seat found after = after ≡ (newborn seat.0 (core_or seat.1 no_core), [])

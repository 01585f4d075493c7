-- What a split and a join make of views. Own.
use Rattle.std.specs.Prelude.{ℕ, ◌+◌, ◌-◌, List, [], ◌∷◌, ◌++◌, false, None, length, drop, max, nat_le, replicate, if◌then◌else◌}
use Rattle.mw_types.specs.declared.entry.Entry.{Entry}
use Rattle.run_history.specs.Cases.{CaseShape}
use Rattle.shared_book.specs.declared.views.Basis.{Basis}
use Rattle.shared_book.specs.declared.views.Settled.{Settled}
use Rattle.shared_book.specs.declared.views.View.{View}
use Rattle.shared_book.specs.Places.{PLACES, greatest, newest, nothing}

-- ---- a note, and a seat of its own

-- the view of a note of a seat: what the seat has seen, and nothing else
abbrev pub note_of : View → View
note_of v = record {
  live = v.live;
  basis = v.basis;
  numbers = [];
  turn = false;
  count = 0;
  front = v.front;
  met = [];
  met_basis = v.basis;
  own = [];
  missed = [];
  faults = 0;
  leases = [];
  settled = [];
  marks = [];
  loads = [];
  floor = 0;
  floor_loads = 0;
}

-- the first number, where there is one
abbrev pub first_of : List ℕ → List ℕ
first_of [] = []
first_of (n ∷ ns) = n ∷ []

-- all numbers but the first
abbrev pub others_of : List ℕ → List ℕ
others_of [] = []
others_of (n ∷ ns) = ns

-- the view of a seat that gave its first number to a new one
abbrev pub stays : View → View
stays v = record v { numbers = others_of v.numbers }

-- a mark of 0 in each place
abbrev pub unmarked : List ℕ
unmarked = replicate PLACES 0

-- nothing in each place
abbrev pub unsettled : List Settled
unsettled = replicate PLACES nothing

-- the view of the new seat: the number, and what was seen
abbrev pub leaves : View → View
leaves v = record (note_of v) {
  numbers = first_of v.numbers;
  settled = unsettled;
  marks = unmarked;
  loads = unmarked;
}

-- ---- one view of two

-- a number at its place in an ascending list
abbrev pub placed : ℕ → List ℕ → List ℕ
placed x [] = x ∷ []
placed x (y ∷ ys) = if nat_le x y then x ∷ y ∷ ys else y ∷ placed x ys

-- two ascending lists as one
abbrev pub merged : List ℕ → List ℕ → List ℕ
merged xs [] = xs
merged xs (y ∷ ys) = placed y (merged xs ys)

-- the longer of two beginnings of one history
abbrev pub longer : List Entry → List Entry → List Entry
longer one other = one ++ drop (length one) other

-- the view of a seat that took in another: what either has seen, the numbers, own entries and leases of
-- both, what it missed itself, and the greater count of faults; of each interval the newer lease, and of each
-- word the greater value that was loaded and the greater number of loads
abbrev pub joined : View → View → View
joined v w = record v {
  numbers = merged v.numbers w.numbers;
  front = longer v.front w.front;
  met = w.front;
  met_basis = w.basis;
  own = merged v.own w.own;
  faults = v.faults + (w.faults - v.faults);
  leases = v.leases ++ w.leases;
  settled = newest v.settled w.settled;
  marks = greatest v.marks w.marks;
  loads = greatest v.loads w.loads;
  floor = max v.floor w.floor;
  floor_loads = max v.floor_loads w.floor_loads;
}

-- a case of nothing, in the view of a seat that is spent
abbrev pub no_case : CaseShape
no_case = record { topology = record { injectors = []; computations = [] }; sources = [] }

-- what no step changes, in a view that is spent
abbrev pub no_basis : Basis
no_basis = record { case = no_case; limit = 0; seats = 0; begin = 0; count = 0; told = None }

-- the view of a seat that another took in
abbrev pub spent : View
spent = record {
  live = false;
  basis = no_basis;
  numbers = [];
  turn = false;
  count = 0;
  front = [];
  met = [];
  met_basis = no_basis;
  own = [];
  missed = [];
  faults = 0;
  leases = [];
  settled = [];
  marks = [];
  loads = [];
  floor = 0;
  floor_loads = 0;
}

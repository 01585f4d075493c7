-- What a desk knows over a seat of a shared book. Own: a desk tells what its seat has seen, and the marks and
-- the floor that it loaded.
use Rattle.std.specs.Prelude.{◌≡◌, ◌≤◌, ◌^◌, ◌==◌, ◌&&◌, ◌∷◌, ℕ, Bool, true, false, List, length, take, Option, IfSome}
use Rattle.std.specs.Option.{option_map}
use Rattle.std.specs.List.{list_any}
use Rattle.atomic_table.specs.Seated.{TableId}
use Rattle.atomic_table.specs.declared.shared.Seat.{Seat}
use Rattle.mw_types.specs.declared.entry.Entry.{Entry}
use Rattle.run_history.specs.Cases.{intervals_of}
use Rattle.run_history.specs.Fences.{IsFenced}
use Rattle.run_history.specs.Legal.{IsLegal}
use Rattle.book.specs.Books.{LeaseView}
use Rattle.book.specs.Desks.{DeskView, Home, Sight}
use Rattle.book.specs.OwnDesks.{is_claimed}
use Rattle.shared_book.specs.declared.views.Basis.{Basis}
use Rattle.shared_book.specs.declared.views.View.{View}
use Rattle.shared_book.specs.FenceLaw.{Slot}

-- whether a lease is among these
abbrev pub is_held : List LeaseView → LeaseView → Bool
is_held leases lease =
    list_any (λ (l : LeaseView). (l.interval == lease.interval) && (l.seq == lease.seq)) leases

-- what a desk knows: all that its seat has seen, and the marks and the floor that it loaded
abbrev pub shared_view : View → DeskView
shared_view v = record {
  case = v.basis.case;
  limit = v.basis.limit;
  seen = v.front;
  own = v.own;
  told = v.basis.told;
  leases = is_held v.leases;
  marks = take (length (intervals_of v.basis.case.topology)) v.marks;
  floor = v.floor;
  missed = v.missed;
  faults = v.faults;
  alone = false;
}

-- the numbers that name a table
abbrev pub table_numbers : TableId → List ℕ
table_numbers id =
    id.words ∷ id.slots ∷ id.views_name ∷ id.atom ∷ id.block ∷ id.offset ∷ id.slot_names

-- where a desk stands: the numbers of its seat's table, and, behind how many seats there are, those of the
-- seat
abbrev pub shared_home : Seat Slot View → Home
shared_home seat = record {
  book = table_numbers seat.table_id;
  seats = seat.me.0.basis.seats ∷ seat.me.0.numbers;
}

-- what a note tells: what was seen, where a contract can see the keeper's rows
abbrev pub sight_of : View → Option Sight
sight_of v = option_map (λ _. record { case = v.basis.case; seen = v.front }) v.basis.told

-- what a desk keeps of its seat: it has seen the beginning of a lawful history with the claims of its
-- leases, and the floor that it loaded is not above the greatest of a history
pub record IsKeptOfSeat (basis : Basis) (front : List Entry) (leases : List LeaseView) (floor : ℕ) : Type 0 where
  pub fenced : IsFenced basis.case.topology front
  pub legal : IfSome basis.told (λ _. IsLegal basis.case front)
  pub few : length front ≤ basis.limit
  pub limit : basis.limit ≤ 2 ^ 32
  pub claimed : (lease : LeaseView) → is_held leases lease ≡ true → is_claimed front lease ≡ true
  pub low : floor ≤ 2 ^ 32

-- the same, of a seat's view
abbrev pub HasKept : View → Type 0
HasKept v = IsKeptOfSeat v.basis v.front v.leases v.floor

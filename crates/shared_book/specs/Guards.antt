-- What a seat is after a try for the turn, as its lender knows it. The call that lends it cites this
-- module.
use Rattle.std.specs.Prelude.{◌≡◌, ◌≢◌, Result, Ok, Err, ⊤}
use Rattle.std.specs.Borrow.{RestsIfErr, MutBor, Fml, RattleType}
use Rattle.row_keeper.specs.declared.keeper.Keeper.{Ghosts}
use Rattle.shared_book.specs.declared.seats.Seat.{Seat}
use Rattle.shared_book.specs.declared.turn.Turn.{Turn}
use Rattle.shared_book.specs.declared.turn.Busy.{Busy}
use Rattle.shared_book.specs.declared.views.View.{View}
use Rattle.shared_book.specs.contracts.seats.Seat.{the_row}
use Rattle.shared_book.specs.Steps.{SeatView, missing}

-- the number that was found, which is not 0, was appended to those that the seat missed, and nothing else
-- changed
abbrev pub IsBusy : {T : Type 0} → Result T Busy → SeatView → SeatView → Type 0
IsBusy (Ok turn) new old = ⊤
IsBusy (Err busy) new old = (busy.found ≢ 0) × (new ≡ (missing old.0 busy.found, old.1))

-- another seat had the turn: the number that was found, which is not 0, is noted, and nothing else changed
abbrev pub HasMissed : View → View → Busy → Type 0
HasMissed old new busy = (busy.found ≢ 0) × (new ≡ missing old busy.found)

-- a seat that got no turn is a seat of its table, which noted what it found
abbrev pub RestsTurn : (K : RattleType) (g : Ghosts K.Denot) → MutBor (Seat K.Denot g)
    → Result (Turn K.Denot g) Busy → Fml
RestsTurn K g s r = RestsIfErr (the_row K g) s (λ t. t.seat.ghost_name) r
    (λ n. (n.place.table_id ≡ s.now.place.table_id) × IsBusy r n.place.me s.now.place.me)

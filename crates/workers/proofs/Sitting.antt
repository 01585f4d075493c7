-- A worker at its seat: what it is after each of its calls.
use Rattle.std.proofs.Common.{◌≡◌, ◌∙◌, ◌∷◌, ℕ, true, false, List, [], sym, ap, subst}
use Rattle.std.specs.Prelude.{Option, None, IfSome, Result, Ok, Err, IfErr, OnOk}
use Rattle.std.specs.Result.{result_err}
use Rattle.row_keeper.specs.declared.keeper.Keeper.{Ghosts}
use Rattle.atomic_table.specs.Seated.{TableId}
use Rattle.atomic_table.specs.declared.shared.Seat.{Seat as Place}
use Rattle.run_history.specs.Cases.{CaseShape}
use Rattle.book.specs.Desks.{DeskView, Home}
use Rattle.node.specs.Fits.{Fits}
use Rattle.node.specs.Workers.{NodeView}
use Rattle.node.specs.declared.outcome.NodeFault.{NodeFault}
use Rattle.shared_book.specs.FenceLaw.{Slot}
use Rattle.shared_book.specs.SharedDesks.{shared_home, shared_view}
use Rattle.shared_book.specs.Steps.{SeatView}
use Rattle.shared_book.specs.declared.seats.Seat.{Seat}
use Rattle.shared_book.specs.declared.views.View.{View}
use Rattle.shared_book.proofs.DeskFacts.{one-table}
use Rattle.workers.specs.Slices.{IsSliceFault}
use Rattle.workers.specs.Crews.{HasFaultCause, HasStepped, IsWorker, desk_of}
use Rattle.workers.specs.Seats.{IsSeated}
use Rattle.workers.specs.declared.crew.Worker.{Worker}
use Rattle.workers.proofs.Going.{gone-same}
use Rattle.workers.proofs.Trying.{cause-slice}

-- ---- a worker whose seat stays

-- it knows what it knew
pub desk-same : {K J : Type 0} {g : Ghosts K} (was now : Worker K J g) → now.seat ≡ was.seat → desk_of now ≡ desk_of was
desk-same {K} {J} {g} was now seat = ap (λ (s : Seat K g). shared_view s.place.me.0) seat

-- it stepped
pub stepped-same : {K J : Type 0} {g : Ghosts K} (was now : Worker K J g) → now.seat ≡ was.seat → now.node.number ≡ was.node.number
    → HasStepped was now
stepped-same was now seat number = record {
  most = 0;
  went_on = gone-same (desk_of was) (desk_of now) (desk-same was now seat);
  number = number;
}

-- it is a worker with another node that fits
pub worker-same : {K J : Type 0} {g : Ghosts K} (id : TableId) (case : CaseShape) (was now : Worker K J g) → now.seat ≡ was.seat
    → now.node.number ≡ was.node.number → Fits case (desk_of was) now.node → now.fault ≡ was.fault → IsWorker id case was
    → IsWorker id case now
worker-same {K} {J} {g} id case was now seat number fits fault worker =
    let desk = desk-same was now seat in record {
      seated = subst (λ (s : Seat K g). IsSeated id case s.place) (sym seat) worker.seated;
      numbers = ap (λ (s : Seat K g). s.place.me.0.numbers) seat ∙ worker.numbers ∙ ap (λ (n : ℕ). n ∷ []) (sym number);
      fits = subst (λ (d : DeskView). Fits case d now.node) (sym desk) fits;
      cause = subst (λ (f : Option NodeFault). IfSome f (HasFaultCause (desk_of now))) (sym fault)
          (subst (λ (d : DeskView). IfSome was.fault (HasFaultCause d)) (sym desk) worker.cause);
    }

-- and with its node
pub worker-still : {K J : Type 0} {g : Ghosts K} (id : TableId) (case : CaseShape) (was now : Worker K J g) → now.seat ≡ was.seat
    → now.node ≡ was.node → now.fault ≡ was.fault → IsWorker id case was → IsWorker id case now
worker-still id case was now seat node fault worker =
    worker-same id case was now seat (ap (λ (n : NodeView). n.number) node)
    (subst (λ (n : NodeView). Fits case (desk_of was) n) (sym node) worker.fits) fault worker

-- ---- a seat after a call of its desk

abbrev tail : List ℕ → List ℕ
tail [] = []
tail (x ∷ xs) = xs

-- the seat that a desk begins with
pub seat-moved : (id : TableId) (case : CaseShape) (old new : Place Slot View) → IsSeated id case old → new.me ≡ old.me → new.table_id ≡ id
    → IsSeated id case new
seat-moved id case old new seated same table = record {
  here = record {
    table = table;
    live = ap (λ (m : SeatView). m.0.live) same ∙ seated.here.live;
    case = ap (λ (m : SeatView). m.0.basis.case) same ∙ seated.here.case;
  };
  idle = record {
    turn = ap (λ (m : SeatView). m.0.turn) same ∙ seated.idle.turn;
    places = ap (λ (m : SeatView). m.1) same ∙ seated.idle.places;
  };
}

-- and the one that it leaves
pub seat-behind : (id : TableId) (case : CaseShape) (old new : Place Slot View) → IsSeated id case old → shared_home new ≡ shared_home old
    → new.me.0.basis.case ≡ old.me.0.basis.case → new.me.0.live ≡ true → new.me.0.turn ≡ false → new.me.1 ≡ []
    → IsSeated id case new
seat-behind id case old new seated home same live turn places = record {
  here = record {
    table = one-table new.table_id old.table_id (ap (λ (h : Home). h.book) home) ∙ seated.here.table;
    live = live;
    case = same ∙ seated.here.case;
  };
  idle = record { turn = turn; places = places };
}

-- with the numbers that it had
pub numbers-behind : (old new : Place Slot View) → shared_home new ≡ shared_home old → new.me.0.numbers ≡ old.me.0.numbers
numbers-behind old new home = ap (λ (h : Home). tail h.seats) home

-- ---- how a turn of work ends

-- the fault of what failed has its cause
pub fault-caused : (old new : DeskView) (done : Result Unit NodeFault) (fault : Option NodeFault) → fault ≡ result_err done
    → IfErr done (IsSliceFault old new) → IfSome fault (HasFaultCause new)
fault-caused old new (Ok x) fault same is = subst (λ (f : Option NodeFault). IfSome f (HasFaultCause new)) (sym same) tt
fault-caused old new (Err why) fault same is = subst (λ (f : Option NodeFault). IfSome f (HasFaultCause new)) (sym same)
    (cause-slice old new why is)

-- what holds where it did not fail holds where there is no fault
pub fault-none : {P : Type 0} (done : Result Unit NodeFault) (fault : Option NodeFault) → fault ≡ result_err done → OnOk done P → fault ≡ None
    → P
fault-none (Ok x) fault same is none = is
fault-none (Err why) fault same is none = absurd cc

use Rattle.std.proofs.Common.{◌≡◌, ◌+◌, ◌-◌, suc, ap, ◌∙◌, arith}
use Rattle.shared_book.specs.Opening.{span}
use Rattle.shared_book.specs.Steps.{SeatView}
use denote.RattleType.{RattleType}
use denote.Param.Send.{IsSend, sendable}
use Rattle.std.proofs.Crossing.{crosses, send}
use Rattle.row_keeper.specs.declared.keeper.Keeper.{Ghosts}
use Rattle.engine_tests.specs.contracts.tests.books.threads.Ended as Ended
use Rattle.shared_book.proofs.Sending.{seat_field_send, seat_send, shared_sync}
use Rattle.engine_tests.proofs.TestSeatLaws.{next_number, put_below}
use Rattle.engine_tests.proofs.tests.books.threads.+fn-in_threads-join+arg3+in_threads.Goals as goal

-- the seat has one number more than are left to deal
pub deal-one-requires-clause-more : goal.deal-one-requires-clause-more
deal-one-requires-clause-more g t c =
    let seat = c.args.seat in
    next_number seat.place.me.0.numbers seat.number seat.number c.args.left c.requires.rest.has_numbers seat.numbered (omega arith)

-- what a thread answers, where the keeper may cross
ended_send : (K : RattleType) (g : Ghosts K.Denot) → IsSend K → IsSend (Ended.the_row K g)
ended_send K g s = search (sendable, crosses, seat_field_send) depth 30

-- what a thread is given may cross to it, and what it answers back
pub join-first-requires-send-F : goal.join-first-requires-send-F
join-first-requires-send-F g t c κs within =
    search (sendable, send, seat_send, seat_field_send, shared_sync) depth 30

pub join-first-requires-send-A : goal.join-first-requires-send-A
join-first-requires-send-A g t c κs within = search (sendable, ended_send) depth 30

-- the first number is put in front of the others
pub returns : goal.returns
returns g t c =
    let seat = c.args.seat in
    let dealt = c.deal-one.ensures in
    let first = c.join-first.ensures.first in
    let others = c.join-first.ensures.second in
    let view = c.taken_in.ensures.view in
    let number = c.deal-one.new.seat.number in
    let back : (c.args.left - 1) + 1 ≡ c.args.left = omega arith in
    let end : suc c.args.left ≡ c.args.left + 1 = omega arith in
    let next : number ≡ suc seat.number = omega (arith, dealt.next) in
    record {
      rest = record {
        here = c.taken_in.ensures.here;
        idle = record {
          turn = ap (λ (m : SeatView). m.0.turn) view ∙ others.idle.turn;
          places = ap (λ (m : SeatView). m.1) view;
        };
        of_seats = ap (λ (m : SeatView). m.0.basis.seats) view
            ∙ (others.of_seats ∙ ap (λ (m : SeatView). m.0.basis.seats) dealt.stays);
        has_numbers = ap (λ (m : SeatView). m.0.numbers) view
            ∙ (put_below _ _ seat.number number c.args.left (others.has_numbers ∙ ap (span number) back)
            (first.has_numbers ∙ (ap (λ (m : SeatView). m.0.numbers) dealt.leaves ∙ seat.numbered)) next
            ∙ ap (span seat.number) end);
      };
    }

use Rattle.std.proofs.Common.{List, sym, ap, ◌∙◌, subst, length}
use Rattle.std.specs.Prelude.{IfSome, take, ◌<◌, ℕ}
use Rattle.run_history.specs.Cases.{CaseShape, intervals_of}
use Rattle.run_history.specs.Runs.{run_of}
use Rattle.book.specs.Books.{CoreView, core_of}
use Rattle.book.specs.Lawful.{IsLawful}
use Rattle.book.specs.Marks.{AreSafe}
use Rattle.shared_book.specs.Lists.{IsIn}
use Rattle.shared_book.specs.Steps.{SeatView}
use Rattle.shared_book.specs.Turns.{IsClosed}
use Rattle.shared_book.proofs.Closing.{closed_book, closing, not_empty, same_closed}
use Rattle.shared_book.proofs.shared.Shared.close.Goals as goal

pub unreachable-requires : goal.unreachable-requires
unreachable-requires g c =
    let s = c.reload.new.seat in
    let e = c.reload.ensures.reloaded.view in
    let k = closing c.args.self.table.shared.key s.place.id s.place.me.0 _ _ c.close_with-closed.ensures.values.2
    (ap (λ (m : SeatView). m.0.turn) e ∙ c.requires.idle.turn) s.live
    (subst (λ (m : SeatView). (n : ℕ) → n < m.0.basis.seats → IsIn n m.0.numbers) (sym e) c.requires.all) s.long.marks
    c.take-slot.result c.take-slot.ensures.value in
    not_empty k.0 (sym c.in-None.is ∙ k.1)

pub of-book-requires : goal.of-book-requires
of-book-requires g c =
    let s = c.reload.new.seat in
    let e = c.reload.ensures.reloaded.view in
    let k = closing c.args.self.table.shared.key s.place.id s.place.me.0 _ _ c.close_with-closed.ensures.values.2
    (ap (λ (m : SeatView). m.0.turn) e ∙ c.requires.idle.turn) s.live
    (subst (λ (m : SeatView). (n : ℕ) → n < m.0.basis.seats → IsIn n m.0.numbers) (sym e) c.requires.all) s.long.marks
    c.take-slot.result c.take-slot.ensures.value in
    let closed = same_closed s.place.me.0 k.0 c.in-Some.core (sym k.1 ∙ c.in-Some.is) k.2 in
    record { lawful = subst (λ (z : CaseShape). IsLawful z c.in-Some.core) c.reload.ensures.here.case closed.lawful }

pub put_back-requires : goal.put_back-requires
put_back-requires g c =
    let s = c.reload.new.seat in
    let e = c.reload.ensures.reloaded.view in
    let k = closing c.args.self.table.shared.key s.place.id s.place.me.0 _ _ c.close_with-closed.ensures.values.2
    (ap (λ (m : SeatView). m.0.turn) e ∙ c.requires.idle.turn) s.live
    (subst (λ (m : SeatView). (n : ℕ) → n < m.0.basis.seats → IsIn n m.0.numbers) (sym e) c.requires.all) s.long.marks
    c.take-slot.result c.take-slot.ensures.value in
    let closed = same_closed s.place.me.0 k.0 c.in-Some.core (sym k.1 ∙ c.in-Some.is) k.2 in
    record {
      safe = subst (λ (t : CaseShape × CoreView × List ℕ). IfSome t.1.rows
          (λ _. AreSafe t.0 (run_of t.0.topology t.1.history) t.2))
          (λ i. ((c.reload.ensures.here.case ∙ sym c.of-book.ensures.case) i, sym c.of-book.ensures.core i, sym s.loaded i)) closed.safe;
    }

pub returns-clause-closed : goal.returns-clause-closed
returns-clause-closed g c =
    let s = c.reload.new.seat in
    let e = c.reload.ensures.reloaded.view in
    let k = closing c.args.self.table.shared.key s.place.id s.place.me.0 _ _ c.close_with-closed.ensures.values.2
    (ap (λ (m : SeatView). m.0.turn) e ∙ c.requires.idle.turn) s.live
    (subst (λ (m : SeatView). (n : ℕ) → n < m.0.basis.seats → IsIn n m.0.numbers) (sym e) c.requires.all) s.long.marks
    c.take-slot.result c.take-slot.ensures.value in
    let closed = same_closed s.place.me.0 k.0 c.in-Some.core (sym k.1 ∙ c.in-Some.is) k.2 in
    closed_book c.args.seat.place.me s.place.me (core_of c.put_back.new.book) c.reload.ensures.reloaded
    (subst (IsClosed s.place.me.0)
    ((λ i. record (sym c.of-book.ensures.core i) {
      marks = take (length (intervals_of ((c.reload.ensures.here.case ∙ sym c.of-book.ensures.case) i).topology)) (sym s.loaded i);
    }) ∙ sym (ap core_of c.put_back.ensures.marks))
    closed.closed)

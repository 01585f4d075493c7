use Rattle.std.proofs.Common.{arith, ap, length, subst, sym, true≢false, ◌∙◌}
use Rattle.shared_book.specs.Joins.{first_of}
use Rattle.shared_book.specs.Places.{AreThere, claims_of, inputs_of}
use Rattle.shared_book.specs.Steps.{SeatView}
use Rattle.shared_book.proofs.Starting.{span_first}
use Rattle.shared_book.proofs.opening.opened.Goals as goal

pub invariant_of-seat : goal.invariant_of-seat
invariant_of-seat g c =
    let view = c.fill.ensures.view in
    record {
      numbered = ap (λ (m : SeatView). first_of m.0.numbers) view ∙ span_first 0 c.args.seats c.requires.some;
      small = omega arith;
      live = ap (λ (m : SeatView). m.0.live) view;
      loaded = sym (ap (λ (m : SeatView). m.0.marks) view);
      claimed = sym (ap (λ (m : SeatView). claims_of m.0) view);
      fed = sym (ap (λ (m : SeatView). inputs_of m.0) view);
      long = record { marks = ap (λ (m : SeatView). length m.0.marks) view; settled = ap (λ (m : SeatView). length m.0.settled) view };
      there = subst (λ (m : SeatView). AreThere m.0.basis.case.topology m.0.leases) (sym view) (λ lease held. absurd held);
      current = λ is. absurd (true≢false (sym is));
    }

use Rattle.std.proofs.Common.{◌≡◌, ◌∙◌, [], ℕ, ap, length, sym, subst}
use Rattle.shared_book.specs.declared.views.View.{View}
use Rattle.shared_book.specs.Joins.{first_of}
use Rattle.shared_book.specs.MarkSteps.{released}
use Rattle.shared_book.specs.Places.{AreThere, claims_of, inputs_of, with_floor_loaded}
use Rattle.shared_book.specs.Settling.{AreSettled}
use Rattle.shared_book.specs.SharedDesks.{HasKept}
use Rattle.shared_book.specs.Steps.{SeatView, idle}
use Rattle.shared_book.proofs.DeskFacts.{kept-turn}
use Rattle.shared_book.proofs.DeskSteps.{given}
use Rattle.shared_book.proofs.Filling.{claims-stay, length-after}
use Rattle.shared_book.proofs.Told.{turn_floor}
use Rattle.shared_book.proofs.finishing.finish.Goals as goal

pub give-requires-clause-turn : goal.give-requires-clause-turn
give-requires-clause-turn g c =
    turn_floor c.settle_leases.new.place.me c.raise_floor.new.place.me c.args.floor c.raise_floor.ensures.view
    c.settle_leases.ensures.turn

pub returns-clause-kept : goal.returns-clause-kept
returns-clause-kept g c =
    let v = c.args.seat.now.place.me.0 in
    let view : c.give.new.place.me ≡ (released v, []) =
    c.give.ensures.view ∙ ap (λ (m : SeatView). (idle m.0, [])) c.raise_floor.ensures.view
    ∙ ap (λ (u : View). (idle (with_floor_loaded u c.args.floor), [])) c.settle_leases.ensures.view
    ∙ ap (λ (n : ℕ). (idle (with_floor_loaded v n), [])) c.requires.floor in
    given HasKept c.args.seat.now.place.me c.give.new.place.me view (kept-turn c.args.seat.now.place.me c.requires.turn)

pub invariant_of-seat : goal.invariant_of-seat
invariant_of-seat g c =
    let p = c.args.seat.now in
    let t = c.settle_leases in
    let is = ap (λ (m : SeatView). m.0) c.give.ensures.view ∙ ap (λ (m : SeatView). idle m.0) c.raise_floor.ensures.view
    ∙ ap (λ (v : View). idle (with_floor_loaded v c.args.floor)) t.ensures.view in
    record {
      numbered = ap (λ (v : View). first_of v.numbers) is ∙ p.numbered;
      small = p.small;
      live = ap (λ (v : View). v.live) is ∙ p.live;
      loaded = p.loaded ∙ sym (ap (λ (v : View). v.marks) is);
      claimed = p.claimed ∙ sym (claims-stay p.place.me.0.basis.case.topology p.place.me.0.front p.place.me.0.marks 0 p.place.me.0.settled)
          ∙ sym (ap claims_of is);
      fed = t.ensures.inputs ∙ sym (ap inputs_of is);
      long = record {
        marks = ap (λ (v : View). length v.marks) is ∙ p.long.marks;
        settled = ap (λ (v : View). length v.settled) is
            ∙ length-after p.place.me.0.basis.case.topology p.place.me.0.front p.place.me.0.marks 0 p.place.me.0.settled ∙ p.long.settled;
      };
      there = subst (λ (v : View). AreThere v.basis.case.topology v.leases) (sym is) p.there;
      current = λ yes. subst (λ (v : View). AreSettled v.basis.case.topology v.front p.marks p.claims t.new.inputs) (sym is) t.ensures.settled;
    }

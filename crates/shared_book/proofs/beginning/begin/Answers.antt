use Rattle.std.proofs.Common.{ap, subst, sym, ◌∙◌}
use Rattle.shared_book.specs.declared.views.View.{View}
use Rattle.shared_book.specs.Joins.{first_of}
use Rattle.shared_book.proofs.SeatCalls.{arrays-is}
use Rattle.shared_book.specs.SharedDesks.{HasKept}
use Rattle.shared_book.specs.Steps.{SeatView}
use Rattle.shared_book.proofs.DeskFacts.{kept-look}
use Rattle.shared_book.proofs.beginning.begin.Goals as goal

pub returns-clause-kept : goal.returns-clause-kept
returns-clause-kept g c = subst (λ (m : SeatView). HasKept m.0) (sym c.look.ensures.same)
    (kept-look c.args.seat.now.place.me.0 c.look.ensures.seen)

pub invariant_of-seat : goal.invariant_of-seat
invariant_of-seat g c =
    let p = c.args.seat.now in
    let e = ap (λ (m : SeatView). m.0) c.look.ensures.same in
    let has = arrays-is p.place.me.0 c.look.new.place.me.0 p.settled p.marks p.claims p.inputs e
    (record { loaded = p.loaded; claimed = p.claimed; fed = p.fed; long = p.long; there = p.there; current = p.current }) in
    record {
      numbered = ap (λ (v : View). first_of v.numbers) e ∙ p.numbered;
      small = p.small;
      live = ap (λ (v : View). v.live) e ∙ p.live;
      loaded = has.loaded;
      claimed = has.claimed;
      fed = has.fed;
      long = has.long;
      there = has.there;
      current = has.current;
    }

use Rattle.std.proofs.Common.{◌∙◌, ap, sym, List}
use Rattle.std.specs.Prelude.{Option, Some, slice_get}
use Rattle.key_intervals.specs.declared.bounds.Bounds.{Bounds}
use Rattle.mw_types.specs.declared.identity.RowName.{RowName}
use Rattle.row_parts.specs.Contents.{Contents}
use Rattle.holdings.specs.Holding.{HeldView, held_at}
use Rattle.holdings.proofs.ClaimSteps.{AreAllHeld-claimed}
use Rattle.holdings.proofs.HeldPlaces.{held-here, held-others}
use Rattle.holdings.proofs.HeldSteps.{AreAllHeld-looked}
use Rattle.holdings.proofs.holdings.Holdings.claim.Goals as goal

-- a free place changes nothing
pub returns-in_err-make_room-clause-fits : goal.returns-in_err-make_room-clause-fits
returns-in_err-make_room-clause-fits g c = record { each = λ i held is. c.requires.fits.each i held (sym (c.make_room.ensures.same i) ∙ is) }

-- a refused claim changes nothing
pub returns-in_err-lease-clause-fits : goal.returns-in_err-lease-clause-fits
returns-in_err-lease-clause-fits g c =
    AreAllHeld-looked c.args.case.now (g.D.Desk.view c.args.desk.now) (g.D.Desk.view c.claim-claimed.new.self) c.args.self.now c.make_room.new.self
    c.requires.case c.sound.ensures.sound c.sound-2.ensures.sound c.in_err-lease.ensures.looked c.make_room.ensures.same c.requires.fits

-- what was answered is held, and all fits
pub returns-clause-fits : goal.returns-clause-fits
returns-clause-fits g c =
    let answer = c.in_ok-lease.field-0 in
    let interval = c.args.interval in
    let places = c.make_room.new.self in
    let left : HeldView = record { lease = answer.lease; rows = c.of-rows.result } in
    AreAllHeld-claimed c.args.case.now (g.D.Desk.view c.args.desk.now) (g.D.Desk.view c.claim-claimed.new.self) c.args.worker interval
    c.bounds-bounds.result.now answer c.requires.case c.sound.ensures.sound c.sound-2.ensures.sound
    c.bounds-bounds.ensures.at
    c.in_ok-lease.ensures.claimed c.args.self.now c.hold.new.self
    (ap (λ (l : List (Option HeldView)). held_at l interval) c.hold.ensures
    ∙ held-here places interval (Some left) c.in_ok-make_room.ensures.room
    ∙ ap (λ (rows : List (RowName × Contents)). Some (record { lease = answer.lease; rows = rows })) c.of-rows.ensures)
    (λ j apart. ap (λ (l : List (Option HeldView)). held_at l j) c.hold.ensures ∙ held-others places interval (Some left) j apart
    ∙ c.make_room.ensures.same j)
    c.requires.fits

-- what was answered is held
pub returns-clause-claimed : goal.returns-clause-claimed
returns-clause-claimed g c =
    let answer = c.in_ok-lease.field-0 in
    let interval = c.args.interval in
    let places = c.make_room.new.self in
    let left : HeldView = record { lease = answer.lease; rows = c.of-rows.result } in record {
      answer = answer;
      claimed = c.in_ok-lease.ensures.claimed;
      number = sym c.seq-seq.ensures;
      held = ap (λ (l : List (Option HeldView)). held_at l interval) c.hold.ensures
          ∙ held-here places interval (Some left) c.in_ok-make_room.ensures.room
          ∙ ap (λ (rows : List (RowName × Contents)). Some (record { lease = answer.lease; rows = rows })) c.of-rows.ensures;
      others = λ j apart. ap (λ (l : List (Option HeldView)). held_at l j) c.hold.ensures
          ∙ held-others places interval (Some left) j apart ∙ c.make_room.ensures.same j;
    }

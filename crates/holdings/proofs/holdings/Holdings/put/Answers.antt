use Rattle.std.proofs.Common.{◌∙◌, arith, sym}
use Rattle.row_parts.specs.Contents.{Contents}
use Rattle.book.specs.Books.{LeaseView}
use Rattle.book.specs.Writings.{HasPut, MayPut}
use Rattle.book.specs.declared.answers.Written.{Written}
use Rattle.holdings.specs.Holding.{row_held}
use Rattle.holdings.specs.Steps.{with_cached}
use Rattle.holdings.proofs.HeldRows.{entered-put}
use Rattle.holdings.proofs.HeldSteps.{AreAllHeld-put, HoldsEntry-put, KeepsHeld-put, place-held, place-lease, place-refused, place-row, place-said, place-there, ready-same, ready-said, ready-within}
use Rattle.holdings.proofs.holdings.Holdings.put.Goals as goal

-- what is held stands in order
pub ready-requires-clause-ordered : goal.ready-requires-clause-ordered
ready-requires-clause-ordered g c = λ held is. (c.requires.fits.each c.args.interval held is).rows.ordered

-- a row that could not be cached changes nothing
pub returns-in_err-ready-clause-fits : goal.returns-in_err-ready-clause-fits
returns-in_err-ready-clause-fits g c =
    record { each = λ i held is. c.requires.fits.each i held (sym (c.in_err-ready.ensures.same i) ∙ is) }

-- the interval has a place
pub index_mut-place-requires : goal.index_mut-place-requires
index_mut-place-requires g c =
    let ready = ready-same c.args.case.now.topology c.args.interval c.args.name.now c.args.self.now c.ready.new.self c.self.inside.all.items
    c.self.view_is c.in_ok-ready.ensures.ready in
    let within = ready-within c.args.case.now (g.D.Desk.view c.args.desk.now) c.args.self.now c.self.inside.all.items c.args.interval c.args.name.now
    c.requires.covers ready c.requires.fits in
    let long = c.self.inside.all.ok.0 in omega (arith, within, long)

-- what is held there has the row cached, as it was
pub put_at-written-requires : goal.put_at-written-requires
put_at-written-requires g c =
    let ready = ready-same c.args.case.now.topology c.args.interval c.args.name.now c.args.self.now c.ready.new.self c.self.inside.all.items
    c.self.view_is c.in_ok-ready.ensures.ready in
    let was = c.index_mut-place.result.now in
    let read = c.index_mut-place.ensures.value in
    let desk = g.D.Desk.view c.args.desk.now in record {
      held = place-held c.args.case.now desk c.args.self.now c.self.inside.all.items c.args.interval c.args.name.now c.requires.covers ready c.requires.fits was read;
      there = place-there c.args.case.now desk c.args.self.now c.self.inside.all.items c.args.interval c.args.name.now c.requires.covers ready c.requires.fits was read;
      lease = place-lease c.args.case.now desk c.args.self.now c.self.inside.all.items c.args.interval c.args.name.now c.requires.covers ready c.requires.fits was read c.requires.case;
      row = place-row c.args.case.now desk c.args.self.now c.self.inside.all.items c.args.interval c.args.name.now c.requires.covers ready c.requires.fits was read c.requires.case c.requires.part;
      may = place-said c.args.case.now desk c.args.self.now c.self.inside.all.items c.args.interval c.args.name.now c.requires.covers ready c.requires.fits was read
          (λ (r : Contents). MayPut desk c.args.name.now r c.args.writing) c.requires.may;
    }

-- all that is held fits
pub returns-clause-fits : goal.returns-clause-fits
returns-clause-fits g c =
    let old = g.D.Desk.view c.args.desk.now in
    let new = g.D.Desk.view c.put_at-written.new.desk in
    let ready = ready-same c.args.case.now.topology c.args.interval c.args.name.now c.args.self.now c.ready.new.self c.self.inside.all.items
    c.self.view_is c.in_ok-ready.ensures.ready in
    AreAllHeld-put c.args.case.now old new c.args.self.now c.self.inside.all.items c.args.interval c.args.name.now c.requires.covers ready
    c.requires.fits c.index_mut-place.result.now c.index_mut-place.ensures.value c.put_at-written.new.place c.put_at-written.result
    (λ (l : LeaseView) (r : Contents) (w : Written). HasPut old new l c.args.name.now c.args.writing r w)
    c.put_at-written.ensures.put c.put_at-written.ensures.kept
    c.requires.case c.sound.ensures.sound c.sound-2.ensures.sound
    (λ w by. entered-put old new ready.held.lease c.args.name.now c.args.writing
    (row_held c.args.case.now.topology (with_cached c.args.case.now.topology c.args.name.now ready.held) c.args.name.now) w
    (ready-said c.args.case.now old c.args.self.now c.self.inside.all.items c.args.interval c.args.name.now c.requires.covers ready c.requires.fits
    (λ (r : Contents). MayPut old c.args.name.now r c.args.writing) c.requires.may) by)
    c.put_at-written.ensures.looked

-- what was written is held
pub returns-clause-put : goal.returns-clause-put
returns-clause-put g c =
    let old = g.D.Desk.view c.args.desk.now in
    let new = g.D.Desk.view c.put_at-written.new.desk in
    let ready = ready-same c.args.case.now.topology c.args.interval c.args.name.now c.args.self.now c.ready.new.self c.self.inside.all.items
    c.self.view_is c.in_ok-ready.ensures.ready in
    HoldsEntry-put c.args.case.now old new c.args.self.now c.self.inside.all.items c.args.interval c.args.name.now c.requires.covers ready
    c.requires.fits c.index_mut-place.result.now c.index_mut-place.ensures.value c.put_at-written.new.place c.put_at-written.result
    (λ (l : LeaseView) (r : Contents) (w : Written). HasPut old new l c.args.name.now c.args.writing r w)
    c.put_at-written.ensures.put c.put_at-written.ensures.kept

-- a refusal keeps what is held
pub returns-clause-kept : goal.returns-clause-kept
returns-clause-kept g c =
    let old = g.D.Desk.view c.args.desk.now in
    let new = g.D.Desk.view c.put_at-written.new.desk in
    let ready = ready-same c.args.case.now.topology c.args.interval c.args.name.now c.args.self.now c.ready.new.self c.self.inside.all.items
    c.self.view_is c.in_ok-ready.ensures.ready in
    KeepsHeld-put c.args.case.now old new c.args.self.now c.self.inside.all.items c.args.interval c.args.name.now c.requires.covers ready
    c.requires.fits c.index_mut-place.result.now c.index_mut-place.ensures.value c.put_at-written.new.place c.put_at-written.result
    (λ (l : LeaseView) (r : Contents) (w : Written). HasPut old new l c.args.name.now c.args.writing r w)
    c.put_at-written.ensures.put c.put_at-written.ensures.kept

-- the reason is by the lease that is held
pub returns-clause-reason : goal.returns-clause-reason
returns-clause-reason g c =
    place-refused c.args.case.now (g.D.Desk.view c.args.desk.now) c.args.self.now c.self.inside.all.items c.args.interval c.args.name.now
    c.requires.covers
    (ready-same c.args.case.now.topology c.args.interval c.args.name.now c.args.self.now c.ready.new.self c.self.inside.all.items
    c.self.view_is c.in_ok-ready.ensures.ready)
    c.requires.fits c.index_mut-place.result.now c.index_mut-place.ensures.value (g.D.Desk.view c.put_at-written.new.desk)
    c.put_at-written.result c.put_at-written.ensures.reason

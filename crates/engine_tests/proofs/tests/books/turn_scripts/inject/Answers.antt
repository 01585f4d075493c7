use Rattle.std.proofs.Common.{◌≡◌, ◌∙◌, length, sym, true}
use Rattle.run_history.specs.Fits.{fits}
use Rattle.worked_examples.specs.Drained.{injector_row}
use Rattle.worked_examples.specs.Rising.{rise_case}
use Rattle.engine_tests.proofs.TestTurnLaws.{fit-on, on-then}
use Rattle.engine_tests.proofs.tests.books.turn_scripts.inject.Goals as goal

-- the seat has its lease with each step
pub raised-mark-requires-clause-held : goal.raised-mark-requires-clause-held
raised-mark-requires-clause-held g c =
    c.left-left.ensures.on.leases _ (c.written-injected.ensures.on.leases _ c.claimed-lease.ensures.held)

pub returns-clause-held : goal.returns-clause-held
returns-clause-held g c =
    c.raised-mark.ensures.on.leases _
    (c.left-left.ensures.on.leases _ (c.written-injected.ensures.on.leases _ c.claimed-lease.ensures.held))

-- and goes on with each
pub returns-clause-on : goal.returns-clause-on
returns-clause-on g c =
    on-then _ _ _ (on-then _ _ _ (on-then _ _ _ c.claimed-lease.ensures.on c.written-injected.ensures.on) c.left-left.ensures.on)
    c.raised-mark.ensures.on

-- the row that was written fits its name
pub returns-clause-fit : goal.returns-clause-fit
returns-clause-fit g c =
    let v = c.written-injected.new.seat.place.me.0 in
    let row = c.written-injected.result.row in
    let fit : fits rise_case (length v.front) injector_row row ≡ true =
    (λ i. fits (sym c.requires.case i) (length v.front) (sym c.injector_row-name.ensures i) row) ∙ c.written-injected.ensures.fit in
    fit-on v c.raised-mark.new.seat.place.me.0 rise_case injector_row row
    (on-then _ _ _ c.left-left.ensures.on c.raised-mark.ensures.on) fit

use Rattle.std.proofs.Common.{◌≡◌, ◌∙◌, length, sym, true}
use Rattle.run_history.specs.Fits.{fits}
use Rattle.worked_examples.specs.First.{row_a}
use Rattle.worked_examples.specs.Rising.{rise_case}
use Rattle.engine_tests.proofs.TestTurnLaws.{fit-suits, on-then}
use Rattle.engine_tests.proofs.tests.books.turn_scripts.handle.Goals as goal

-- the seat has its lease with each step
pub written-handled-requires-clause-held : goal.written-handled-requires-clause-held
written-handled-requires-clause-held g c =
    c.loaded-fed.ensures.on.leases _ (c.met.ensures.on.leases _ c.claimed-lease.ensures.held)

pub raised-mark-requires-clause-held : goal.raised-mark-requires-clause-held
raised-mark-requires-clause-held g c =
    c.left-left.ensures.on.leases _ (c.written-handled.ensures.on.leases _
    (c.loaded-fed.ensures.on.leases _ (c.met.ensures.on.leases _ c.claimed-lease.ensures.held)))

pub returns-clause-held : goal.returns-clause-held
returns-clause-held g c =
    c.raised-mark.ensures.on.leases _ (c.left-left.ensures.on.leases _ (c.written-handled.ensures.on.leases _
    (c.loaded-fed.ensures.on.leases _ (c.met.ensures.on.leases _ c.claimed-lease.ensures.held))))

-- and goes on with each
pub returns-clause-on : goal.returns-clause-on
returns-clause-on g c =
    on-then _ _ _ (on-then _ _ _ (on-then _ _ _ (on-then _ _ _ (on-then _ _ _ c.claimed-lease.ensures.on c.met.ensures.on)
    c.loaded-fed.ensures.on) c.written-handled.ensures.on) c.left-left.ensures.on) c.raised-mark.ensures.on

-- the row that was written suits its part
pub returns-clause-fit : goal.returns-clause-fit
returns-clause-fit g c =
    let v = c.written-handled.new.seat.place.me.0 in
    let row = c.written-handled.result.row in
    let fit : fits rise_case (length v.front) row_a row ≡ true =
    (λ i. fits (sym c.requires.case i) (length v.front) (sym c.row_a-name.ensures i) row) ∙ c.written-handled.ensures.fit in
    fit-suits rise_case (length v.front) row_a row fit

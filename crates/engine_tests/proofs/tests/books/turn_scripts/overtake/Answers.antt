use Rattle.worked_examples.specs.Drained.{injector_row}
use Rattle.worked_examples.specs.Rising.{rise_case}
use Rattle.engine_tests.proofs.TestTurnLaws.{fit-on}
use Rattle.engine_tests.proofs.tests.books.turn_scripts.overtake.Goals as goal

-- each seat has its leases with each step
pub settle-acked-requires-clause-held : goal.settle-acked-requires-clause-held
settle-acked-requires-clause-held g c = c.claimed-lease.ensures.on.leases _ c.requires.held

pub raised-source-requires-clause-held : goal.raised-source-requires-clause-held
raised-source-requires-clause-held g c =
    c.settle-acked.ensures.on.leases _ (c.claimed-lease.ensures.on.leases _ c.requires.held)

pub raised-stale-requires-clause-held : goal.raised-stale-requires-clause-held
raised-stale-requires-clause-held g c = c.loaded-fed.ensures.on.leases _ c.requires.other_held

pub raised-mark-requires-clause-held : goal.raised-mark-requires-clause-held
raised-mark-requires-clause-held g c =
    c.caught_up.ensures.on.leases _ (c.raised-source.ensures.on.leases _
    (c.settle-acked.ensures.on.leases _ c.claimed-lease.ensures.held))

pub purge-floor-requires-clause-held : goal.purge-floor-requires-clause-held
purge-floor-requires-clause-held g c =
    c.raised-mark.ensures.on.leases _ (c.caught_up.ensures.on.leases _ (c.raised-source.ensures.on.leases _
    (c.settle-acked.ensures.on.leases _ c.claimed-lease.ensures.held)))

-- the injector's row fits its name as before
pub settle-acked-requires-clause-fit : goal.settle-acked-requires-clause-fit
settle-acked-requires-clause-fit g c =
    fit-on c.args.one.now.place.me.0 c.claimed-lease.new.seat.place.me.0 rise_case injector_row c.args.rows.0.now
    c.claimed-lease.ensures.on c.requires.sent

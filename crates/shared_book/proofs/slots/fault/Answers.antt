use Rattle.std.proofs.Common.{arith}
use Rattle.shared_book.proofs.Told.{may_fault, turn_noted}
use Rattle.shared_book.proofs.slots.fault.Goals as goal

pub load-requires : goal.load-requires
load-requires g c =
    let ids = c.args.shared.now.sized in
    let table = c.args.shared.now.table.shared in
    let s = c.args.place.now in
    let r = c.requires in
    (c.home.ensures.table, omega (arith, ids.0), may_fault table.key table.table_id.slots c.home.new.place.id c.home.new.place.me s.me.0 c.args.core c.home.ensures.view r.out.turn r.live r.core.enough r.rose)

pub returns-clause-turn : goal.returns-clause-turn
returns-clause-turn g c =
    turn_noted c.args.place.now.me c.home.new.place.me c.load.new.seat.me c.args.core c.home.ensures.view c.load.ensures.2.1
    c.requires.out.turn c.requires.core c.requires.claimed

use Rattle.std.proofs.Common.{arith}
use Rattle.shared_book.proofs.Told.{may_give}
use Rattle.shared_book.proofs.slots.give.Goals as goal

pub store-requires : goal.store-requires
store-requires g c =
    let ids = c.args.shared.now.sized in
    let table = c.args.shared.now.table.shared in
    let s = c.args.place.now in
    let t = c.requires.turn in
    (c.requires.table, omega (arith, ids.0), may_give table.key table.table_id.slots s.id s.me.0 s.me.1 t.book t.places t.turn c.requires.live t.core (omega (arith, ids.1)))

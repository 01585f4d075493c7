use Rattle.std.proofs.Common.{arith}
use Rattle.shared_book.proofs.Told.{may_look}
use Rattle.shared_book.proofs.slots.look.Goals as goal

pub load-requires : goal.load-requires
load-requires g c =
    let ids = c.args.shared.now.sized in
    let table = c.args.shared.now.table.shared in
    let s = c.args.place.now in
    (c.requires.table, omega (arith, ids.0), may_look table.key table.table_id.slots s.id s.me c.requires.live)

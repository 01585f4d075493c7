use Rattle.std.proofs.Common.{arith}
use Rattle.shared_book.proofs.Told.{may_load_floor}
use Rattle.shared_book.proofs.mark_words.load_floor.Goals as goal

pub load-requires : goal.load-requires
load-requires g c =
    let ids = c.args.shared.now.sized in
    let table = c.args.shared.now.table.shared in
    let s = c.args.place.now in
    (c.requires.table, omega (arith, ids.0), may_load_floor table.key table.table_id.slots s.id s.me c.requires.live)

use Rattle.std.proofs.Common.{arith}
use Rattle.shared_book.proofs.Told.{may_raise_floor}
use Rattle.shared_book.proofs.mark_words.raise_floor.Goals as goal

pub fetch_max-requires : goal.fetch_max-requires
fetch_max-requires g c =
    let ids = c.args.shared.now.sized in
    let table = c.args.shared.now.table.shared in
    let s = c.args.place.now in (
      c.requires.table,
      omega (arith, ids.0),
      may_raise_floor table.key table.table_id.slots s.id c.args.floor s.me c.requires.live c.requires.turn c.requires.floor,
    )

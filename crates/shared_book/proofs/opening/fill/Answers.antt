use Rattle.std.proofs.Common.{arith, ◌∙◌}
use Rattle.shared_book.proofs.Starting.{may_fetch, may_open, fetched}
use Rattle.shared_book.proofs.opening.fill.Goals as goal

pub load-requires : goal.load-requires
load-requires g c =
    let ids = c.args.shared.now.sized in
    let t = c.args.shared.now.table.shared in
    let p = c.args.place.now in (
      c.requires.table,
      omega (arith, ids.0),
      may_fetch t.key t.table_id.slots p.id p.me c.args.shared.now.case.now c.args.seats c.requires.case c.requires.seats
          c.requires.blank,
    )

pub store-requires : goal.store-requires
store-requires g c =
    let ids = c.args.shared.now.sized in
    let t = c.args.shared.now.table.shared in
    let p = c.args.place.now in
    let e = c.exchange-was.ensures in
    let l = c.load.ensures in (
      e.0 ∙ l.0 ∙ c.requires.table,
      omega (arith, ids.0),
      may_open t.key t.table_id.slots c.exchange-was.new.seat.id c.exchange-was.new.seat.me c.load.new.seat.me c.args.core c.args.many
          c.args.shared.now.case.now c.args.seats c.requires.case c.requires.seats
          (fetched p.me c.load.new.seat.me c.args.shared.now.case.now c.args.seats l.2 c.requires.blank) e.3 c.requires.many
          c.requires.some (omega (arith, ids.1)) c.requires.lawful c.requires.right,
    )

use Rattle.std.proofs.Common.{arith}
use Rattle.shared_book.proofs.Told.{may_append, turn_appended}
use Rattle.shared_book.proofs.slots.append.Goals as goal

pub fetch_add-requires : goal.fetch_add-requires
fetch_add-requires g c =
    let ids = c.args.shared.now.sized in
    let table = c.args.shared.now.table.shared in
    let s = c.args.place.now in
    let r = c.requires.grown in
    let few = r.lawful.few in
    let most = r.lawful.limit in (
      c.home.ensures.table,
      omega (arith, ids.0),
      may_append table.key table.table_id.slots c.home.new.place.id c.home.new.place.me s.me.0 c.args.core c.home.ensures.view
          c.requires.out.turn c.requires.live r.next (omega (arith, few, most)) r.lawful r.limit r.told,
    )

pub returns-clause-turn : goal.returns-clause-turn
returns-clause-turn g c =
    turn_appended c.args.place.now.me c.home.new.place.me c.fetch_add.new.seat.me c.args.core c.home.ensures.view
    c.fetch_add.ensures.2.2 c.requires.out.turn c.requires.grown

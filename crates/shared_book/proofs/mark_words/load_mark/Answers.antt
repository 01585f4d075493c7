use Rattle.std.proofs.Common.{◌+◌, ◌-◌, ◌≡◌, ◌≤◌, ◌∙◌, ap, subst, arith}
use Rattle.watermark.specs.Marks.{mark_of}
use Rattle.shared_book.specs.Places.{with_mark_loaded}
use Rattle.shared_book.proofs.Told.{may_load_mark}
use Rattle.shared_book.proofs.mark_words.load_mark.Goals as goal

pub load-requires : goal.load-requires
load-requires g c =
    let ids = c.args.shared.now.sized in
    let table = c.args.shared.now.table.shared in
    let s = c.args.place.now in
    let few = c.requires.there in (
      c.requires.table,
      omega (arith, ids.0, few),
      may_load_mark table.key table.table_id.slots s.id c.args.interval s.me c.requires.live,
    )

pub returns-clause-view : goal.returns-clause-view
returns-clause-view g c =
    let s = c.args.place.now in
    let less : c.args.interval + 3 - 3 ≡ c.args.interval = omega arith in
    c.load.ensures.2.3 ∙ ap (λ k. (with_mark_loaded s.me.0 k c.load.result, s.me.1)) less

pub returns-clause-rises : goal.returns-clause-rises
returns-clause-rises g c =
    let less : c.args.interval + 3 - 3 ≡ c.args.interval = omega arith in
    subst (λ k. mark_of c.args.place.now.me.0.marks k ≤ c.load.result) less c.load.ensures.2.2

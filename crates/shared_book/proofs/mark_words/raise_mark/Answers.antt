use Rattle.std.proofs.Common.{◌+◌, ◌-◌, ◌≡◌, ◌≤◌, ◌∙◌, sym, subst, arith}
use Rattle.watermark.specs.Marks.{mark_of}
use Rattle.shared_book.specs.Places.{with_mark_loaded}
use Rattle.shared_book.proofs.Told.{may_raise_mark}
use Rattle.shared_book.proofs.mark_words.raise_mark.Goals as goal

pub fetch_max-found-requires : goal.fetch_max-found-requires
fetch_max-found-requires g c =
    let ids = c.args.shared.now.sized in
    let table = c.args.shared.now.table.shared in
    let s = c.args.place.now in
    let lease = c.args.lease.now in
    let i = c.interval-interval.result in
    let same : i ≡ lease.interval = c.interval-interval.ensures in
    let there = c.requires.there in (
      c.requires.table,
      omega (arith, ids.0, there, same),
      may_raise_mark table.key table.table_id.slots s.id i c.args.mark s.me lease c.requires.live (sym same)
          (omega (arith, there, same)) c.requires.may,
    )

pub returns-clause-view : goal.returns-clause-view
returns-clause-view g c =
    let s = c.args.place.now in
    let i = c.interval-interval.result in
    let same : i ≡ c.args.lease.now.interval = c.interval-interval.ensures in
    let less : i + 3 - 3 ≡ c.args.lease.now.interval = omega (arith, same) in
    c.fetch_max-found.ensures.2.3
    ∙ (λ k. (with_mark_loaded s.me.0 (less k) (sym c.max.ensures k), s.me.1))

pub returns-clause-rises : goal.returns-clause-rises
returns-clause-rises g c =
    let i = c.interval-interval.result in
    let same : i ≡ c.args.lease.now.interval = c.interval-interval.ensures in
    let less : i + 3 - 3 ≡ c.args.lease.now.interval = omega (arith, same) in
    let rises : mark_of c.args.place.now.me.0.marks c.args.lease.now.interval ≤ c.fetch_max-found.result =
    subst (λ k. mark_of c.args.place.now.me.0.marks k ≤ c.fetch_max-found.result) less c.fetch_max-found.ensures.2.1 in
    let top = c.max.ensures in
    omega (arith, rises, top)

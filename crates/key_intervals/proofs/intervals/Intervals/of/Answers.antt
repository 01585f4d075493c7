use Rattle.std.proofs.Common.{◌≡◌, ◌∙◌, length, map, arith, ap, subst, sym}
use Rattle.std.proofs.lemmas.Grind.{common_steps}
use Rattle.key_intervals.specs.declared.TheConstants.{INTERVALS_MAX}
use Rattle.key_intervals.specs.Intervals.{bounds_of}
use Rattle.key_intervals.specs.Division.{fresh, AreDivided}
use Rattle.key_intervals.specs.Index.{orders_from, AreOrders}
use Rattle.key_intervals.proofs.First.{first-divided}
use Rattle.key_intervals.proofs.FirstOrders.{first-orders, length-orders_from}
use Rattle.key_intervals.proofs.Steps.{room-left}
use Rattle.key_intervals.proofs.intervals.Intervals.of.Goals as goal

pub push_part-requires : goal.push_part-requires
push_part-requires c = record {
  few = room-left c.args.parts.now c.loop-part.all.items c.loop-part.part-index INTERVALS_MAX c.part-item.result c.loop-part-test.true
      c.part-item.is c.loop-part.invariant.all c.requires.few;
}

pub invariant_of-result : goal.invariant_of-result
invariant_of-result c =
    let parts = c.args.parts.now in
    let whole : map fresh (bounds_of parts) ≡ c.loop-part.all.items = grind (arith, common_steps, c.loop-part.invariant.all) in
    let orders : orders_from 0 parts ≡ c.loop-part.orders.items = grind (arith, common_steps, c.loop-part.invariant.orders) in
    let many : length parts ≡ length c.loop-part.orders.items = sym (length-orders_from 0 parts) ∙ ap length orders in (
      subst (λ n. AreDivided n c.loop-part.all.items) many
          (subst (AreDivided (length parts)) whole (first-divided parts c.requires.numbered c.requires.cuts c.requires.few)),
      subst (AreOrders c.loop-part.all.items) orders
          (subst (λ all. AreOrders all (orders_from 0 parts)) whole (first-orders parts c.requires.numbered c.requires.cuts)),
    )

pub returns-clause-parts : goal.returns-clause-parts
returns-clause-parts c =
    let parts = c.args.parts.now in
    let orders : orders_from 0 parts ≡ c.loop-part.orders.items = grind (arith, common_steps, c.loop-part.invariant.orders) in
    sym (ap length orders) ∙ length-orders_from 0 parts

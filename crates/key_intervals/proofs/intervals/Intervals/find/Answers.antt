use Rattle.std.proofs.Common.{◌<◌, length, get_or, ap, sym, subst}
use Rattle.key_intervals.specs.Division.{Division, HasLive}
use Rattle.key_intervals.specs.Index.{IsLastBegun}
use Rattle.key_intervals.proofs.Found.{all-given, has-place, only-place, order-there, some-given}
use Rattle.key_intervals.proofs.intervals.Intervals.find.Goals as goal

pub last_begun-place-requires-clause-some : goal.last_begun-place-requires-clause-some
last_begun-place-requires-clause-some c =
    let given = c.self.inside.all.items in
    let orders = c.self.inside.orders.items in
    let name = c.args.name.now in
    let there = subst (λ (d : Division). name.part < d.parts) (sym c.self.view_is) c.requires.part in
    some-given (length orders) given c.numbers-numbers.result.now name c.self.invariant.0
    (order-there given orders name.part c.index.result.now c.numbers-numbers.result.now c.self.invariant.1 there c.index.ensures
    c.numbers-numbers.ensures) there

pub last_begun-place-requires-clause-there : goal.last_begun-place-requires-clause-there
last_begun-place-requires-clause-there c =
    let given = c.self.inside.all.items in
    let orders = c.self.inside.orders.items in
    let name = c.args.name.now in
    let there = subst (λ (d : Division). name.part < d.parts) (sym c.self.view_is) c.requires.part in
    let within = all-given (length orders) given c.numbers-numbers.result.now name c.self.invariant.0
    (order-there given orders name.part c.index.result.now c.numbers-numbers.result.now c.self.invariant.1 there c.index.ensures
    c.numbers-numbers.ensures) there in
    λ k d less. subst (λ n. get_or c.numbers-numbers.result.now k d < n) (ap length (sym c.as_slice.ensures.value)) (within k d less)

pub returns : goal.returns
returns c =
    let given = c.self.inside.all.items in
    let orders = c.self.inside.orders.items in
    let name = c.args.name.now in
    let numbers = c.numbers-numbers.result.now in
    let place = c.last_begun-place.result in
    let there = subst (λ (d : Division). name.part < d.parts) (sym c.self.view_is) c.requires.part in
    let order = order-there given orders name.part c.index.result.now numbers c.self.invariant.1 there c.index.ensures c.numbers-numbers.ensures in
    let last = subst (λ all. IsLastBegun all numbers name.key place) c.as_slice.ensures.value c.last_begun-place.ensures in
    let has = has-place (length orders) given numbers name c.self.invariant.0 order there place last in
    let only = only-place (length orders) given numbers name c.self.invariant.0 order there place last in record {
      found = subst (λ (d : Division). HasLive d.given (get_or numbers place 0) name) c.self.view_is has;
      only = λ other holds. only other (subst (λ (d : Division). HasLive d.given other name) (sym c.self.view_is) holds);
    }

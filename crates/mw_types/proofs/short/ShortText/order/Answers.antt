use Rattle.std.proofs.Common.{arith, rules, ◌≡◌, ◌∙◌, sym, length}
use Rattle.std.specs.Ordering.{nat_cmp}
use Rattle.mw_types.proofs.Fronts.{IsFront-8, slice_cmp-unlike, slice_cmp-alike}
use Rattle.mw_types.proofs.short.ShortText.order.Goals as goal

pub returns-then-one-two : goal.returns-then-one-two
returns-then-one-two c =
    let one = c.front-one.ensures in
    let two = c.front-two.ensures in
    let left = IsFront-8 _ _ _ _ _ c.self.view_is c.self.invariant.3 one.bytes one.number in
    let right = IsFront-8 _ _ _ _ _ c.other.view_is c.other.invariant.3 two.bytes two.number in
    c.cmp.ensures ∙ slice_cmp-unlike 8 _ _ _ _ left right c.if-one-two.true

pub returns-then-min-le8 : goal.returns-then-min-le8
returns-then-min-le8 c =
    let one = c.front-one.ensures in
    let two = c.front-two.ensures in
    let left = IsFront-8 _ _ _ _ _ c.self.view_is c.self.invariant.3 one.bytes one.number in
    let right = IsFront-8 _ _ _ _ _ c.other.view_is c.other.invariant.3 two.bytes two.number in
    let long : length c.args.self.now ≡ c.self.inside.len = search rules in
    let wide : length c.args.other.now ≡ c.other.inside.len = search rules in
    c.cmp-then-min-le8.ensures ∙ sym (λ i. nat_cmp (long i) (wide i))
    ∙ slice_cmp-alike 8 _ _ _ _ left right c.if-one-two.false (omega (arith, long, wide, c.min.ensures, c.if-min-le8.true))

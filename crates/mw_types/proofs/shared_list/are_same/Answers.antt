use Rattle.std.proofs.Common.{rules, sym, ◌∙◌, arith, false, true, ◌≡◌}
use Rattle.mw_types.proofs.Pairs.{pointwise-drop, pointwise-drop_equal}
use Rattle.mw_types.proofs.shared_list.are_same.Goals as goal

-- a pair differs
pub returns-then-ne : goal.returns-then-ne
returns-then-ne g c =
    let step = pointwise-drop g.X.PartialEq.eq c.args.a.now c.args.b.now c.loop-at.at c.in-Some-Some.x.now c.in-Some-Some.y.now (sym c.in-Some-Some.ensures.element) (sym c.in-Some-Some.ensures'.element) in
    let pair : g.X.PartialEq.eq c.in-Some-Some.x.now c.in-Some-Some.y.now ≡ false = search rules in
    grind (arith, c.loop-at.invariant, step, pair)

-- a pair is equal
pub loop-at-preserved : goal.loop-at-preserved
loop-at-preserved g c =
    let pair : g.X.PartialEq.eq c.in-Some-Some.x.now c.in-Some-Some.y.now ≡ true = search rules in
    c.loop-at.invariant ∙ pointwise-drop_equal g.X.PartialEq.eq c.args.a.now c.args.b.now c.loop-at.at c.in-Some-Some.x.now c.in-Some-Some.y.now (sym c.in-Some-Some.ensures.element) (sym c.in-Some-Some.ensures'.element) pair

use Rattle.std.proofs.Common.{rules, take, drop, sym}
use Rattle.std.proofs.lemmas.List.{take-append-drop}
use Rattle.mw_types.proofs.Sides.{insert-right}
use Rattle.mw_types.proofs.tree.leaf_with_more.Goals as goal

pub returns-else-at-half : goal.returns-else-at-half
returns-else-at-half g c =
    let half = c.if-at-xs.half in
    let on_right = insert-right c.args.xs.now (take half c.args.xs.now) (drop half c.args.xs.now) half c.args.at (sym (take-append-drop half c.args.xs.now)) (search rules) c.args.x (search rules) in
    search rules

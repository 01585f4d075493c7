use Rattle.std.proofs.Common.{rules, ◌≡◌, ◌++◌}
use Rattle.mw_types.proofs.Sides.{drop-right}
use Rattle.mw_types.proofs.tree.Tree.+run_at.Goals as goal

pub returns-else-at-here-clause-here : goal.returns-else-at-here-clause-here
returns-else-at-here-clause-here g t c =
    let whole : c.args.self.now.0 ≡ c.in-Fork.left.value.0 ++ c.in-Fork.right.value.0 = search rules in
    let on_right = drop-right c.args.self.now.0 c.in-Fork.left.value.0 c.in-Fork.right.value.0 c.len-here.result c.args.at whole (search rules) (search rules) in
    search rules

use Rattle.std.proofs.Common.{rules, ◌≡◌, ◌++◌}
use Rattle.mw_types.proofs.Sides.{slice_set-left, slice_set-right}
use Rattle.mw_types.proofs.tree.Tree.+with_other.Goals as goal

pub returns-in_ok-left-in-Fork : goal.returns-in_ok-left-in-Fork
returns-in_ok-left-in-Fork g t c =
    let whole : c.args.self.now.0 ≡ c.in-Fork.left.value.0 ++ c.in-Fork.right.value.0 = search rules in
    let on_left = slice_set-left c.args.self.now.0 c.in-Fork.left.value.0 c.in-Fork.right.value.0 c.len-here.result c.args.at whole (search rules) c.args.x (search rules) in
    search rules

pub returns-in_ok-right-in-Fork : goal.returns-in_ok-right-in-Fork
returns-in_ok-right-in-Fork g t c =
    let whole : c.args.self.now.0 ≡ c.in-Fork.left.value.0 ++ c.in-Fork.right.value.0 = search rules in
    let on_right = slice_set-right c.args.self.now.0 c.in-Fork.left.value.0 c.in-Fork.right.value.0 c.len-here.result c.args.at whole (search rules) c.args.x (search rules) in
    search rules

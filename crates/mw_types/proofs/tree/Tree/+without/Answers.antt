use Rattle.std.proofs.Common.{rules, ◌≡◌, ◌++◌}
use Rattle.mw_types.proofs.Sides.{remove-right, remove-left_only}
use Rattle.mw_types.proofs.tree.Tree.+without.Goals as goal

pub returns-then-here-eq1 : goal.returns-then-here-eq1
returns-then-here-eq1 g t c =
    let whole : c.args.self.now.0 ≡ c.in-Fork.left.value.0 ++ c.in-Fork.right.value.0 = search rules in
    let gone = remove-left_only c.args.self.now.0 c.in-Fork.left.value.0 c.in-Fork.right.value.0 c.args.at whole (search rules) (search rules) in
    search rules

pub returns-in_ok-right-in-Fork : goal.returns-in_ok-right-in-Fork
returns-in_ok-right-in-Fork g t c =
    let whole : c.args.self.now.0 ≡ c.in-Fork.left.value.0 ++ c.in-Fork.right.value.0 = search rules in
    let on_right = remove-right c.args.self.now.0 c.in-Fork.left.value.0 c.in-Fork.right.value.0 c.len-here.result c.args.at whole (search rules) (search rules) in
    search rules

use Rattle.std.proofs.Common.{length}
use Rattle.mw_types.proofs.tree.+tree_of.Given as goal

abbrev pub decreases-tree_of : goal.decreases-tree_of
decreases-tree_of g l = length l.xs.now

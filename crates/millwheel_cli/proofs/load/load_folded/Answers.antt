use Rattle.std.proofs.lemmas.Result.{IfOk-weaker}
use Rattle.millwheel_cli.proofs.Foldings.{left_folds, load_left}
use Rattle.millwheel_cli.proofs.load.load_folded.Goals as goal

-- all of it is left
pub returns-clause-taken : goal.returns-clause-taken
returns-clause-taken c =
    IfOk-weaker c.topology_of.result _ _ (λ folded is. load_left _ folded.topology folded.routes c.load_topology.ensures is)
    c.topology_of.ensures.left

-- by folding
pub returns-clause-folding : goal.returns-clause-folding
returns-clause-folding c =
    IfOk-weaker c.topology_of.result _ _ (λ folded is. left_folds 1 _ folded.topology folded.routes is) c.topology_of.ensures.left

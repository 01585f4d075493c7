use Rattle.std.proofs.Common.{rules, ◌≡◌, refl, subst, sym}
use Rattle.std.specs.Prelude.{IfOk, None}
use Rattle.node.specs.FireSteps.{AreAllWithin, IsTimerToFire}
use Rattle.node.specs.Workers.{NodeView}
use Rattle.node.proofs.FitLaws.{node_in}
use Rattle.node.proofs.node.Node.to_fire.Goals as goal

-- the rows that are cached lie in their intervals
pub first_due-requires : goal.first_due-requires
first_due-requires g c = record {
  within = subst (λ (n : NodeView). AreAllWithin c.args.case.now.topology n.held) (sym c.self.view_is) c.requires.within;
}

-- the least timer of the part, where it is due
pub returns-clause-found : goal.returns-clause-found
returns-clause-found g c =
    let node : NodeView = node_in c.self.inside in
    let free : node.prepared ≡ None = search rules in
    subst (λ (n : NodeView). IfOk c.first_due.result (IsTimerToFire c.args.case.now.topology n c.args.part c.args.mark)) c.self.view_is
    (c.first_due.ensures.found node refl free)

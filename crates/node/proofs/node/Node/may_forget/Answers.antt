use Rattle.std.proofs.Common.{rules, ◌≡◌, subst, refl}
use Rattle.std.specs.Prelude.{None, Some}
use Rattle.holdings.specs.Holding.{held_at}
use Rattle.node.specs.Asking.{forgetting}
use Rattle.node.specs.PurgeSteps.{CanForget}
use Rattle.node.specs.Workers.{NodeView}
use Rattle.node.proofs.FitLaws.{node_in}
use Rattle.node.proofs.PurgeLaws.{held-on-at}
use Rattle.node.proofs.node.Node.may_forget.Goals as goal

-- nothing is prepared, and the row has ids to forget
pub returns-in-Some-clause-may : goal.returns-in-Some-clause-may
returns-in-Some-clause-may g c is =
    let shape = c.args.case.now.topology in
    let node : NodeView = node_in c.self.inside in
    let free : c.self.inside.prepared ≡ None = search rules in
    let at : held_at node.held c.interval_of.result ≡ Some c.in-Some.held.now = search rules in
    subst (λ (n : NodeView). CanForget shape n c.args.least c.args.floor c.args.name.now) c.self.view_is (
      forgetting c.in-Some.held.now c.args.name.now c.args.floor,
      record {
        free = free;
        held = c.in-Some.held.now;
        there = held-on-at shape node.held c.args.name.now c.interval_of.result c.in-Some.held.now c.interval_of.ensures.interval at;
        forgets = (c.has_to_forget.ensures shape).0 is;
        request = refl;
      },
    )

use Rattle.std.proofs.Common.{rules, ◌≡◌, subst, sym}
use Rattle.std.specs.Prelude.{IsSome, None, Some}
use Rattle.mw_types.specs.declared.identity.RowName.{RowName}
use Rattle.holdings.specs.Holding.{held_at}
use Rattle.node.specs.PurgeSteps.{AreRowsWithin, IsToPurge}
use Rattle.node.specs.Workers.{NodeView}
use Rattle.node.proofs.FitLaws.{node_in}
use Rattle.node.proofs.FirstLaws.{next-purge-held}
use Rattle.node.proofs.node.Node.to_purge.Goals as goal

-- the first row that may forget ids
pub returns-in_ok-copy-in-Some : goal.returns-in_ok-copy-in-Some
returns-in_ok-copy-in-Some g c =
    let shape = c.args.case.now.topology in
    let node : NodeView = node_in c.self.inside in
    let free : node.prepared ≡ None = search rules in
    let there : IsSome (held_at node.held c.args.interval) = search rules in
    let within = subst (λ (n : NodeView). AreRowsWithin shape c.args.interval (held_at n.held c.args.interval)) (sym
    c.self.view_is) c.requires.within in
    let found : IsToPurge shape c.args.self.now c.args.interval c.args.least c.args.floor (Some c.in-Some.name.now) =
    subst (λ (n : NodeView). IsToPurge shape n c.args.interval c.args.least c.args.floor (Some c.in-Some.name.now)) c.self.view_is
    (next-purge-held shape node c.args.interval c.args.least c.args.floor (Some c.in-Some.name.now) free there within
    c.in-Some.ensures.first) in
    record {
      found = subst (λ (n : RowName). IsToPurge shape c.args.self.now c.args.interval c.args.least c.args.floor (Some n))
          (sym c.in_ok-copy-in-Some.ensures.copied) found;
    }

-- where there is none
pub returns-in-None : goal.returns-in-None
returns-in-None g c =
    let shape = c.args.case.now.topology in
    let node : NodeView = node_in c.self.inside in
    let free : node.prepared ≡ None = search rules in
    let there : IsSome (held_at node.held c.args.interval) = search rules in
    let within = subst (λ (n : NodeView). AreRowsWithin shape c.args.interval (held_at n.held c.args.interval)) (sym
    c.self.view_is) c.requires.within in
    let found : IsToPurge shape c.args.self.now c.args.interval c.args.least c.args.floor (None) =
    subst (λ (n : NodeView). IsToPurge shape n c.args.interval c.args.least c.args.floor (None)) c.self.view_is
    (next-purge-held shape node c.args.interval c.args.least c.args.floor (None) free there within c.in-None.ensures.first) in
    record { found = found }

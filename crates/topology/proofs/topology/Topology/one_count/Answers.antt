use Rattle.std.proofs.Common.{sym, subst}
use Rattle.topology.specs.Rules.{IsTopology}
use Rattle.topology.proofs.Samples.{one_count-is_topology}
use Rattle.topology.proofs.topology.Topology.one_count.Goals as goal

pub of-requires : goal.of-requires
of-requires c = subst IsTopology (sym c.in_ok-parts.ensures) (one_count-is_topology c.args.size (c.requires.some, c.requires.most))

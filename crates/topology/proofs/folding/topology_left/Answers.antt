use Rattle.std.proofs.Common.{sym, subst}
use Rattle.topology.specs.Rules.{IsTopology}
use Rattle.topology.proofs.WhatIsLeft.{folded-topology}
use Rattle.topology.proofs.folding.topology_left.Goals as goal

pub of-requires : goal.of-requires
of-requires c = subst IsTopology (sym c.in_ok-left.ensures) (folded-topology c.args.parts.now c.requires.rules)

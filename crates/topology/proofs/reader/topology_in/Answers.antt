use Rattle.std.proofs.Common.{rules, ◌≡◌, ◌∙◌, true, sym, subst}
use Rattle.std.proofs.lemmas.Bool.{cond-true}
use Rattle.topology.specs.Rules.{IsTopology}
use Rattle.topology.specs.Folding.{is_foldable}
use Rattle.topology.proofs.RulesHold.{checked-is_topology}
use Rattle.topology.proofs.reader.topology_in.Goals as goal

pub of-requires : goal.of-requires
of-requires c =
    let file = c.args.file.now in
    let foldable : is_foldable file ≡ true = search rules in
    let passed = c.in_ok-check.ensures.kept ∙ cond-true (is_foldable file) _ _ foldable in
    subst IsTopology (sym c.in_ok-parts.ensures) (checked-is_topology file file c.requires passed)

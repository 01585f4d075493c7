use Rattle.std.proofs.Common.{rules}
use Rattle.topology.proofs.FewWays.{none-with_first}
use Rattle.topology.proofs.strong_parts.+strong_from.Goals as goal

pub returns-in_default-2 : goal.returns-in_default-2
returns-in_default-2 t c =
    none-with_first c.args.number c.args.computations.now c.in-Some.first.now c.in-Some.rest.now
    (search rules) c.requires.reading (search rules)

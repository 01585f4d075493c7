use Rattle.std.proofs.lemmas.Result.{IfOk-weaker}
use Rattle.millwheel_cli.proofs.Foldings.{held_left}
use Rattle.millwheel_cli.proofs.reading.read_topology.Goals as goal

-- what is left of the bytes is left of the file
pub returns-clause-left : goal.returns-clause-left
returns-clause-left g c =
    let read = c.in_ok-bytes.ensures in
    IfOk-weaker c.topology_of.result _ _
    (λ folded is. held_left _ c.args.name.now _ _ c.args.count folded.topology folded.routes c.as_slice.ensures.elements read.content
    read.within is) c.topology_of.ensures.left

use Rattle.std.proofs.Common.{◌≡◌, ◌++◌, map, take}
use Rattle.topology.proofs.publishers.add_names.Given as goal

-- the names of the parts that are done stand behind those that were there
abbrev pub invariant-loop-part : goal.invariant-loop-part
invariant-loop-part g l = l.names ≡ l.fn.names ++ map g.P.Publisher.called (take l.part-index l.parts)

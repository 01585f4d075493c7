use Rattle.std.proofs.Common.{◌≡◌, ◌++◌, map, take}
use Rattle.topology.proofs.publishers.add_streams.Given as goal

-- the streams of the parts that are done stand behind those that were there
abbrev pub invariant-loop-part : goal.invariant-loop-part
invariant-loop-part g l = l.streams ≡ l.fn.streams ++ map g.P.Publisher.published (take l.part-index l.parts)

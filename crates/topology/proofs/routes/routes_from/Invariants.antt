use Rattle.std.proofs.Common.{◌≡◌, ◌++◌, drop}
use Rattle.topology.specs.Folding.{routes_to}
use Rattle.topology.proofs.routes.routes_from.Given as goal

-- the routes to the rest make it all
abbrev pub invariant-loop-reader : goal.invariant-loop-reader
invariant-loop-reader l = l.routes ++ routes_to (drop l.reader-index l.readers) l.stream ≡ routes_to l.readers l.stream

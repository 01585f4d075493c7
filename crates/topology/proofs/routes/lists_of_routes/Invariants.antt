use Rattle.std.proofs.Common.{◌≡◌, take}
use Rattle.topology.proofs.routes.lists_of_routes.Given as goal

-- what was gone through is copied
abbrev pub invariant-loop-routes : goal.invariant-loop-routes
invariant-loop-routes l = l.copied ≡ take l.routes-index l.by_part

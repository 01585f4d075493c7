use Rattle.std.proofs.Common.{◌≡◌, take}
use Rattle.topology.proofs.routes.list_of_routes.Given as goal

-- what was gone through is copied
abbrev pub invariant-loop-route : goal.invariant-loop-route
invariant-loop-route l = l.copied ≡ take l.route-index l.routes

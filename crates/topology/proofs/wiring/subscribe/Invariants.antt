use Rattle.std.proofs.Common.{◌≡◌, ◌++◌, drop}
use Rattle.topology.specs.Kept.{subscriptions_by}
use Rattle.topology.proofs.wiring.subscribe.Given as goal

-- with the subscriptions of the readings that are left, those of all readings
abbrev pub invariant-loop-reading : goal.invariant-loop-reading
invariant-loop-reading l =
    l.found ++ subscriptions_by l.stream l.to (drop l.reading-index l.reads) ≡ l.initial.found ++ subscriptions_by l.stream l.to l.reads

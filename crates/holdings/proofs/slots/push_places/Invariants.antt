use Rattle.std.proofs.Common.{◌≡◌, ◌++◌}
use Rattle.std.specs.List.{flat_map}
use Rattle.holdings.specs.Pendings.{sent_in}
use Rattle.holdings.specs.Slots.{AreWithin, placed}
use Rattle.holdings.proofs.slots.push_places.Given as goal

-- what is there and what is left are together what is owed
abbrev pub invariant-loop-name : goal.invariant-loop-name
invariant-loop-name l = AreWithin l.rows l.name-iterator × (l.sent ++ flat_map sent_in (placed l.rows l.name-iterator) ≡ l.fn.sent ++ flat_map sent_in (placed l.rows l.places.entries))

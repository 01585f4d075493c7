use Rattle.std.proofs.Common.{◌≡◌, [], replicate}
use Rattle.world.proofs.scripts.relays.new_relays.Given as goal

-- the relays so far hold no id
abbrev pub invariant-loop-number : goal.invariant-loop-number
invariant-loop-number l = l.relays.items ≡ replicate l.number []

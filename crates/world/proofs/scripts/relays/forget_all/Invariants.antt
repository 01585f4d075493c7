use Rattle.std.proofs.Common.{◌≡◌, [], length, replicate, take}
use Rattle.world.proofs.scripts.relays.forget_all.Given as goal

-- the relays so far hold no id, and there are as many as before
abbrev pub invariant-loop-number : goal.invariant-loop-number
invariant-loop-number l =
    (length l.relays.items ≡ length l.initial.relays.items) × (take l.number l.relays.items ≡ replicate l.number [])

use Rattle.std.proofs.Common.{◌≡◌, take}
use Rattle.mw_types.proofs.memory.Duplicate.copy_all.Given as goal

-- the copies so far are the elements so far
abbrev pub invariant-loop-item : goal.invariant-loop-item
invariant-loop-item g l = l.all.items ≡ take l.item-index l.items

use Rattle.std.proofs.Common.{All, take}
use Rattle.row_parts.proofs.ChangeLaws.{HasKeys}
use Rattle.row_parts.proofs.deliveries.have_keys.Given as goal

-- the keys of those so far
abbrev pub invariant-loop-delivery : goal.invariant-loop-delivery
invariant-loop-delivery l = All HasKeys (take l.delivery-index l.deliveries)

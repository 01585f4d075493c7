use Rattle.std.proofs.Common.{◌≡◌, ◌++◌, All, take}
use Rattle.row_parts.specs.Spelling.{DeliveryFits}
use Rattle.record_codec.specs.Edits.{deliveries_spelling}
use Rattle.record_codec.proofs.encode.put_deliveries.Given as goal

-- the bytes of those so far are appended
abbrev pub invariant-loop-delivery : goal.invariant-loop-delivery
invariant-loop-delivery l = (l.out.items ≡ l.fn.out.items ++ deliveries_spelling (take l.delivery-index l.deliveries))
    × All DeliveryFits (take l.delivery-index l.deliveries)

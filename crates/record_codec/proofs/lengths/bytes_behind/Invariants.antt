use Rattle.std.proofs.Common.{◌≡◌, ◌+◌, length, take}
use Rattle.record_codec.specs.Edits.{deliveries_spelling}
use Rattle.record_codec.proofs.lengths.bytes_behind.Given as goal

-- those so far are counted
abbrev pub invariant-loop-delivery : goal.invariant-loop-delivery
invariant-loop-delivery l = l.bytes ≡ l.so_far + length (deliveries_spelling (take l.delivery-index l.deliveries))

use Rattle.std.proofs.Common.{All, take}
use Rattle.row_parts.specs.Spelling.{DeliveryFits}
use Rattle.record_codec.proofs.lengths.have_spellings.Given as goal

-- those so far fit
abbrev pub invariant-loop-delivery : goal.invariant-loop-delivery
invariant-loop-delivery l = All DeliveryFits (take l.delivery-index l.deliveries)

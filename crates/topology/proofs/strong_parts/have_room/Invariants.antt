use Rattle.std.proofs.Common.{◌≡◌, drop, nat_le}
use Rattle.topology.specs.Folding.{way_count}
use Rattle.topology.proofs.strong_parts.have_room.Given as goal

-- they all fit where the rest fits into the room that is left
abbrev pub invariant-loop-reader : goal.invariant-loop-reader
invariant-loop-reader l = nat_le (way_count l.readers) l.room ≡ nat_le (way_count
    (drop l.reader-index l.readers)) l.room_left

use Rattle.std.proofs.Common.{◌≡◌, drop, length, nat_le}
use Rattle.std.specs.Prelude.{sum_by}
use Rattle.topology.specs.Shapes.{ComputationShape}
use Rattle.topology.proofs.file_rules.has_room_for_reads.Given as goal

-- all have room where those that are left have the room that is left
abbrev pub invariant-loop-computation : goal.invariant-loop-computation
invariant-loop-computation l =
    nat_le (sum_by (λ (c : ComputationShape). length c.reads) l.computations) l.room
    ≡ nat_le (sum_by (λ (c : ComputationShape). length c.reads) (drop l.computation-index l.computations)) l.left

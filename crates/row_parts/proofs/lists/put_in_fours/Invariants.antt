use Rattle.std.proofs.Common.{◌≡◌, ◌++◌, length, All}
use Rattle.std.specs.List.{flat_map}
use Rattle.std.specs.Int.{w32, to_be_bytes}
use Rattle.row_parts.proofs.lists.put_in_fours.Given as goal

abbrev pub invariant-loop-rest : goal.invariant-loop-rest
invariant-loop-rest g l = (l.out.items ++ flat_map g.X.Spelled.spelling l.rest
    ≡ (l.fn.out.items ++ to_be_bytes w32 (length l.xs)) ++ flat_map g.X.Spelled.spelling l.xs)
    × (All g.X.Spelled.typed l.rest → All g.X.Spelled.typed l.xs)

abbrev pub decreases-loop-rest : goal.decreases-loop-rest
decreases-loop-rest g l = length l.rest

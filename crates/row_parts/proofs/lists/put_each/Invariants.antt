use Rattle.std.proofs.Common.{◌≡◌, ◌++◌, take, All}
use Rattle.std.specs.List.{flat_map}
use Rattle.row_parts.proofs.lists.put_each.Given as goal

abbrev pub invariant-loop-x : goal.invariant-loop-x
invariant-loop-x g l = (l.out.items ≡ l.fn.out.items ++ flat_map g.X.Spelled.spelling
    (take l.x-index l.xs)) × All g.X.Spelled.typed (take l.x-index l.xs)

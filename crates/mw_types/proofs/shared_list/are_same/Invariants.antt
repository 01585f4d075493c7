use Rattle.std.proofs.Common.{◌≡◌, drop}
use Rattle.std.specs.Cmp.Lexicographic.{pointwise}
use Rattle.mw_types.proofs.shared_list.are_same.Given as goal

-- what is left decides
abbrev pub invariant-loop-at : goal.invariant-loop-at
invariant-loop-at g l = pointwise g.X.PartialEq.eq l.a l.b ≡ pointwise g.X.PartialEq.eq (drop l.at l.a) (drop l.at l.b)

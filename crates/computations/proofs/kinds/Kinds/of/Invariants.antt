use Rattle.std.proofs.Common.{◌≡◌, All, ◌-◌, ◌≤◌, take}
use Rattle.mw_types.specs.Kinds.{IsKind}
use Rattle.computations.proofs.kinds.Kinds.of.Given as goal

-- the kinds so far are the first ones of the table, and in range
abbrev pub invariant-loop-part : goal.invariant-loop-part
invariant-loop-part g l = record {
  begun : l.injectors ≤ l.part;
  taken : l.kinds ≡ take (l.part - l.injectors) (g.T.KindTable.kinds l.table);
  within : All IsKind l.kinds;
}

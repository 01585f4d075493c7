use Rattle.std.proofs.Common.{List, map, subst, sym}
use Rattle.row_keeper.specs.Rows.{AreInOrder, entry_of}
use Rattle.row_keeper.specs.declared.keeper.KeptRow.{KeptRow}
use Rattle.row_keeper.proofs.Shown.{lying_covered, lying_ascending}
use Rattle.row_keeper.proofs.lying_keeper.LyingKeeperKeeper.scan.Goals as goal

-- what is shown lies in the interval
pub returns-clause-covered : goal.returns-clause-covered
returns-clause-covered c =
    lying_covered c.args.bounds.now c.as_slice.result.now c.in_ok-shown.field-0 c.in_ok-shown.ensures

-- and stands in order, as the keeper's rows do
pub returns-clause-ascending : goal.returns-clause-ascending
returns-clause-ascending c =
    lying_ascending c.args.bounds.now c.as_slice.result.now c.in_ok-shown.field-0
    (subst (λ (rows : List KeptRow). AreInOrder (map entry_of rows)) (sym c.as_slice.ensures.elements) c.self.invariant)
    c.in_ok-shown.ensures

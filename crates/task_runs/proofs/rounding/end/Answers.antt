use Rattle.std.proofs.Common.{◌≡◌, ◌⊎◌, ◌∙◌, Option, Some, [], IfSome, sym, ap, subst}
use Rattle.std.specs.Option.{is_some}
use Rattle.mw_types.specs.Causes.{Rose}
use Rattle.row_keeper.specs.Rows.{Rows}
use Rattle.node.specs.declared.outcome.NodeFault.TheVariants as faults
use Rattle.task_runs.proofs.RoundLaws.{left_as}
use Rattle.task_runs.proofs.rounding.end.Goals as goal

pub returns-clause-keeper_fault : goal.returns-clause-keeper_fault
returns-clause-keeper_fault g c is =
    subst (λ n. (c.args.fault ≡ Some faults.KeeperFault) ⊎ Rose c.args.book.faults n) (sym c.into_parts-keeper.ensures.faults)
    (c.finish-status.ensures.keeper_fault is)

pub returns-clause-left : goal.returns-clause-left
returns-clause-left g c =
    left_as _ _ _ _ _ _ _ c.into_parts-keeper.ensures.rows c.into_parts-keeper.ensures.history c.finish-status.ensures.left

pub returns-clause-none : goal.returns-clause-none
returns-clause-none g c empty =
    subst (λ (found : Option Rows). IfSome found (λ rows. rows ≡ [])) (sym c.into_parts-keeper.ensures.rows)
    (c.finish-status.ensures.none (sym c.into_parts-keeper.ensures.history ∙ empty))

pub returns-clause-tells : goal.returns-clause-tells
returns-clause-tells g c = ap is_some c.into_parts-keeper.ensures.rows ∙ c.finish-status.ensures.tells

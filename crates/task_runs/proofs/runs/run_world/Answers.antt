use Rattle.std.proofs.Common.{◌∙◌, sym, ap, subst}
use Rattle.std.specs.Option.{is_some}
use Rattle.mw_types.specs.Causes.{Rose}
use Rattle.book.specs.Books.{BookView}
use Rattle.task_runs.proofs.Leaving.{same_end}
use Rattle.task_runs.proofs.runs.run_world.Goals as goal

pub returns-clause-keeper_fault : goal.returns-clause-keeper_fault
returns-clause-keeper_fault g c is = subst (λ n. Rose c.args.world.book.faults n)
    (sym (c.into_parts-keeper.ensures.faults ∙ ap (λ (b : BookView). b.faults) c.into_book.ensures.book))
    (c.finish-status.ensures.keeper_fault is)

pub returns-clause-left : goal.returns-clause-left
returns-clause-left g c = same_end _ _ _ _ _ _ _ _
    (c.into_parts-keeper.ensures.rows ∙ ap (λ (b : BookView). b.rows) c.into_book.ensures.book)
    (c.into_parts-keeper.ensures.history ∙ ap (λ (b : BookView). b.history) c.into_book.ensures.book)
    c.finish-status.ensures.left

pub returns-clause-untouched : goal.returns-clause-untouched
returns-clause-untouched g c empty =
    (c.into_parts-keeper.ensures.rows ∙ ap (λ (b : BookView). b.rows) c.into_book.ensures.book)
    ∙ c.finish-status.ensures.untouched
    (sym (c.into_parts-keeper.ensures.history ∙ ap (λ (b : BookView). b.history) c.into_book.ensures.book) ∙ empty)

pub returns-clause-tells : goal.returns-clause-tells
returns-clause-tells g c =
    ap is_some (c.into_parts-keeper.ensures.rows ∙ ap (λ (b : BookView). b.rows) c.into_book.ensures.book)
    ∙ c.finish-status.ensures.tells

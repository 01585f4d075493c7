use Rattle.std.proofs.Common.{◌∙◌, refl, ap, subst}
use Rattle.std.specs.Option.{is_some}
use Rattle.mw_types.specs.Causes.{Rose}
use Rattle.book.specs.Books.{BookView}
use Rattle.world.specs.scripts.Worlds.{empty_world}
use Rattle.task_runs.proofs.Leaving.{same_run, unwanted}
use Rattle.task_runs.proofs.runs.run_book.Goals as goal

pub run_world-requires-clause-case : goal.run_world-requires-clause-case
run_world-requires-clause-case g c = ap (λ (b : BookView). b.case) c.in-Ok-start.ensures.book ∙ c.requires.case

pub run_world-requires-clause-begun : goal.run_world-requires-clause-begun
run_world-requires-clause-begun g c =
    c.in-Ok-start.ensures.empty c.requires.empty c.requires.marks
    ∙ λ i. empty_world (c.in-Ok.ensures.copied i) (c.requires.case i).topology

pub run_world-requires-clause-limit : goal.run_world-requires-clause-limit
run_world-requires-clause-limit g c = ap (λ (b : BookView). b.limit) c.in-Ok-start.ensures.book ∙ c.requires.limit

pub returns-in-Ok-start-clause-keeper_fault : goal.returns-in-Ok-start-clause-keeper_fault
returns-in-Ok-start-clause-keeper_fault g c is = subst (λ (b : BookView). Rose b.faults (g.K.Keeper.faults c.run_world.result.keeper))
    c.in-Ok-start.ensures.book (c.run_world.ensures.keeper_fault is)

pub returns-in-Ok-start-clause-left : goal.returns-in-Ok-start-clause-left
returns-in-Ok-start-clause-left g c =
    same_run _ _ _ _ _ _ _ (ap (λ (b : BookView). b.rows) c.in-Ok-start.ensures.book) c.run_world.ensures.left

pub returns-in-Ok-start-clause-untouched : goal.returns-in-Ok-start-clause-untouched
returns-in-Ok-start-clause-untouched g c empty =
    c.run_world.ensures.untouched empty ∙ ap (λ (b : BookView). b.rows) c.in-Ok-start.ensures.book

pub returns-in-Ok-start-clause-tells : goal.returns-in-Ok-start-clause-tells
returns-in-Ok-start-clause-tells g c = c.run_world.ensures.tells ∙ ap (λ (b : BookView). is_some b.rows) c.in-Ok-start.ensures.book

pub returns-in-Err-clause-left : goal.returns-in-Err-clause-left
returns-in-Err-clause-left g c =
    unwanted _ _ _ c.unworlded-in-Err.ensures.status (record {
      empty = c.unworlded-in-Err.ensures.history ∙ ap (λ (b : BookView). b.history) c.in-Err.ensures.kept_book ∙ c.requires.empty;
      same_rows = c.unworlded-in-Err.ensures.rows ∙ ap (λ (b : BookView). b.rows) c.in-Err.ensures.kept_book;
      unwritten = refl;
    })

-- memory ran out before the world was begun
pub returns-in_default-clause-left : goal.returns-in_default-clause-left
returns-in_default-clause-left g c =
    unwanted _ _ _ c.unworlded.ensures.status (record {
      empty = c.unworlded.ensures.history ∙ c.requires.empty;
      same_rows = c.unworlded.ensures.rows;
      unwritten = refl;
    })

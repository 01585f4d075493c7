use Rattle.std.proofs.Common.{◌∙◌, inl, inr}
use Rattle.mw_types.proofs.CauseLaws.{Rose-before}
use Rattle.task_runs.proofs.Running.{none_kept}
use Rattle.task_runs.proofs.RoundLaws.{rose_after, same_none}
use Rattle.task_runs.proofs.rounding.run_new.Goals as goal

pub returns-clause-keeper_fault : goal.returns-clause-keeper_fault
returns-clause-keeper_fault g c is = elim (c.end.ensures.keeper_fault is) [
  | inl fault ↦ rose_after _ _ _ (c.share-book.ensures.keeper_fault fault) c.end.ensures.keeper_later
  | inr rose ↦ Rose-before _ _ _ c.share-book.ensures.later rose
]

pub returns-clause-left : goal.returns-clause-left
returns-clause-left g c =
    c.end.ensures.left c.args.book.rows (none_kept _ _ c.args.book.rows c.requires.empty c.look.ensures.lawful.held)

pub returns-clause-untouched : goal.returns-clause-untouched
returns-clause-untouched g c empty =
    same_none c.args.book.rows _ (c.end.ensures.tells ∙ c.share-book.ensures.tells)
    (none_kept _ _ c.args.book.rows c.requires.empty c.look.ensures.lawful.held) (c.end.ensures.none empty)

use Rattle.std.proofs.Common.{◌∙◌, rules, subst, sym, List}
use Rattle.mw_types.specs.declared.entry.Entry.{Entry}
use Rattle.node.proofs.KindLaws.{kinds_work}
use Rattle.audit.specs.Keeping.{IsKept}
use Rattle.audit.proofs.KeepingLaws.{followed-empty}
use Rattle.audit.proofs.standings.Standing.new.Goals as goal

-- nothing has happened, and nothing is kept
pub invariant_of-result : goal.invariant_of-result
invariant_of-result c =
    let made = c.in_ok-work.ensures in record {
      work = kinds_work c.args.case.now.topology c.in_ok-work.work (made.injectors ∙ search (rules, c.case.view_is))
          (made.kinds ∙ search (rules, c.case.view_is)) made.within;
      followed = followed-empty c.args.case.now c.new-2.result c.new-2.ensures.empty c.case_is_runnable.ensures.runnable;
      keeps = subst (λ (h : List Entry). IsKept c.args.case.now h c.in_ok-kept.kept) (sym c.new-2.ensures.empty) c.in_ok-kept.ensures;
    }

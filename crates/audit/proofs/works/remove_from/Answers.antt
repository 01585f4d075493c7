use Rattle.audit.proofs.WorkLaws.{stamp-set_less}
use Rattle.audit.proofs.works.remove_from.Goals as goal

pub returns-clause-removed : goal.returns-clause-removed
returns-clause-removed c =
    stamp-set_less c.args.works.now.items c.args.part c.args.stamp c.index_mut.result.now c.remove.new.self c.requires.there
    c.index_mut.ensures.value c.remove.ensures.removed

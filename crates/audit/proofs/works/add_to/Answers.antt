use Rattle.list_lemmas.proofs.Told.{on_ok-map}
use Rattle.audit.proofs.WorkLaws.{stamp-set_more}
use Rattle.audit.proofs.works.add_to.Goals as goal

pub returns-clause-added : goal.returns-clause-added
returns-clause-added c = on_ok-map c.add.result
    (λ added. stamp-set_more c.args.works.now.items c.args.part c.args.stamp c.index_mut.result.now c.add.new.self c.requires.there
    c.index_mut.ensures.value added) c.add.ensures.added

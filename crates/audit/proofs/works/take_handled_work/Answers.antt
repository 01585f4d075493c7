use Rattle.std.proofs.Common.{◌≡◌, ◌≢◌, ◌∙◌, ◌<◌, [], ap, get_or, length, rules, subst}
use Rattle.std.specs.Prelude.{Contains, IfSome, Option, Some}
use Rattle.mw_types.specs.declared.TheConstants.{END}
use Rattle.mw_types.specs.declared.delivery.Delivery.{Delivery}
use Rattle.mw_types.specs.declared.entry.Entry.{Entry}
use Rattle.audit.specs.Waits.{waiting_in}
use Rattle.audit.specs.Works.{mark_of, taken_by}
use Rattle.audit.proofs.works.take_handled_work.Goals as goal

-- what is found is what the entry takes
pub take_work-requires-clause-there : goal.take_work-requires-clause-there
take_work-requires-clause-there c =
    let found : waiting_in c.args.waiting.now.entries c.in-Handle.id ≡ Some c.in-Some.delivery.now = search rules in
    subst (λ (o : Option Delivery). IfSome o (λ d. d.to.part < length c.args.works.now.items))
    (ap (λ (e : Entry). taken_by e c.args.waiting.now.entries) c.in-Handle.is ∙ found) c.requires.there

pub take_work-requires-clause-held : goal.take_work-requires-clause-held
take_work-requires-clause-held c =
    let found : waiting_in c.args.waiting.now.entries c.in-Handle.id ≡ Some c.in-Some.delivery.now = search rules in
    subst (λ (o : Option Delivery). IfSome o (λ d. mark_of d ≢ END → Contains (get_or c.args.works.now.items d.to.part []) (mark_of d)))
    (ap (λ (e : Entry). taken_by e c.args.waiting.now.entries) c.in-Handle.is ∙ found) c.requires.held

use Rattle.std.proofs.Common.{◌≡◌, refl, rules, subst}
use Rattle.std.specs.Prelude.{IfSome, Some}
use Rattle.mw_types.specs.declared.identity.RowName.{RowName}
use Rattle.run_history.specs.Fences.{interval_of}
use Rattle.book.specs.declared.proposal.Proposal.TheVariants as proposals
use Rattle.book.specs.OwnDesks.{own_view}
use Rattle.holdings.specs.Holding.{held_at}
use Rattle.holdings.proofs.HeldRows.{proposed-put}
use Rattle.node.proofs.LineLaws.{next-line}
use Rattle.world.specs.drains.Turns.{HasProposed, worker_of}
use Rattle.world.proofs.drains.CallLaws.{line-asked, line-next}
use Rattle.world.proofs.Results.{ok-then}
use Rattle.world.proofs.drains.injecting.inject_on.Goals as goal

-- the line is the next of its injector
pub put-written-requires-clause-may : goal.put-written-requires-clause-may
put-written-requires-clause-may g c =
    let book = c.args.book.now in
    let name = c.args.name.now in
    let next = line-next book c.args.held.now name.part c.args.line c.requires.at_work c.requires.injector (search rules)
    c.requires.next in
    proposed-put book.case (own_view book) (held_at c.args.held.now c.interval_of-interval.result) name (proposals.Inject c.args.line) refl
    (next-line book.case (worker_of c.args.held.now) name.part c.args.line c.interval_of-interval.result name c.requires.name next
    (search rules)) tt

-- it was asked for
pub returns-clause-asked : goal.returns-clause-asked
returns-clause-asked g c =
    let book = c.args.book.now in
    let new = c.put-written.new.book in
    let all = c.args.held.now in
    let name = c.args.name.now in
    let interval = c.interval_of-interval.result in
    let next = line-next book all name.part c.args.line c.requires.at_work c.requires.injector (search rules) c.requires.next in
    let covers : interval_of book.case.topology name ≡ Some interval = search rules in
    ok-then c.put-written.result (λ unit done. line-asked book new all name.part c.args.line interval next
    (subst (λ (n : RowName). interval_of book.case.topology n ≡ Some interval) c.requires.name covers)
    (subst (λ (n : RowName). IfSome (held_at all interval) (λ here. HasProposed book new here.lease.seq n (proposals.Inject c.args.line)))
    c.requires.name done)) c.put-written.ensures.put

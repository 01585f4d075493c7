use Rattle.std.proofs.Common.{refl, rules}
use Rattle.std.specs.Prelude.{IfSome, OnOk}
use Rattle.book.specs.OwnDesks.{own_view}
use Rattle.book.specs.declared.proposal.Proposal.TheVariants as proposals
use Rattle.holdings.specs.Holding.{held_at}
use Rattle.holdings.proofs.HeldRows.{proposed-put}
use Rattle.node.proofs.FiringLaws.{fire-proposable, firing, may-fire}
use Rattle.world.specs.drains.Turns.{HasProposed, worker_of}
use Rattle.world.proofs.drains.CallLaws.{fire-asked}
use Rattle.world.proofs.Results.{err-any}
use Rattle.world.proofs.drains.firing.write_fire.Goals as goal

-- what its handler left may be written, and it is due
pub put-written-requires-clause-may : goal.put-written-requires-clause-may
put-written-requires-clause-may g c =
    let book = c.args.book.now in
    let name = c.args.found.now.name in
    let timer = c.args.found.now.timer in
    proposed-put book.case (own_view book) (held_at c.args.held.now c.args.interval) name (proposals.Fire timer c.args.mark c.args.effects)
    refl (fire-proposable book.case c.args.held.now c.args.interval name timer c.args.mark c.args.effects c.requires.set
    (c.requires.left c.requires.set)) (record { due = c.requires.next.due; under_marks = c.requires.known })

-- it has fired
pub returns-clause-asked : goal.returns-clause-asked
returns-clause-asked g c =
    let name = c.args.found.now.name in
    let timer = c.args.found.now.timer in
    let done : OnOk c.put-written.result (IfSome (held_at c.args.held.now c.args.interval) (λ here. HasProposed c.args.book.now
    c.put-written.new.book here.lease.seq name (proposals.Fire timer c.args.mark c.args.effects))) = c.put-written.ensures.put in
    fire-asked c.args.book.now c.put-written.new.book c.args.held.now name timer c.args.mark
    c.args.interval c.args.effects c.requires.set c.requires.covers c.requires.next (c.requires.left c.requires.set) (search rules)

-- one that fails was asked for
pub returns-in_err-written-clause-asking : goal.returns-in_err-written-clause-asking
returns-in_err-written-clause-asking g c = err-any c.from_residual.result (λ why full. (
  firing c.args.found.now.name c.args.found.now.timer c.args.mark c.args.effects c.requires.set.held,
  may-fire c.args.book.now.case (worker_of c.args.held.now) c.args.mark c.args.interval c.args.found.now.name c.args.found.now.timer
      c.args.effects c.requires.set c.requires.covers c.requires.next (c.requires.left c.requires.set),
))

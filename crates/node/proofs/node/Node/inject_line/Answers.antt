use Rattle.std.proofs.Common.{◌≡◌, ◌∙◌, ◌<◌, ◌^◌, ◌++◌, ℕ, List, map, ap, subst, sym}
use Rattle.std.specs.Prelude.{All, Some}
use Rattle.mw_types.specs.declared.identity.RowName.{RowName}
use Rattle.topology.specs.Shapes.{Shape}
use Rattle.run_history.specs.Cases.{CaseShape}
use Rattle.run_history.specs.Fences.{interval_of}
use Rattle.book.specs.declared.proposal.Proposal.TheVariants as proposals
use Rattle.holdings.specs.Holding.{held_at}
use Rattle.holdings.proofs.HeldRows.{proposed-put}
use Rattle.outbox.specs.Messages.{IsAddressed, messages_from}
use Rattle.outbox.specs.Outboxes.{numbered}
use Rattle.outbox.specs.declared.outgoing.Outgoing.{Outgoing}
use Rattle.node.specs.Answers.{AnswersAsked, FailsAsked}
use Rattle.node.specs.Asking.{line_asked}
use Rattle.node.specs.Fits.{Fits}
use Rattle.node.specs.LineSteps.{injector_row, line_deliveries}
use Rattle.node.specs.Workers.{NodeView, worker_at}
use Rattle.node.specs.declared.outcome.Outcome.TheVariants as outcomes
use Rattle.node.proofs.CommitLaws.{HoldsWork}
use Rattle.node.proofs.LineLaws.{Fits-injected, answers-injected, answers-uninjected, fails-uninjected, next-line, next-there}
use Rattle.node.proofs.PutLaws.{Fits-put, answers-put, fails-put}
use Rattle.node.proofs.node.Node.inject_line.Goals as goal

-- the injector's row is held, and it is the next line of it
pub put_on-injected-requires-clause-there : goal.put_on-injected-requires-clause-there
put_on-injected-requires-clause-there g c =
    next-there c.args.case.now c.args.self.now c.args.part c.args.line c.interval_of-interval.result c.args.name.now c.requires.name
    c.requires.next c.interval_of-interval.ensures.interval

pub put_on-injected-requires-clause-may : goal.put_on-injected-requires-clause-may
put_on-injected-requires-clause-may g c =
    let case = c.args.case.now in
    let interval = c.interval_of-interval.result in
    proposed-put case (g.D.Desk.view c.args.desk.now) (held_at c.args.self.now.held interval) c.args.name.now
    (proposals.Inject c.args.line) c.requires.fits.of_case
    (next-line case c.args.self.now c.args.part c.args.line interval c.args.name.now c.requires.name c.requires.next
    c.interval_of-interval.ensures.interval) tt

-- the node fits
pub returns-clause-fits : goal.returns-clause-fits
returns-clause-fits g c =
    let case = c.args.case.now in
    let shape = case.topology in
    let part = c.args.part in
    let item = c.in_ok-item.item in
    let interval = c.interval_of-interval.result in
    let old = g.D.Desk.view c.args.desk.now in
    let new = g.D.Desk.view c.put_on-injected.new.desk in
    let was = c.args.self.now in
    let held = c.put_on-injected.new.self.held in
    let made = c.in_ok-made.made.items in
    let named = c.requires.name in
    let topology : c.case.inside.topology ≡ shape = ap (λ (k : CaseShape). k.topology) c.case.view_is in
    let sent : (commit : ℕ) → map (numbered commit) made ≡ messages_from (injector_row part) (line_deliveries shape part item commit) =
    λ commit. c.in_ok-made.ensures.made commit
    ∙ ap (λ (t : Shape). messages_from c.args.name.now (line_deliveries t c.args.name.now.part item commit)) topology
    ∙ ap (λ (n : RowName). messages_from n (line_deliveries shape n.part item commit)) named in
    let addressed = subst (λ (n : RowName). (number : ℕ) → number < 2 ^ 32 → All (IsAddressed shape)
    (messages_from n (line_deliveries shape n.part item number))) named
    (subst (λ (t : Shape). (number : ℕ) → number < 2 ^ 32 → All (IsAddressed t)
    (messages_from c.args.name.now (line_deliveries t c.args.name.now.part item number))) topology c.in_ok-made.ensures.addressed) in
    Fits-put case old new interval c.args.name.now _ made was c.put_on-injected.new.self c.put_on-injected.result
    c.put_on-injected.ensures.put
    (λ commit h fit. subst (λ (l : List Outgoing). Fits case new (record was { held = held; outbox = was.outbox ++ l })) (sym (sent commit))
    (Fits-injected case old new was interval part c.args.line item commit held c.in_ok-item.ensures.item
    (subst (λ (n : RowName). HoldsWork shape old new interval n (proposals.Inject c.args.line) commit was.held held) named h)
    fit c.requires.next.injector c.put_on-injected.ensures.sound addressed c.requires.fits))

-- and answers what was asked
pub returns-clause-answers : goal.returns-clause-answers
returns-clause-answers g c =
    let case = c.args.case.now in
    let shape = case.topology in
    let part = c.args.part in
    let line = c.args.line in
    let item = c.in_ok-item.item in
    let interval = c.interval_of-interval.result in
    let old = g.D.Desk.view c.args.desk.now in
    let new = g.D.Desk.view c.put_on-injected.new.desk in
    let was = c.args.self.now in
    let after = c.put_on-injected.new.self in
    let made = c.in_ok-made.made.items in
    let named = c.requires.name in
    let topology : c.case.inside.topology ≡ shape = ap (λ (k : CaseShape). k.topology) c.case.view_is in
    let sent : (commit : ℕ) → map (numbered commit) made ≡ messages_from (injector_row part) (line_deliveries shape part item commit) =
    λ commit. c.in_ok-made.ensures.made commit
    ∙ ap (λ (t : Shape). messages_from c.args.name.now (line_deliveries t c.args.name.now.part item commit)) topology
    ∙ ap (λ (n : RowName). messages_from n (line_deliveries shape n.part item commit)) named in
    let covers = subst (λ (n : RowName). interval_of shape n ≡ Some interval) named c.interval_of-interval.ensures.interval in
    answers-put case old new interval c.args.name.now _ made was after c.put_on-injected.result
    (λ (n : NodeView). AnswersAsked shape old new (line_asked case was part) (worker_at was) was n) c.put_on-injected.ensures.put
    (λ commit h. subst (λ (l : List Outgoing). AnswersAsked shape old new (line_asked case was part) (worker_at was) was
    (record was { held = after.held; outbox = was.outbox ++ l }) (outcomes.Committed commit)) (sym (sent commit))
    (answers-injected case old new was interval part line item commit after.held c.requires.next covers c.in_ok-item.ensures.item
    c.requires.fits.of_case
    (subst (λ (n : RowName). HoldsWork shape old new interval n (proposals.Inject line) commit was.held after.held) named h)))
    (λ off. answers-uninjected case old new was off.asked after interval part line item off.why c.requires.next covers
    c.in_ok-item.ensures.item c.requires.fits off.looked off.reason off.kept off.left)

-- or fails as the desk does
pub returns-clause-fault : goal.returns-clause-fault
returns-clause-fault g c =
    let case = c.args.case.now in
    let interval = c.interval_of-interval.result in
    let old = g.D.Desk.view c.args.desk.now in
    let new = g.D.Desk.view c.put_on-injected.new.desk in
    let was = c.args.self.now in
    let covers = subst (λ (n : RowName). interval_of case.topology n ≡ Some interval) c.requires.name c.interval_of-interval.ensures.interval in
    fails-put case old new interval c.args.name.now _ c.in_ok-made.made.items was c.put_on-injected.new.self c.put_on-injected.result
    (FailsAsked old new (line_asked case was c.args.part)) c.put_on-injected.ensures.put
    (λ off. fails-uninjected case old new was interval c.args.part c.args.line c.in_ok-item.item off.why c.requires.next
    covers c.in_ok-item.ensures.item off.reason)

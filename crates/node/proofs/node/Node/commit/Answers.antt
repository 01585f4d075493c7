use Rattle.std.proofs.Common.{◌≡◌, ◌∙◌, ap, subst, sym, refl}
use Rattle.std.specs.Prelude.{IfErr, IfOk, IsSome, OnErr, Option, Some, Result}
use Rattle.computations.specs.Handlers.{OfRecord}
use Rattle.history_laws.proofs.Caused.{IsOutcome-does}
use Rattle.holdings.specs.Holding.{HeldView, IsRefusedOf, row_held}
use Rattle.node.specs.declared.outcome.NodeFault.{NodeFault}
use Rattle.node.specs.declared.outcome.Outcome.{Outcome}
use Rattle.node.specs.declared.outcome.Outcome.TheVariants as outcomes
use Rattle.node.specs.Answers.{AnswersAsked, FailsAsked, HasGrown, HasKept}
use Rattle.node.specs.Asking.{work_asked}
use Rattle.node.specs.Fits.{Fits}
use Rattle.node.specs.Workers.{NodeView, WorkView, sending_of, with_written, worker_at}
use Rattle.node.proofs.CommitLaws.{answers-written, work-known, work-of, work-proposable}
use Rattle.node.proofs.FitLaws.{Fits-kept, Fits-yielded, keeps-refused, more-looked, node_in, worker-kept}
use Rattle.node.proofs.PurgeLaws.{held-at-on}
use Rattle.node.proofs.WrittenLaws.{Fits-committed, answers-unwritten, fails-unwritten, grown-work, node-written}
use Rattle.node.proofs.node.Node.commit.Goals as goal

-- the record of the work was handled: its row is there, and the handler left few productions
pub write_work-written-requires-clause-part : goal.write_work-written-requires-clause-part
write_work-written-requires-clause-part g c =
    let case = c.args.case.now in
    let old = g.D.Desk.view c.args.desk.now in
    let work : WorkView = record { sender = c.in-Some.work.sender; proposal = c.in-Some.work.proposal } in
    let node : NodeView = node_in c.self.inside in
    let handled = work-of case old node work c.parts-parts.result.0.now c.parts-parts.result.1.now
    (subst (Fits case old) (sym c.self.view_is) c.requires.fits) c.in-Some.is c.parts-parts.ensures in
    handled.sent.addressed.to.there

pub write_work-written-requires-clause-few : goal.write_work-written-requires-clause-few
write_work-written-requires-clause-few g c =
    let case = c.args.case.now in
    let old = g.D.Desk.view c.args.desk.now in
    let work : WorkView = record { sender = c.in-Some.work.sender; proposal = c.in-Some.work.proposal } in
    let node : NodeView = node_in c.self.inside in
    let handled = work-of case old node work c.parts-parts.result.0.now c.parts-parts.result.1.now
    (subst (Fits case old) (sym c.self.view_is) c.requires.fits) c.in-Some.is c.parts-parts.ensures in
    let delivery = c.parts-parts.result.0.now in
    (IsOutcome-does case delivery.to (row_held case.topology handled.held delivery.to) (OfRecord delivery.item)
    c.parts-parts.result.1.now handled.handling.does).leaves.productions.few

-- the row is held
pub write_work-written-requires-clause-there : goal.write_work-written-requires-clause-there
write_work-written-requires-clause-there g c =
    let case = c.args.case.now in
    let old = g.D.Desk.view c.args.desk.now in
    let work : WorkView = record { sender = c.in-Some.work.sender; proposal = c.in-Some.work.proposal } in
    let node : NodeView = node_in c.self.inside in
    let handled = work-of case old node work c.parts-parts.result.0.now c.parts-parts.result.1.now
    (subst (Fits case old) (sym c.self.view_is) c.requires.fits) c.in-Some.is c.parts-parts.ensures in
    subst (λ (o : Option HeldView). IsSome o) (sym (held-at-on case.topology node.held c.parts-parts.result.0.now.to c.interval_of-interval.result
    handled.held handled.there c.interval_of-interval.ensures.interval)) refl

-- the work may be proposed
pub write_work-written-requires-clause-proposal : goal.write_work-written-requires-clause-proposal
write_work-written-requires-clause-proposal g c =
    let case = c.args.case.now in
    let old = g.D.Desk.view c.args.desk.now in
    let work : WorkView = record { sender = c.in-Some.work.sender; proposal = c.in-Some.work.proposal } in
    let node : NodeView = node_in c.self.inside in
    let handled = work-of case old node work c.parts-parts.result.0.now c.parts-parts.result.1.now
    (subst (Fits case old) (sym c.self.view_is) c.requires.fits) c.in-Some.is c.parts-parts.ensures in
    let parts = ap (λ (w : WorkView). w.proposal) c.work.view_is ∙ c.parts-parts.ensures in
    work-proposable case old node.held work.sender c.parts-parts.result.0.now c.parts-parts.result.1.now c.work.inside.proposal
    c.interval_of-interval.result parts c.interval_of-interval.ensures.interval handled

-- and its record was made
pub write_work-written-requires-clause-known : goal.write_work-written-requires-clause-known
write_work-written-requires-clause-known g c =
    let case = c.args.case.now in
    let old = g.D.Desk.view c.args.desk.now in
    let work : WorkView = record { sender = c.in-Some.work.sender; proposal = c.in-Some.work.proposal } in
    let node : NodeView = node_in c.self.inside in
    let handled = work-of case old node work c.parts-parts.result.0.now c.parts-parts.result.1.now
    (subst (Fits case old) (sym c.self.view_is) c.requires.fits) c.in-Some.is c.parts-parts.ensures in
    let parts = ap (λ (w : WorkView). w.proposal) c.work.view_is ∙ c.parts-parts.ensures in
    work-known case old node.held work.sender c.parts-parts.result.0.now c.parts-parts.result.1.now c.work.inside.proposal
    parts c.requires.fits.of_case handled

-- once the work is written
pub returns-in-Ok-clause-fits : goal.returns-in-Ok-clause-fits
returns-in-Ok-clause-fits g c =
    let case = c.args.case.now in
    let shape = case.topology in
    let old = g.D.Desk.view c.args.desk.now in
    let new = g.D.Desk.view c.write_work-written.new.desk in
    let work : WorkView = record { sender = c.work.inside.sender; proposal = c.work.inside.proposal } in
    let is = c.in-Some.is ∙ ap (λ (w : WorkView). Some w) (sym c.work.view_is) in
    let parts = ap (λ (w : WorkView). w.proposal) c.work.view_is ∙ c.parts-parts.ensures in
    let delivery = c.parts-parts.result.0.now in
    let effects = c.parts-parts.result.1.now in
    let node : NodeView = node_in c.self.inside in
    let fits : Fits case old node = subst (Fits case old) (sym c.self.view_is) c.requires.fits in
    let commit = c.in-Ok.commit in
    subst (Fits case new) (node-written shape c.write_work-written.new.held work.sender delivery effects commit node c.unprepared.new.prepared c.write_work-written.new.outbox.messages
    c.unprepared.ensures c.in-Ok.ensures.sent)
    (Fits-committed case old new node c.write_work-written.new.held work delivery effects c.interval_of-interval.result commit is
    parts c.in-Ok.ensures.put c.in-Ok.ensures.fits c.sound.ensures.sound c.in-Ok.ensures.addressed fits)

pub returns-in-Ok-clause-answers : goal.returns-in-Ok-clause-answers
returns-in-Ok-clause-answers g c =
    let case = c.args.case.now in
    let shape = case.topology in
    let old = g.D.Desk.view c.args.desk.now in
    let new = g.D.Desk.view c.write_work-written.new.desk in
    let work : WorkView = record { sender = c.work.inside.sender; proposal = c.work.inside.proposal } in
    let is = c.in-Some.is ∙ ap (λ (w : WorkView). Some w) (sym c.work.view_is) in
    let parts = ap (λ (w : WorkView). w.proposal) c.work.view_is ∙ c.parts-parts.ensures in
    let delivery = c.parts-parts.result.0.now in
    let effects = c.parts-parts.result.1.now in
    let node : NodeView = node_in c.self.inside in
    let fits : Fits case old node = subst (Fits case old) (sym c.self.view_is) c.requires.fits in
    let commit = c.in-Ok.commit in
    let after : NodeView = record node {
      held = c.write_work-written.new.held;
      prepared = c.unprepared.new.prepared;
      outbox = c.write_work-written.new.outbox.messages;
    } in
    subst (λ (n : NodeView). AnswersAsked shape old new (work_asked shape n) (with_written (sending_of n) (worker_at n)) n after (outcomes.Committed commit))
    c.self.view_is
    (subst (λ (n : NodeView). AnswersAsked shape old new (work_asked shape node) (with_written (sending_of node) (worker_at node)) node n (outcomes.Committed commit))
    (node-written shape c.write_work-written.new.held work.sender delivery effects commit node c.unprepared.new.prepared c.write_work-written.new.outbox.messages
    c.unprepared.ensures c.in-Ok.ensures.sent)
    (answers-written case old new node c.write_work-written.new.held work delivery effects c.interval_of-interval.result commit is
    parts c.interval_of-interval.ensures.interval c.in-Ok.ensures.put
    (work-of case old node work delivery effects fits is parts).sent))

pub returns-in-Ok-clause-grown : goal.returns-in-Ok-clause-grown
returns-in-Ok-clause-grown g c =
    let old = g.D.Desk.view c.args.desk.now in
    let new = g.D.Desk.view c.write_work-written.new.desk in
    let parts = ap (λ (w : WorkView). w.proposal) c.work.view_is ∙ c.parts-parts.ensures in
    subst (λ (n : NodeView). HasGrown n.held old new) c.self.view_is
    (grown-work c.args.case.now.topology old new c.interval_of-interval.result c.work.inside.proposal c.parts-parts.result.0.now c.parts-parts.result.1.now
    c.in-Ok.commit c.self.inside.held c.write_work-written.new.held parts c.in-Ok.ensures.put)

-- where the desk refused
pub returns-in-Err-clause-fits : goal.returns-in-Err-clause-fits
returns-in-Err-clause-fits g c =
    let case = c.args.case.now in
    let old = g.D.Desk.view c.args.desk.now in
    let new = g.D.Desk.view c.write_work-written.new.desk in
    let node : NodeView = node_in c.self.inside in
    let fits : Fits case old node = subst (Fits case old) (sym c.self.view_is) c.requires.fits in
    let mid : NodeView = record node {
      held = c.write_work-written.new.held;
      outbox = c.write_work-written.new.outbox.messages;
    } in
    Fits-yielded case new c.interval_of-interval.result c.in-Err.why mid c.yield_to.new.self c.yield_to.ensures.left
    (Fits-kept case old new node mid (more-looked old new c.in-Err.ensures.looked) c.in-Err.ensures.fits c.in-Err.ensures.kept refl
    c.in-Err.ensures.unsent fits)

pub returns-in-Err-clause-answers : goal.returns-in-Err-clause-answers
returns-in-Err-clause-answers g c =
    let case = c.args.case.now in
    let shape = case.topology in
    let old = g.D.Desk.view c.args.desk.now in
    let new = g.D.Desk.view c.write_work-written.new.desk in
    let interval = c.interval_of-interval.result in
    let was = c.args.self.now in
    let left = c.yield_to.new.self in
    let work : WorkView = record { sender = c.in-Some.work.sender; proposal = c.in-Some.work.proposal } in
    let node : NodeView = node_in c.self.inside in
    let mid : NodeView = record node {
      held = c.write_work-written.new.held;
      outbox = c.write_work-written.new.outbox.messages;
    } in
    let kept : HasKept was mid = worker-kept shape node mid c.in-Err.ensures.kept refl c.in-Err.ensures.unsent ∙ ap worker_at c.self.view_is in
    let prepared : was.prepared ≡ Some work = ap (λ (n : NodeView). n.prepared) (sym c.self.view_is) ∙ c.in-Some.is in
    let reason = subst (λ (n : NodeView). IsRefusedOf old new n.held interval c.in-Err.why) c.self.view_is c.in-Err.ensures.reason in
    let after = with_written (sending_of was) (worker_at was) in
    subst (λ (r : Result Outcome NodeFault). IfOk r (AnswersAsked shape old new (work_asked shape was) after was left)) (sym c.yield_to.ensures.answer)
    (answers-unwritten case old new after was mid left work c.parts-parts.result.0.now c.parts-parts.result.1.now interval c.in-Err.why prepared
    c.parts-parts.ensures c.interval_of-interval.ensures.interval c.requires.fits c.in-Err.ensures.looked reason kept c.yield_to.ensures.left)

pub returns-in-Err-clause-kept : goal.returns-in-Err-clause-kept
returns-in-Err-clause-kept g c =
    let case = c.args.case.now in
    let node : NodeView = node_in c.self.inside in
    let mid : NodeView = record node {
      held = c.write_work-written.new.held;
      outbox = c.write_work-written.new.outbox.messages;
    } in
    let kept : HasKept c.args.self.now mid = worker-kept case.topology node mid c.in-Err.ensures.kept refl c.in-Err.ensures.unsent
    ∙ ap worker_at c.self.view_is in
    subst (λ (r : Result Outcome NodeFault). OnErr r (HasKept c.args.self.now c.yield_to.new.self)) (sym c.yield_to.ensures.answer)
    (keeps-refused case.topology c.interval_of-interval.result c.args.self.now mid c.yield_to.new.self c.in-Err.why kept c.yield_to.ensures.left)

pub returns-in-Err-clause-fault : goal.returns-in-Err-clause-fault
returns-in-Err-clause-fault g c =
    let case = c.args.case.now in
    let old = g.D.Desk.view c.args.desk.now in
    let new = g.D.Desk.view c.write_work-written.new.desk in
    let interval = c.interval_of-interval.result in
    let was = c.args.self.now in
    let work : WorkView = record { sender = c.in-Some.work.sender; proposal = c.in-Some.work.proposal } in
    let prepared : was.prepared ≡ Some work = ap (λ (n : NodeView). n.prepared) (sym c.self.view_is) ∙ c.in-Some.is in
    let reason = subst (λ (n : NodeView). IsRefusedOf old new n.held interval c.in-Err.why) c.self.view_is c.in-Err.ensures.reason in
    subst (λ (r : Result Outcome NodeFault). IfErr r (FailsAsked old new (work_asked case.topology was))) (sym c.yield_to.ensures.answer)
    (fails-unwritten case old new was work c.parts-parts.result.0.now c.parts-parts.result.1.now interval c.in-Err.why prepared
    c.parts-parts.ensures c.interval_of-interval.ensures.interval c.requires.fits reason)

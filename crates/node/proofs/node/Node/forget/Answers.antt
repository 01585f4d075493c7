use Rattle.std.proofs.Common.{subst, sym, refl}
use Rattle.std.specs.Prelude.{IsSome, Option, Some}
use Rattle.holdings.specs.Holding.{HeldView}
use Rattle.node.specs.Answers.{AnswersWrite, FailsAsked}
use Rattle.node.specs.Asking.{forgetting}
use Rattle.node.specs.Fits.{Fits}
use Rattle.node.specs.Workers.{NodeView, worker_at}
use Rattle.node.specs.declared.outcome.Outcome.TheVariants as outcomes
use Rattle.node.proofs.PurgeLaws.{Fits-purged, forget-floor, held-at-on}
use Rattle.node.proofs.PutLaws.{Fits-put, answers-purged, answers-put, fails-put, put-nothing}
use Rattle.node.proofs.RefusedLaws.{fails-at, refused-held}
use Rattle.node.proofs.node.Node.forget.Goals as goal

-- the row is held, and may be purged
pub put_on-requires-clause-there : goal.put_on-requires-clause-there
put_on-requires-clause-there g c =
    let m = c.requires.may.1 in
    subst (λ (o : Option HeldView). IsSome o) (sym (held-at-on c.args.case.now.topology c.args.self.now.held c.args.name.now
    c.interval_of-interval.result m.held m.there c.interval_of-interval.ensures.interval)) refl

pub put_on-requires-clause-may : goal.put_on-requires-clause-may
put_on-requires-clause-may g c =
    forget-floor c.args.case.now (g.D.Desk.view c.args.desk.now) c.args.self.now c.interval_of-interval.result c.args.name.now c.args.floor
    c.requires.fits c.requires.may c.interval_of-interval.ensures.interval c.requires.floor

-- the node fits
pub returns-clause-fits : goal.returns-clause-fits
returns-clause-fits g c =
    let case = c.args.case.now in
    let interval = c.interval_of-interval.result in
    let old = g.D.Desk.view c.args.desk.now in
    let new = g.D.Desk.view c.put_on.new.desk in
    let was = c.args.self.now in
    let after = c.put_on.new.self in
    Fits-put case old new interval c.args.name.now _ _ was after c.put_on.result c.put_on.ensures.put
    (λ commit h fit. subst (Fits case new) (put-nothing after.held commit _ was c.new.ensures.items)
    (Fits-purged case old new was interval c.args.name.now c.args.floor commit after.held h fit c.requires.may.1.free c.requires.fits))

-- and answers what was asked
pub returns-clause-answers : goal.returns-clause-answers
returns-clause-answers g c held there =
    let case = c.args.case.now in
    let shape = case.topology in
    let interval = c.interval_of-interval.result in
    let name = c.args.name.now in
    let old = g.D.Desk.view c.args.desk.now in
    let new = g.D.Desk.view c.put_on.new.desk in
    let was = c.args.self.now in
    let after = c.put_on.new.self in
    let at = held-at-on shape was.held name interval held there c.interval_of-interval.ensures.interval in
    let asked = forgetting held name c.args.floor in
    let Answers = λ (n : NodeView). AnswersWrite shape old new asked (worker_at was) was n in
    answers-put case old new interval name _ _ was after c.put_on.result Answers c.put_on.ensures.put
    (λ commit h. subst (λ (n : NodeView). Answers n (outcomes.Committed commit)) (put-nothing after.held commit _ was c.new.ensures.items)
    (answers-purged case old new was interval name c.args.floor commit after.held held at h))
    (λ off. refused-held case old new was off.asked after interval held asked off.why c.requires.fits at refl off.looked off.reason off.kept off.left)

-- or fails as the desk does
pub returns-clause-fault : goal.returns-clause-fault
returns-clause-fault g c held there =
    let case = c.args.case.now in
    let interval = c.interval_of-interval.result in
    let old = g.D.Desk.view c.args.desk.now in
    let new = g.D.Desk.view c.put_on.new.desk in
    let was = c.args.self.now in
    let at = held-at-on case.topology was.held c.args.name.now interval held there c.interval_of-interval.ensures.interval in
    let asked = forgetting held c.args.name.now c.args.floor in
    fails-put case old new interval c.args.name.now _ _ was c.put_on.new.self c.put_on.result (FailsAsked old new (Some asked)) c.put_on.ensures.put
    (λ off. fails-at old new was.held interval held asked off.why at refl off.reason)

use Rattle.std.proofs.Common.{◌∙◌, ap, subst, sym, refl, inl, inr}
use Rattle.std.specs.Prelude.{IfSome, OnErr, Ok, Result}
use Rattle.book.specs.Writings.{MayPut}
use Rattle.holdings.specs.Holding.{IsRefusedOf, held_at, row_held}
use Rattle.node.specs.declared.outcome.NodeFault.{NodeFault}
use Rattle.node.specs.declared.outcome.Outcome.{Outcome}
use Rattle.node.specs.declared.outcome.Outcome.TheVariants as outcomes
use Rattle.node.specs.Answers.{HasGrown, HasKept}
use Rattle.node.specs.Fits.{Fits}
use Rattle.node.specs.PutSteps.{HasPutOn}
use Rattle.node.specs.Workers.{NodeView, worker_at}
use Rattle.node.proofs.FitLaws.{Fits-kept, Fits-yielded, keeps-refused, more-looked, node_in, worker-kept}
use Rattle.node.proofs.PutLaws.{grown-put}
use Rattle.node.proofs.node.Node.put_on.Goals as goal

-- once the row is written
pub returns-in-Ok-clause-put : goal.returns-in-Ok-clause-put
returns-in-Ok-clause-put g c =
    let case = c.args.case.now in
    let old = g.D.Desk.view c.args.desk.now in
    let new = g.D.Desk.view c.write_made-written.new.desk in
    let node : NodeView = node_in c.self.inside in
    let held = c.write_made-written.new.held in
    let after : NodeView = record node { held = held; outbox = c.write_made-written.new.outbox.messages } in
    subst (λ (n : NodeView). HasPutOn case old new c.args.interval c.args.name.now c.args.writing c.args.made.items n after
    (Ok (outcomes.Committed c.in-Ok.commit))) c.self.view_is
    (inl (
      c.in-Ok.commit,
      refl,
      record {
        put = c.in-Ok.ensures.put;
        fit = c.in-Ok.ensures.fits;
        left = λ i. record node { held = held; outbox = sym c.in-Ok.ensures.sent i };
      },
    ))

pub returns-in-Ok-clause-grown : goal.returns-in-Ok-clause-grown
returns-in-Ok-clause-grown g c =
    let old = g.D.Desk.view c.args.desk.now in
    let new = g.D.Desk.view c.write_made-written.new.desk in
    let shape = c.args.case.now.topology in
    let name = c.args.name.now in
    let may = subst (λ (n : NodeView). IfSome (held_at n.held c.args.interval)
    (λ here. MayPut old name (row_held shape here name) c.args.writing)) (sym c.self.view_is) c.requires.may in
    subst (λ (n : NodeView). HasGrown n.held old new) c.self.view_is
    (grown-put shape old new c.args.interval name c.args.writing c.in-Ok.commit c.self.inside.held c.write_made-written.new.held may
    c.in-Ok.ensures.put)

-- where the desk refused
pub returns-in-Err-clause-put : goal.returns-in-Err-clause-put
returns-in-Err-clause-put g c =
    let case = c.args.case.now in
    let old = g.D.Desk.view c.args.desk.now in
    let new = g.D.Desk.view c.write_made-written.new.desk in
    let interval = c.args.interval in
    let was = c.args.self.now in
    let node : NodeView = node_in c.self.inside in
    let fits : Fits case old node = subst (Fits case old) (sym c.self.view_is) c.requires.fits in
    let asked : NodeView = record node {
      held = c.write_made-written.new.held;
      outbox = c.write_made-written.new.outbox.messages;
    } in
    inr (record {
      why = c.in-Err.why;
      answer = c.yield_to.ensures.answer;
      looked = c.in-Err.ensures.looked;
      reason = subst (λ (n : NodeView). IsRefusedOf old new n.held interval c.in-Err.why) c.self.view_is c.in-Err.ensures.reason;
      asked = asked;
      kept = worker-kept case.topology node asked c.in-Err.ensures.kept refl c.in-Err.ensures.unsent ∙ ap worker_at c.self.view_is;
      left = c.yield_to.ensures.left;
      fits = Fits-yielded case new interval c.in-Err.why asked c.yield_to.new.self c.yield_to.ensures.left
          (Fits-kept case old new node asked (more-looked old new c.in-Err.ensures.looked) c.in-Err.ensures.fits
          c.in-Err.ensures.kept refl c.in-Err.ensures.unsent fits);
    })

pub returns-in-Err-clause-kept : goal.returns-in-Err-clause-kept
returns-in-Err-clause-kept g c =
    let case = c.args.case.now in
    let was = c.args.self.now in
    let node : NodeView = node_in c.self.inside in
    let asked : NodeView = record node {
      held = c.write_made-written.new.held;
      outbox = c.write_made-written.new.outbox.messages;
    } in
    let kept : HasKept was asked = worker-kept case.topology node asked c.in-Err.ensures.kept refl c.in-Err.ensures.unsent
    ∙ ap worker_at c.self.view_is in
    subst (λ (r : Result Outcome NodeFault). OnErr r (HasKept was c.yield_to.new.self)) (sym c.yield_to.ensures.answer)
    (keeps-refused case.topology c.args.interval was asked c.yield_to.new.self c.in-Err.why kept c.yield_to.ensures.left)

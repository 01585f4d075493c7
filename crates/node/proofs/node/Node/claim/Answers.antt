use Rattle.std.proofs.Common.{◌∙◌, ap, subst, sym, refl}
use Rattle.std.specs.Prelude.{IfOk, OnErr, Result}
use Rattle.node.specs.declared.outcome.NodeFault.{NodeFault}
use Rattle.node.specs.declared.outcome.Outcome.{Outcome}
use Rattle.node.specs.Answers.{AnswersClaim, HasKept}
use Rattle.node.specs.Fits.{Fits}
use Rattle.node.specs.Workers.{NodeView, worker_at}
use Rattle.node.proofs.FitLaws.{Fits-claimed, Fits-kept, answers-unclaimed, grown-claimed, kept-any, more-looked, node_in, worker-kept}
use Rattle.node.proofs.node.Node.claim.Goals as goal

-- once the interval is claimed
pub returns-in-Ok-clause-fits : goal.returns-in-Ok-clause-fits
returns-in-Ok-clause-fits g c =
    let case = c.args.case.now in
    let old = g.D.Desk.view c.args.desk.now in
    let new = g.D.Desk.view c.claim.new.desk in
    let node : NodeView = node_in c.self.inside in
    subst (Fits case new) (sym c.unprepare.ensures.left)
    (Fits-claimed case old new node c.claim.new.self c.self.inside.number c.args.interval c.in-Ok.seq c.in-Ok.ensures.claimed c.claim.ensures.fits
    (subst (Fits case old) (sym c.self.view_is) c.requires.fits))

pub returns-in-Ok-clause-grown : goal.returns-in-Ok-clause-grown
returns-in-Ok-clause-grown g c =
    grown-claimed c.args.self.now.held (g.D.Desk.view c.args.desk.now) (g.D.Desk.view c.claim.new.desk)
    c.self.inside.number c.args.interval c.in-Ok.seq c.self.inside.held c.claim.new.self c.in-Ok.ensures.claimed

-- where the desk refused
pub returns-in-Err-clause-fits : goal.returns-in-Err-clause-fits
returns-in-Err-clause-fits g c =
    let case = c.args.case.now in
    let old = g.D.Desk.view c.args.desk.now in
    let new = g.D.Desk.view c.claim.new.desk in
    let node : NodeView = node_in c.self.inside in
    let after : NodeView = record node { held = c.claim.new.self } in
    Fits-kept case old new node after (more-looked old new c.in-Err.ensures.looked) c.claim.ensures.fits c.in-Err.ensures.kept refl refl
    (subst (Fits case old) (sym c.self.view_is) c.requires.fits)

pub returns-in-Err-clause-answers : goal.returns-in-Err-clause-answers
returns-in-Err-clause-answers g c =
    let shape = c.args.case.now.topology in
    let old = g.D.Desk.view c.args.desk.now in
    let new = g.D.Desk.view c.claim.new.desk in
    let node : NodeView = node_in c.self.inside in
    let after : NodeView = record node { held = c.claim.new.self } in
    let kept : HasKept c.args.self.now after = worker-kept shape node after c.in-Err.ensures.kept refl refl ∙ ap worker_at c.self.view_is in
    subst (λ (r : Result Outcome NodeFault). IfOk r (AnswersClaim shape old new c.args.interval c.args.self.now after)) (sym c.refused.ensures)
    (answers-unclaimed shape old new c.args.interval c.args.self.now after c.in-Err.why c.in-Err.ensures.looked c.in-Err.ensures.reason kept)

pub returns-in-Err-clause-kept : goal.returns-in-Err-clause-kept
returns-in-Err-clause-kept g c =
    let shape = c.args.case.now.topology in
    let node : NodeView = node_in c.self.inside in
    let after : NodeView = record node { held = c.claim.new.self } in
    let kept : HasKept c.args.self.now after = worker-kept shape node after c.in-Err.ensures.kept refl refl ∙ ap worker_at c.self.view_is in
    subst (λ (r : Result Outcome NodeFault). OnErr r (HasKept c.args.self.now after)) (sym c.refused.ensures) (kept-any c.in-Err.why c.args.self.now after kept)

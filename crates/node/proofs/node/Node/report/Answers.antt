use Rattle.std.proofs.Common.{rules, ◌≡◌, ◌∙◌, List, ap, subst, sym, refl}
use Rattle.std.specs.Prelude.{IfErr, IfOk, IfSome, IsSome, Option, Result}
use Rattle.book.specs.DeskReasons.{HasReason}
use Rattle.holdings.specs.Holding.{HeldView, held_at}
use Rattle.outbox.specs.Reports.{IsReportOf}
use Rattle.node.specs.declared.outcome.NodeFault.{NodeFault}
use Rattle.node.specs.declared.outcome.NodeFault.TheVariants as faults
use Rattle.node.specs.declared.outcome.Outcome.{Outcome}
use Rattle.node.specs.declared.outcome.Outcome.TheVariants as outcomes
use Rattle.node.specs.Answers.{AnswersReport, FailsReport}
use Rattle.node.specs.Fits.{Fits}
use Rattle.node.specs.Steps.{HasYielded}
use Rattle.node.specs.Workers.{NodeView}
use Rattle.node.proofs.FitLaws.{Fits-yielded, node_in}
use Rattle.node.proofs.OutLaws.{Fits-looked}
use Rattle.node.proofs.ReportLaws.{marked, memory-alone, reason-held, unreported-at}
use Rattle.node.proofs.node.Node.report.Goals as goal

-- once the own work is reported
pub returns-in-Ok-clause-fits : goal.returns-in-Ok-clause-fits
returns-in-Ok-clause-fits g c =
    let case = c.args.case.now in
    let old = g.D.Desk.view c.args.desk.now in
    let new = g.D.Desk.view c.report_work-reported.new.desk in
    let was = c.args.self.now in
    let holding : List (Option HeldView) → NodeView = λ held. record (node_in c.self.inside) { held = held } in
    let node = holding c.report_work-reported.new.held in
    let same : node ≡ was = ap holding c.report_work-reported.ensures.same ∙ c.self.view_is in
    subst (Fits case new) (sym same)
    (Fits-looked case old new was c.sound.ensures.sound c.sound-2.ensures.sound c.report_work-reported.ensures.looked c.requires.fits)

pub returns-in-Ok-clause-answers : goal.returns-in-Ok-clause-answers
returns-in-Ok-clause-answers g c =
    let case = c.args.case.now in
    let old = g.D.Desk.view c.args.desk.now in
    let new = g.D.Desk.view c.report_work-reported.new.desk in
    let was = c.args.self.now in
    let holding : List (Option HeldView) → NodeView = λ held. record (node_in c.self.inside) { held = held } in
    let node = holding c.report_work-reported.new.held in
    let same : node ≡ was = ap holding c.report_work-reported.ensures.same ∙ c.self.view_is in
    let held : List (Option HeldView) = c.self.inside.held in
    let here = held_at was.held c.args.interval in
    let at : held_at held c.args.interval ≡ here = ap (λ (n : NodeView). held_at n.held c.args.interval) c.self.view_is in
    let there : IsSome here = subst (λ (o : Option HeldView). IsSome o) at (search rules) in
    subst (λ (n : NodeView). AnswersReport case old new here was n (outcomes.Marked c.in-Ok.mark)) (sym same)
    (marked case old new was c.args.interval c.in-Ok.mark here c.requires.fits refl there c.report_work-reported.ensures.looked
    (subst (λ (o : Option HeldView). IfSome o (λ h. IsReportOf case old new c.args.interval h c.in-Ok.mark)) at c.in-Ok.ensures.reported))

pub returns-in-Ok-clause-unchanged : goal.returns-in-Ok-clause-unchanged
returns-in-Ok-clause-unchanged g c alone never = absurd (never c.in-Ok.mark refl)

-- where the desk refused
pub returns-in-Err-clause-fits : goal.returns-in-Err-clause-fits
returns-in-Err-clause-fits g c =
    let case = c.args.case.now in
    let old = g.D.Desk.view c.args.desk.now in
    let new = g.D.Desk.view c.report_work-reported.new.desk in
    let was = c.args.self.now in
    let holding : List (Option HeldView) → NodeView = λ held. record (node_in c.self.inside) { held = held } in
    let node = holding c.report_work-reported.new.held in
    let same : node ≡ was = ap holding c.report_work-reported.ensures.same ∙ c.self.view_is in
    Fits-yielded case new c.args.interval c.in-Err.why node c.yield_to.new.self c.yield_to.ensures.left (subst (Fits case new) (sym same)
    (Fits-looked case old new was c.sound.ensures.sound c.sound-2.ensures.sound c.report_work-reported.ensures.looked c.requires.fits))

pub returns-in-Err-clause-answers : goal.returns-in-Err-clause-answers
returns-in-Err-clause-answers g c =
    let case = c.args.case.now in
    let old = g.D.Desk.view c.args.desk.now in
    let new = g.D.Desk.view c.report_work-reported.new.desk in
    let was = c.args.self.now in
    let holding : List (Option HeldView) → NodeView = λ held. record (node_in c.self.inside) { held = held } in
    let node = holding c.report_work-reported.new.held in
    let same : node ≡ was = ap holding c.report_work-reported.ensures.same ∙ c.self.view_is in
    let held : List (Option HeldView) = c.self.inside.held in
    let here = held_at was.held c.args.interval in
    let at : held_at held c.args.interval ≡ here = ap (λ (n : NodeView). held_at n.held c.args.interval) c.self.view_is in
    let there : IsSome here = subst (λ (o : Option HeldView). IsSome o) at (search rules) in
    let after = c.yield_to.new.self in
    let reason = subst (λ (o : Option HeldView). IfSome o (λ h. HasReason old new h.lease c.in-Err.why)) at c.in-Err.ensures.reason in
    let left = subst (λ (n : NodeView). HasYielded case.topology c.args.interval c.in-Err.why n after) same c.yield_to.ensures.left in
    subst (λ (r : Result Outcome NodeFault). IfOk r (AnswersReport case old new here was after)) (sym c.yield_to.ensures.answer)
    (unreported-at case old new was after c.args.interval here c.in-Err.why c.requires.fits refl there c.report_work-reported.ensures.looked
    reason left)

pub returns-in-Err-clause-fault : goal.returns-in-Err-clause-fault
returns-in-Err-clause-fault g c =
    let case = c.args.case.now in
    let old = g.D.Desk.view c.args.desk.now in
    let new = g.D.Desk.view c.report_work-reported.new.desk in
    let was = c.args.self.now in
    let holding : List (Option HeldView) → NodeView = λ held. record (node_in c.self.inside) { held = held } in
    let node = holding c.report_work-reported.new.held in
    let same : node ≡ was = ap holding c.report_work-reported.ensures.same ∙ c.self.view_is in
    let held : List (Option HeldView) = c.self.inside.held in
    let here = held_at was.held c.args.interval in
    let at : held_at held c.args.interval ≡ here = ap (λ (n : NodeView). held_at n.held c.args.interval) c.self.view_is in
    let there : IsSome here = subst (λ (o : Option HeldView). IsSome o) at (search rules) in
    let reason = subst (λ (o : Option HeldView). IfSome o (λ h. HasReason old new h.lease c.in-Err.why)) at c.in-Err.ensures.reason in
    subst (λ (r : Result Outcome NodeFault). IfErr r (FailsReport old new here)) (sym c.yield_to.ensures.answer)
    (reason-held old new here c.in-Err.why there reason)

pub returns-in-Err-clause-memory : goal.returns-in-Err-clause-memory
returns-in-Err-clause-memory g c =
    subst (λ (r : Result Outcome NodeFault). IfErr r (λ fault. fault ≡ faults.NoMemory)) (sym c.yield_to.ensures.answer)
    (memory-alone c.in-Err.why c.in-Err.ensures.only)

use Rattle.std.proofs.Common.{rules, ◌≡◌, ◌∙◌, List, ap, sym}
use Rattle.std.specs.Prelude.{Option, Some}
use Rattle.holdings.specs.Holding.{HeldView, held_at}
use Rattle.outbox.proofs.ReportLaws.{reason-of, report-of, unreported-of}
use Rattle.outbox.proofs.reports.report_work.Goals as goal

-- the desk answers by the own work of what is held, under its lease
pub returns-clause-reported : goal.returns-clause-reported
returns-clause-reported g c =
    let all = c.args.held.now in
    let held = c.unwrap.result.now in
    let same : c.own_work.new.self ≡ all = c.in-Ok.ensures.same in
    let here : held_at c.own_work.new.self c.args.interval ≡ Some held = search rules in
    let at : held_at all c.args.interval ≡ Some held = ap (λ (h : List (Option HeldView)). held_at h c.args.interval) (sym same) ∙ here in
    report-of c.args.case.now (g.D.Desk.view c.args.desk.now) (g.D.Desk.view c.report.new.self) all c.args.interval held
    c.lease.result.now c.in-Ok.own c.report.result at c.lease.ensures.lease c.in-Ok.ensures.exact c.report.ensures.answer
    c.report.ensures.raised

pub returns-clause-reason : goal.returns-clause-reason
returns-clause-reason g c =
    let all = c.args.held.now in
    let held = c.unwrap.result.now in
    let same : c.own_work.new.self ≡ all = c.in-Ok.ensures.same in
    let here : held_at c.own_work.new.self c.args.interval ≡ Some held = search rules in
    let at : held_at all c.args.interval ≡ Some held = ap (λ (h : List (Option HeldView)). held_at h c.args.interval) (sym same) ∙ here in
    reason-of (g.D.Desk.view c.args.desk.now) (g.D.Desk.view c.report.new.self) all c.args.interval held c.lease.result.now
    c.report.result at c.lease.ensures.lease c.report.ensures.reason

pub returns-clause-only : goal.returns-clause-only
returns-clause-only g c = unreported-of c.report.result c.report.ensures.only

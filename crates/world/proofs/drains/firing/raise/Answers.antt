use Rattle.std.proofs.Common.{refl, rules, subst, sym}
use Rattle.std.specs.Prelude.{IsSome, List, Option}
use Rattle.run_history.specs.Cases.{CaseShape}
use Rattle.topology.specs.Rules.{IsTopology}
use Rattle.holdings.specs.Holding.{HeldView}
use Rattle.outbox.specs.Reports.{IsReportOf}
use Rattle.book.specs.OwnDesks.{own_view}
use Rattle.world.specs.drains.Turns.{HasFailed, HasReported, HasStepped, IsAtWork, WhereTold, worker_of}
use Rattle.world.proofs.drains.HeldLaws.{at_work-looked, failed-interval, if-held, only-memory, refusal-interval}
use Rattle.world.proofs.drains.ReportLaws.{marked-reported}
use Rattle.world.proofs.drains.TurnLaws.{stepped-looked}
use Rattle.world.proofs.drains.firing.raise.Goals as goal

-- the interval is held
pub report_work-reported-requires-clause-there : goal.report_work-reported-requires-clause-there
report_work-reported-requires-clause-there g c =
    subst IsSome (sym (c.requires.at_work.each c.args.interval c.requires.there).there) refl

-- nothing is appended, and what is held stays
pub returns-in-Ok-clause-stepped : goal.returns-in-Ok-clause-stepped
returns-in-Ok-clause-stepped g c =
    let new = c.report_work-reported.new.desk.book.now in
    let stepped : HasStepped c.args.book.now new _ = stepped-looked c.args.book.now new c.report_work-reported.ensures.looked in search rules

pub returns-in-Ok-clause-at_work : goal.returns-in-Ok-clause-at_work
returns-in-Ok-clause-at_work g c =
    let old = c.args.book.now in
    let new = c.report_work-reported.new.desk.book.now in
    let at : IsAtWork new (worker_of c.report_work-reported.new.held) =
    subst (λ (all : List (Option HeldView)). IsAtWork new (worker_of all)) (sym c.report_work-reported.ensures.same)
    (at_work-looked old new c.args.held.now c.requires.at_work c.sound.ensures.sound c.sound-2.ensures.sound
    c.report_work-reported.ensures.looked) in search rules

-- where told the mark is as the report leaves it
pub returns-in-Ok-clause-reported : goal.returns-in-Ok-clause-reported
returns-in-Ok-clause-reported g c =
    let old = c.args.book.now in
    let new = c.report_work-reported.new.desk.book.now in
    let all = c.args.held.now in
    let rules_there : IsTopology old.case.topology = search rules in
    let last = c.requires.at_work.each c.args.interval c.requires.there in
    let report = subst (λ (k : CaseShape). IsReportOf k (own_view old) (own_view new) c.args.interval last.held c.in-Ok.field-0) c.case-case.ensures.case
    (if-held (λ here. IsReportOf c.case-case.result.now (own_view old) (own_view new) c.args.interval here c.in-Ok.field-0) all
    c.args.interval last.held last.there c.in-Ok.ensures.reported) in
    let reported : WhereTold old (HasReported old new c.args.interval) =
    marked-reported old new all c.args.interval c.in-Ok.field-0 last.held c.requires.at_work rules_there last.there c.requires.there
    report in search rules

-- a report is refused for no other's sake
pub fault_of-requires : goal.fault_of-requires
fault_of-requires g c = record {
  own = refusal-interval c.args.book.now c.report_work-reported.new.desk.book.now c.args.held.now c.args.interval c.in-Err.why
      c.requires.at_work c.requires.there c.report_work-reported.ensures.looked c.in-Err.ensures.reason;
}

-- it fails for its reason, which is a want of memory
pub returns-in-Err-clause-stepped : goal.returns-in-Err-clause-stepped
returns-in-Err-clause-stepped g c =
    let new = c.report_work-reported.new.desk.book.now in
    let stepped : HasStepped c.args.book.now new _ = stepped-looked c.args.book.now new c.report_work-reported.ensures.looked in search rules

pub returns-in-Err-clause-failed : goal.returns-in-Err-clause-failed
returns-in-Err-clause-failed g c =
    let new = c.report_work-reported.new.desk.book.now in
    let failed : HasFailed c.args.book.now new c.fault_of.result =
    failed-interval c.args.book.now new c.args.held.now c.args.interval c.in-Err.why c.fault_of.result c.requires.at_work c.requires.there
    c.fault_of.ensures c.report_work-reported.ensures.looked c.in-Err.ensures.reason in search rules

pub returns-in-Err-clause-memory : goal.returns-in-Err-clause-memory
returns-in-Err-clause-memory g c =
    only-memory c.in-Err.why c.fault_of.result (refusal-interval c.args.book.now c.report_work-reported.new.desk.book.now c.args.held.now
    c.args.interval c.in-Err.why c.requires.at_work c.requires.there c.report_work-reported.ensures.looked c.in-Err.ensures.reason)
    c.in-Err.ensures.only c.fault_of.ensures

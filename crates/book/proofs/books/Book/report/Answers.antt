use Rattle.std.proofs.Common.{◌≡◌, ℕ, List, min, ap, subst, sym, ◌∙◌}
use Rattle.std.specs.Prelude.{IfSome}
use Rattle.run_history.specs.Runs.{run_of}
use Rattle.run_history.specs.Watermarks.{least}
use Rattle.watermark.specs.Marks.{feeding_marks}
use Rattle.book.specs.Books.{BookView}
use Rattle.book.specs.Marks.{IsSafeAt}
use Rattle.book.proofs.SeenRows.{claimed-whole}
use Rattle.book.proofs.ReportSteps.{IsSafeAt-reported, stale-report}
use Rattle.book.proofs.books.Book.report.Goals as goal

-- the refusal names the later claim
pub returns-in-Some-clause-stale : goal.returns-in-Some-clause-stale
returns-in-Some-clause-stale g c = stale-report c.args.self.now.history c.args.lease.now c.in-Some.newer c.in-Some.ensures.later

-- what is reported is safe, as far as the marks that feed the interval allow
pub raise-requires-clause-safe : goal.raise-requires-clause-safe
raise-requires-clause-safe g c =
    let book : BookView = c.args.self.now in
    let inputs : c.inputs-inputs.result ≡ least (feeding_marks book.case.topology c.args.lease.now.interval book.marks)
    = c.inputs-inputs.ensures.least
    ∙ ap (λ (b : BookView). least (feeding_marks b.case.topology c.interval-interval.result c.marks.result.now)) c.self.view_is
    ∙ ap (λ i. least (feeding_marks book.case.topology i c.marks.result.now)) c.interval-interval.ensures
    ∙ ap (λ (l : List ℕ). least (feeding_marks book.case.topology c.args.lease.now.interval l)) c.marks.ensures.marks in
    let mark : c.min.result ≡ min c.args.own (least (feeding_marks book.case.topology c.args.lease.now.interval book.marks))
    = c.min.ensures ∙ ap (λ n. min c.args.own n) inputs in
    subst (λ n. IfSome book.rows (λ _. IsSafeAt book.case (run_of book.case.topology book.history) c.interval-interval.result n)) (sym mark)
    (subst (λ i. IfSome book.rows (λ _. IsSafeAt book.case (run_of book.case.topology book.history) i
    (min c.args.own (least (feeding_marks book.case.topology c.args.lease.now.interval book.marks))))) (sym c.interval-interval.ensures)
    (IsSafeAt-reported book c.args.lease.now c.args.front c.args.own c.newer.ensures.lawful c.requires.lease c.requires.own
    (c.newer.ensures.own c.in_default.is)))

-- the claim that was seen is there
pub newer-requires : goal.newer-requires
newer-requires g c = record {
  claimed = claimed-whole c.args.lease.now.interval c.args.lease.now.seq c.args.front c.args.self.now.history c.requires.lease.claimed;
}

use Rattle.std.proofs.Common.{◌≡◌, ◌≤◌, ℕ, rules, subst}
use Rattle.run_history.specs.Watermarks.{least}
use Rattle.watermark.specs.Marks.{feeding_marks, mark_of}
use Rattle.world.proofs.drains.ReportLaws.{high-reported}
use Rattle.world.proofs.drains.firing.report.Goals as goal

-- a mark that cannot rise is as a report leaves it
pub returns-then-most-mark-clause-reported : goal.returns-then-most-mark-clause-reported
returns-then-most-mark-clause-reported g c = λ told. high-reported c.args.book.now c.args.interval
    (let most : c.args.most ≡ least (feeding_marks c.args.book.now.case.topology c.args.interval c.args.book.now.marks)
    = c.requires.most told in
    let high : c.args.most ≤ mark_of c.args.book.now.marks c.args.interval = search rules in
    subst (λ (n : ℕ). n ≤ mark_of c.args.book.now.marks c.args.interval) most high)

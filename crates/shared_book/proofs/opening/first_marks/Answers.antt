use Rattle.std.proofs.Common.{◌∙◌, ℕ, List, ap, length, arith}
use Rattle.run_history.specs.Cases.{CaseShape, intervals_of}
use Rattle.run_history.specs.Runs.{run_of}
use Rattle.run_history.proofs.CaseIntervals.{length-intervals}
use Rattle.watermark.specs.Marks.{mark_of}
use Rattle.book.proofs.SeenRows.{told-then}
use Rattle.shared_book.proofs.Vouching.{AreSafe-lower}
use Rattle.shared_book.proofs.opening.first_marks.Goals as goal

pub widened-requires : goal.widened-requires
widened-requires g c =
    let m = c.marks.ensures in
    let few = c.case_is_runnable.ensures.runnable.topology.few_intervals in
    let all = length-intervals c.case.result.now.topology in
    let is = ap length m.marks in
    let each = m.one_each in
    let same = ap (λ (k : CaseShape). length (intervals_of k.topology)) c.case.ensures.case in
    omega (arith, few, all, is, each, same)

pub returns-clause-marks : goal.returns-clause-marks
returns-clause-marks g c interval = c.widened.ensures.marks interval ∙ ap (λ (l : List ℕ). mark_of l interval) c.marks.ensures.marks

pub returns-clause-safe : goal.returns-clause-safe
returns-clause-safe g c =
    let b = c.args.book.now in
    told-then b.rows _ _ c.marks.ensures.safe
    (λ _ each. AreSafe-lower b.case (run_of b.case.topology b.history) c.widened.result b.marks
    (λ k. let is = c.widened.ensures.marks k in let same = ap (λ (l : List ℕ). mark_of l k) c.marks.ensures.marks in omega (arith, is, same))
    each)

use Rattle.std.proofs.Common.{◌∙◌, ℕ, List, ap, sym, subst, arith}
use Rattle.run_history.specs.Cases.{CaseShape}
use Rattle.watermark.specs.Marks.{mark_of}
use Rattle.book.specs.Books.{CoreView}
use Rattle.book.proofs.DeskLaws.{telling-if}
use Rattle.shared_book.specs.Opening.{AreRight}
use Rattle.shared_book.proofs.shared.Shared.start.Goals as goal

pub opened-requires-clause-right : goal.opened-requires-clause-right
opened-requires-clause-right g c =
    let m = c.first_marks-marks in
    let i = c.into_core-core in
    subst (λ (z : CaseShape × CoreView). AreRight z.0 c.floor-floor.result m.result z.1)
    (λ k. (sym i.ensures.case k, sym i.ensures.core k))
    (record {
      places = m.ensures.long;
      under_floor = let is = c.floor-floor.ensures.floor in omega (arith, is);
      safe = telling-if c.args.book.rows _ m.ensures.safe;
    })

pub returns-in-Ok-clause-marks : goal.returns-in-Ok-clause-marks
returns-in-Ok-clause-marks g c interval =
    ap (λ (l : List ℕ). mark_of l interval) c.in-Ok.ensures.marks ∙ c.first_marks-marks.ensures.marks interval

use Rattle.std.proofs.Common.{take}
use Rattle.run_history.specs.Runs.{run_of}
use Rattle.book.proofs.SeenRows.{told-then}
use Rattle.shared_book.proofs.Filling.{mark-front_le}
use Rattle.shared_book.proofs.Vouching.{AreSafe-lower}
use Rattle.shared_book.proofs.put_back.put_back.Goals as goal

pub put_marks-requires-clause-safe : goal.put_marks-requires-clause-safe
put_marks-requires-clause-safe g c =
    let b = c.args.book.now in
    let n = c.interval_count-count.result in
    told-then b.rows _ _ c.requires.safe
    (λ _ each. AreSafe-lower b.case (run_of b.case.topology b.history) (take n c.args.marks.now) c.args.marks.now
    (λ k. mark-front_le n k c.args.marks.now) each)

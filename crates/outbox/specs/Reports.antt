-- What a report of the own work of an interval that is held answers.
use Rattle.std.specs.Prelude.{◌≡◌, ℕ, true, Some, slice_get, ⊤}
use Rattle.key_intervals.specs.declared.bounds.Bounds.{Bounds}
use Rattle.run_history.specs.Cases.{CaseShape, intervals_of}
use Rattle.run_history.specs.Marks.{own_work}
use Rattle.run_history.specs.Runs.{cached}
use Rattle.watermark.specs.Marks.{mark_of}
use Rattle.book.specs.DeskReasons.{IsReportRefusal}
use Rattle.book.specs.Desking.{IsReported}
use Rattle.book.specs.Desks.{DeskView}
use Rattle.book.specs.declared.desk_refusal.DeskRefusal.{DeskRefusal}
use Rattle.book.specs.declared.desk_refusal.DeskRefusal.TheVariants as refusals
use Rattle.holdings.specs.Holding.{HeldView}

-- what was reported is the oldest work of the rows as they are held, and the answer is the interval's mark; a
-- desk that is alone sets this mark as its book does
pub record IsReportOf (case : CaseShape) (old new : DeskView) (interval : ℕ) (held : HeldView) (mark : ℕ) : Type 0 where
  pub own : ℕ
  pub of_rows : (bounds : Bounds) → slice_get (intervals_of case.topology) interval ≡ Some bounds →
      own ≡ own_work case (cached held.rows) bounds
  pub answer : mark ≡ mark_of new.marks held.lease.interval
  pub alone : old.alone ≡ true → IsReported old new held.lease own mark

-- why a report is refused: as the desk refuses one, or for lack of memory
abbrev pub IsUnreported : DeskRefusal → Type 0
IsUnreported refusals.NoMemory = ⊤
IsUnreported why = IsReportRefusal why

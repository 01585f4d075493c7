-- What the marks are once each interval was reported.
-- Akidau et al., VLDB 2013, section 4.5, where each worker reports on its intervals.
-- Own: the order of the reports.
use Rattle.std.specs.Prelude.{ℕ, List, fold}
use Rattle.std.specs.List.{enumerate_from}
use Rattle.key_intervals.specs.declared.bounds.Bounds.{Bounds}
use Rattle.run_history.specs.Cases.{CaseShape, intervals_of}
use Rattle.run_history.specs.Runs.{Run}
use Rattle.run_history.specs.Marks.{own_work}
use Rattle.book.specs.Marks.{reported, with_mark}

-- the marks once the own work of an interval, of this number and these bounds, is reported
abbrev pub with_report : CaseShape → Run → List ℕ → ℕ × Bounds → List ℕ
with_report case run marks (interval, bounds) =
    with_mark interval (reported case.topology interval (own_work case run bounds) marks) marks

-- the marks once the own work of each interval is reported, in the order of the intervals' numbers
abbrev pub marks_after_round : CaseShape → Run → List ℕ → List ℕ
marks_after_round case run marks = fold (with_report case run) marks (enumerate_from 0 (intervals_of case.topology))

-- The low watermark of a computation: the least of its oldest work, of the low watermarks of the
-- computations that feed it, and of the watermarks that the injectors that feed it have stated.
-- Akidau et al., VLDB 2013, section 4.5. Own: a pending timer is work at its time; late work is left out;
-- the end of an input is a mark, and stands where there is no work.
use Rattle.std.specs.Prelude.{ℕ, zero, suc, min, ◌==◌, ◌&&◌, not, if◌then◌else◌, List, [], ◌∷◌, ◌++◌, map, filter}
use Rattle.std.specs.List.{flat_map}
use Rattle.mw_types.specs.declared.TheConstants.{END}
use Rattle.mw_types.specs.declared.identity.RowName.{RowName}
use Rattle.mw_types.specs.declared.timer.Timer.{Timer}
use Rattle.mw_types.specs.declared.delivery.Delivery.{Delivery}
use Rattle.injector.specs.Sources.{stated_at}
use Rattle.topology.specs.Shapes.{parts_of, feeds_of}
use Rattle.row_parts.specs.Contents.{Contents, cursor_in}
use Rattle.run_history.specs.Cases.{CaseShape, is_injector, source_of}
use Rattle.run_history.specs.Runs.{Run, row_of}

-- the least of some marks, or the end where there is none
abbrev pub least : List ℕ → ℕ
least [] = END
least (mark ∷ marks) = min mark (least marks)

-- the timestamps of what waits for a part and is not late
abbrev pub waiting_stamps : Run → ℕ → List ℕ
waiting_stamps run part = map (λ (d : Delivery). d.item.stamp)
    (filter (λ (d : Delivery). (d.to.part == part) && not d.item.late) run.unhandled)

-- the times of the timers of one row that are not late
abbrev pub times_set : Contents → List ℕ
times_set row = map (λ (t : Timer). t.time) (filter (λ (t : Timer). not t.late) row.timers)

-- the times of the timers of a part that are not late
abbrev pub timer_times : Run → ℕ → List ℕ
timer_times run part =
    flat_map (λ (r : RowName × Contents). if r.0.part == part then times_set r.1 else []) run.rows

-- the oldest work of a part that is not late
abbrev pub oldest_work : Run → ℕ → ℕ
oldest_work run part = least (waiting_stamps run part ++ timer_times run part)

-- how many lines of an injector were injected
abbrev pub cursor_of : CaseShape → Run → ℕ → ℕ
cursor_of case run part = cursor_in (row_of case.topology run (record { part = part; key = [] })).state

-- the watermark that an injector's file states before its next line
abbrev pub source_mark : CaseShape → Run → ℕ → ℕ
source_mark case run part = stated_at (source_of case part) (cursor_of case run part)

-- the low watermark of a part, looking back through at most so many streams
abbrev pub low_under : CaseShape → Run → ℕ → ℕ → ℕ
low_under case run zero part = oldest_work run part
low_under case run (suc depth) part = least (oldest_work run part ∷ map
    (λ feeding. if is_injector case.topology feeding
    then source_mark case run feeding else low_under case run depth feeding)
    (feeds_of case.topology part))

-- the low watermark of a computation: a computation reads only what stands above it, so no path is longer
-- than the parts
abbrev pub low_watermark : CaseShape → Run → ℕ → ℕ
low_watermark case run part = low_under case run (parts_of case.topology) part

-- What is handled and acknowledged in a history, and how much work is left after it.
-- Akidau et al., VLDB 2013, section 6.1, for what a worker does on receipt of a record. Own: what counts
-- as work.
use Rattle.std.specs.Prelude.{◌≡◌, ℕ, ◌+◌, Bool, false, ◌&&◌, ◌==◌, if◌then◌else◌, nat_lt, List, length, filter}
use Rattle.std.specs.List.{flat_map, list_any, range_with_len}
use Rattle.mw_types.specs.declared.identity.RecordId.{RecordId}
use Rattle.mw_types.specs.declared.identity.RowName.{RowName}
use Rattle.mw_types.specs.declared.timer.Timer.{Timer}
use Rattle.mw_types.specs.declared.delivery.Delivery.{Delivery}
use Rattle.mw_types.specs.declared.entry.Entry.{Entry}
use Rattle.mw_types.specs.declared.entry.Entry.TheVariants.{Handle, Ack}
use Rattle.topology.specs.Shapes.{injectors_of}
use Rattle.row_parts.specs.Contents.{Contents, same_id, cursor_in}
use Rattle.run_history.specs.Cases.{CaseShape, is_injector, source_of}
use Rattle.run_history.specs.Runs.{Run}
use Rattle.run_history.specs.Watermarks.{cursor_of}

-- whether an entry handles the record of this id
abbrev pub handles : RecordId → Entry → Bool
handles id (Handle seq row handled effects) = same_id id handled
handles id _ = false

-- whether an entry acknowledges the record of this id
abbrev pub acknowledges : RecordId → Entry → Bool
acknowledges id (Ack seq row acknowledged) = same_id id acknowledged
acknowledges id _ = false

-- whether the record of this id is handled in a history
abbrev pub is_handled : RecordId → List Entry → Bool
is_handled id history = list_any (handles id) history

-- whether the record of this id is acknowledged in a history
abbrev pub is_acknowledged : RecordId → List Entry → Bool
is_acknowledged id history = list_any (acknowledges id) history

-- the deliveries of all rows that are not acknowledged
abbrev pub all_pending : Run → List Delivery
all_pending run = flat_map (λ (r : RowName × Contents). r.1.pending) run.rows

-- the timers of all rows that are set
abbrev pub all_timers : Run → List Timer
all_timers run = flat_map (λ (r : RowName × Contents). r.1.timers) run.rows

-- whether an injector has a line left
abbrev pub has_line : CaseShape → Run → ℕ → Bool
has_line case run part = nat_lt (cursor_of case run part) (length (source_of case part))

-- the injectors that have a line left
abbrev pub injectors_left : CaseShape → Run → List ℕ
injectors_left case run = filter (has_line case run) (range_with_len 0 (injectors_of case.topology))

-- how much work is left: the deliveries that are not acknowledged, the timers that are set, and the injectors
-- that have a line left
abbrev pub unfinished : CaseShape → Run → ℕ
unfinished case run =
    length (all_pending run) + length (all_timers run) + length (injectors_left case run)

-- no work is left: nothing that was made waits for an acknowledgement, no timer is set, and no line is left
abbrev pub IsFinished : CaseShape → Run → Type 0
IsFinished case run = unfinished case run ≡ 0

-- whether a row is an injector's, and has a line left
abbrev pub row_has_line : CaseShape → RowName → Contents → Bool
row_has_line case name row = is_injector case.topology name.part && (length name.key == 0)
    && nat_lt (cursor_in row.state) (length (source_of case name.part))

-- how much work is left in a row: what is pending, the timers that are set, and an injector that has a line
-- left
abbrev pub work_in : CaseShape → RowName → Contents → ℕ
work_in case name row =
    length row.pending + length row.timers + (if row_has_line case name row then 1 else 0)

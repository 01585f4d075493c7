-- The wide example, worked by hand: two injectors, a count that is cut into two intervals, and a spike that
-- reads it twice. The left injector's second line is late. The count reads the left stream by the whole
-- key, and the right one by what stands before the slash, so h/x counts under h. The spike reads each
-- window by its whole key, and by what stands after the slash, which is the whole key where there is none:
-- so each window comes to it twice.
use Rattle.std.specs.Prelude.{ℕ, ◌+◌, pos, true, false, Bool, ℤ, List, [], ◌∷◌, ◌++◌, take, codes}
use Rattle.mw_types.specs.declared.identity.RecordId.{RecordId}
use Rattle.mw_types.specs.declared.identity.RowName.{RowName}
use Rattle.mw_types.specs.declared.kind.Kind.TheVariants as kinds
use Rattle.mw_types.specs.declared.state.State.{State}
use Rattle.mw_types.specs.declared.state.State.TheVariants as states
use Rattle.mw_types.specs.declared.record.Record.{Record}
use Rattle.mw_types.specs.declared.entry.Entry.{Entry}
use Rattle.mw_types.specs.declared.entry.Entry.TheVariants.{Claim, Inject, Handle, Fire, Ack, Purge}
use Rattle.mw_types.specs.Outcomes.{EffectsView}
use Rattle.injector.specs.Sources.{SourceLine}
use Rattle.topology.specs.declared.subscription.By.TheVariants.{Key, Head, Tail}
use Rattle.topology.specs.Shapes.{Shape, InjectorShape, ComputationShape}
use Rattle.row_parts.specs.Contents.{Contents}
use Rattle.run_history.specs.Cases.{CaseShape}
use Rattle.run_history.specs.Runs.{Run, run_of}
use Rattle.run_history.specs.Watermarks.{low_watermark}
use Rattle.run_history.specs.Legal.{MayFollow, floor_of}
use Rattle.run_history.specs.Fences.{IsUnderLastClaim}
use Rattle.run_history.specs.Finished.{unfinished}
use Rattle.worked_examples.specs.First.{key_a, window, end_of, counts}
use Rattle.worked_examples.specs.Drained.{injector_row, id_of}

-- ---- the case

-- the key h
abbrev pub key_h : List ℕ
key_h = codes "h"

-- the key h/x
abbrev pub key_h_x : List ℕ
key_h_x = codes "h/x"

-- the left injector
abbrev pub left_shape : InjectorShape
left_shape = record { name = codes "left"; stream = codes "lefts" }

-- the right injector
abbrev pub right_shape : InjectorShape
right_shape = record { name = codes "right"; stream = codes "rights" }

-- the count: windows of 60, and one interval of keys below h, one from h on
abbrev pub count_shape : ComputationShape
count_shape = record {
  name = codes "counts";
  kind = kinds.Count 60;
  reads = record { stream = codes "lefts"; by = Key } ∷ record { stream = codes "rights"; by = Head } ∷ [];
  stream = codes "windows";
  cuts = key_h ∷ [];
  weak = false;
}

-- the spike: a total is produced where it is above the one before it
abbrev pub spike_shape : ComputationShape
spike_shape = record {
  name = codes "spikes";
  kind = kinds.Spike 1 1;
  reads = record { stream = codes "windows"; by = Key } ∷ record { stream = codes "windows"; by = Tail } ∷ [];
  stream = codes "alerts";
  cuts = [];
  weak = false;
}

-- the parts: the injectors are 0 and 1, the count is 2 and the spike 3
abbrev pub wide_shape : Shape
wide_shape = record {
  injectors = left_shape ∷ right_shape ∷ [];
  computations = count_shape ∷ spike_shape ∷ [];
}

-- a record
abbrev pub item_of : List ℕ → ℕ → ℤ → Bool → Record
item_of key stamp value late = record { key = key; stamp = stamp; value = value; late = late }

-- the line of a record, before which this watermark is stated
abbrev pub line_of : ℕ → Record → SourceLine
line_of stated item = record {
  item = record { record_key = item.key; stamp = item.stamp; value = item.value; late = item.late };
  stated = stated;
}

-- the record of the left injector's first line
abbrev pub left_first : Record
left_first = item_of key_a 10 (pos 5) false

-- that of its second line, which is late: between the two a watermark of 30 is stated
abbrev pub left_second : Record
left_second = item_of key_a 20 (pos 1) true

-- that of the right injector's only line
abbrev pub right_only : Record
right_only = item_of key_h_x 70 (pos 1) false

-- the case
abbrev pub wide_case : CaseShape
wide_case = record {
  topology = wide_shape;
  sources = (line_of 0 left_first ∷ line_of 30 left_second ∷ []) ∷ (line_of 0 right_only ∷ []) ∷ [];
}

-- ---- rows, ids, and what handlers leave

-- the row of the right injector; that of the left one is the row of the first example's
abbrev pub right_row : RowName
right_row = record { part = 1; key = [] }

-- the row that the count keeps for a key
abbrev pub count_row : List ℕ → RowName
count_row key = record { part = 2; key = key }

-- the row that the spike keeps for a key
abbrev pub spike_row : List ℕ → RowName
spike_row key = record { part = 3; key = key }

-- the id of the second delivery of an entry
abbrev pub second_of : ℕ → RecordId
second_of commit = record { commit = commit; index = 1 }

-- the late record is counted as late, and in no window
abbrev pub counts_late : EffectsView
counts_late = record { state = states.Count 1 (window 60 1 ∷ []); timers = []; productions = [] }

-- the last window of a key is closed, with one record in it, where so many late ones came
abbrev pub closes_last : ℕ → List ℕ → ℕ → EffectsView
closes_last late key end = record {
  state = states.Count late [];
  timers = [];
  productions = record { key = key; stamp = end; value = pos 1 } ∷ [];
}

-- a total of 1 is held, and is due one microsecond later
abbrev pub holds_one : ℕ → EffectsView
holds_one stamp = record {
  state = states.Spike 0 (record { stamp = stamp; value = pos 1 } ∷ []) [];
  timers = end_of (stamp + 1) ∷ [];
  productions = [];
}

-- it is known from then on; the first total of a key is no spike, since none is known before it
abbrev pub knows_one : EffectsView
knows_one = record { state = states.Spike 0 [] (pos 1 ∷ []); timers = []; productions = [] }

-- ---- the history

-- each of the five intervals is claimed, so an interval's sequencer is its number
abbrev pub wide_claims : List Entry
wide_claims = Claim 0 0 ∷ Claim 0 1 ∷ Claim 0 2 ∷ Claim 0 3 ∷ Claim 0 4 ∷ []

-- the lines are injected and handled (entries 5 to 10): a lies below the cut, and h at it
abbrev pub wide_lines : List Entry
wide_lines =
    Inject 0 0 0 left_first
    ∷ Inject 1 1 0 right_only
    ∷ Handle 2 (count_row key_a) (id_of 5) (counts (window 60 1 ∷ []) 60)
    ∷ Handle 3 (count_row key_h) (id_of 6) (counts (window 120 1 ∷ []) 120)
    ∷ Inject 0 0 1 left_second
    ∷ Handle 2 (count_row key_a) (id_of 9) counts_late
    ∷ []

-- the window of a closes, and its two deliveries are handled, the second one first (entries 11 to 13); of two
-- equal totals at one timestamp one is held, with one timer
abbrev pub wide_window : List Entry
wide_window =
    Fire 2 (count_row key_a) (end_of 60) 60 (closes_last 1 key_a 60)
    ∷ Handle 4 (spike_row key_a) (second_of 11) (holds_one 60)
    ∷ Handle 4 (spike_row key_a) (id_of 11) (holds_one 60)
    ∷ []

-- what a's row and the left injector sent is acknowledged, and a's row forgets the ids below 6, the least
-- commit number that is not; then the total of a is due, and the window of h closes (entries 14 to 20)
abbrev pub wide_acknowledged : List Entry
wide_acknowledged =
    Ack 2 (count_row key_a) (id_of 11)
    ∷ Ack 2 (count_row key_a) (second_of 11)
    ∷ Ack 0 injector_row (id_of 5)
    ∷ Ack 0 injector_row (id_of 9)
    ∷ Purge 2 (count_row key_a) 6
    ∷ Fire 4 (spike_row key_a) (end_of 61) 61 knows_one
    ∷ Fire 3 (count_row key_h) (end_of 120) 120 (closes_last 0 key_h 120)
    ∷ []

-- the 21 entries of the example
abbrev pub wide_history : List Entry
wide_history = wide_claims ++ wide_lines ++ wide_window ++ wide_acknowledged

-- what is left is done: the window of h is handled and acknowledged, its line is acknowledged, and its total
-- is due (entries 21 to 26)
abbrev pub wide_rest : List Entry
wide_rest =
    Handle 4 (spike_row key_h) (id_of 20) (holds_one 120)
    ∷ Handle 4 (spike_row key_h) (second_of 20) (holds_one 120)
    ∷ Ack 3 (count_row key_h) (id_of 20)
    ∷ Ack 3 (count_row key_h) (second_of 20)
    ∷ Ack 1 right_row (id_of 6)
    ∷ Fire 4 (spike_row key_h) (end_of 121) 121 knows_one
    ∷ []

-- the whole
abbrev pub wide_whole : List Entry
wide_whole = wide_history ++ wide_rest

-- ---- what stands after it

-- what stands after so many entries
abbrev pub wide_after : ℕ → Run
wide_after entries = run_of wide_shape (take entries wide_whole)

-- the low watermarks of the count and of the spike, the floor, and how much work is left, after so many
-- entries
abbrev pub wide_numbers : ℕ → ℕ × ℕ × ℕ × ℕ
wide_numbers entries = let run = wide_after entries in
    (low_watermark wide_case run 2, low_watermark wide_case run 3, floor_of run, unfinished wide_case run)

-- nothing is left to do in a row with this state, these handled ids, this floor and this last entry
abbrev pub rests : State → List RecordId → ℕ → ℕ → Contents
rests state seen floor last =
    record { state = state; timers = []; pending = []; seen = seen; floor = floor; last = last }

-- the rows at the end: the purge took the id of entry 5 from a's row, and left that of entry 9
abbrev pub wide_rows : List (RowName × Contents)
wide_rows =
    (injector_row, rests (states.Injector 2) [] 0 17)
    ∷ (right_row, rests (states.Injector 1) [] 0 25)
    ∷ (count_row key_a, rests (states.Count 1 []) (id_of 9 ∷ []) 6 18)
    ∷ (count_row key_h, rests (states.Count 0 []) (id_of 6 ∷ []) 0 24)
    ∷ (spike_row key_a, rests (states.Spike 0 [] (pos 1 ∷ [])) (id_of 11 ∷ second_of 11 ∷ []) 0 19)
    ∷ (spike_row key_h, rests (states.Spike 0 [] (pos 1 ∷ [])) (id_of 20 ∷ second_of 20 ∷ []) 0 26)
    ∷ []

-- a second worker claims both intervals of the count
abbrev pub wide_claimed_again : List Entry
wide_claimed_again = wide_history ++ Claim 1 2 ∷ Claim 1 3 ∷ []

-- ---- what may not follow

-- the right record is handled in this row of the count, under this claim
abbrev pub right_handled : ℕ → List ℕ → Entry
right_handled seq key = Handle seq (count_row key) (id_of 6) (counts (window 120 1 ∷ []) 120)

-- the left injector's second record is handled as if it were not late
abbrev pub late_handled_in_time : Entry
late_handled_in_time = Handle 2 (count_row key_a) (id_of 9) (counts (window 60 2 ∷ []) 60)

-- it is injected as if it were not
abbrev pub late_injected_in_time : Entry
late_injected_in_time = Inject 0 0 1 (item_of key_a 20 (pos 1) false)

-- the window of a is closed before the late record came
abbrev pub closed_early : Entry
closed_early = Fire 2 (count_row key_a) (end_of 60) 60 (closes_last 0 key_a 60)

-- the entry may not follow the first so many
abbrev pub MayNotFollow : ℕ → Entry → Type 0
MayNotFollow entries entry = MayFollow wide_case (wide_after entries) entry → ⊥

-- the entry does not carry the number of the last claim of its row's interval, after the first so many
abbrev pub IsStaleAfter : ℕ → Entry → Type 0
IsStaleAfter entries entry = IsUnderLastClaim wide_shape (take entries wide_whole) entry → ⊥

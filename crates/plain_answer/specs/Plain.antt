-- The plain count of a case: what each stream has, worked out from the records of the files alone, with no
-- history, timers or watermarks, and the text that this makes. It cites no word of what handlers do. Own.
-- Streams stand in the order of their parts, injectors first. A member that is late is in no window and at
-- no place.
use Rattle.std.specs.Prelude.{◌≡◌, ℕ, ◌+◌, ◌-◌, ◌%◌, ◌==◌, ◌&&◌, not, nat_le, nat_eq, Bool, if◌then◌else◌, false, List, [], ◌∷◌, ◌++◌, length, map, filter, fold, drop, count_by, sum_by, codes}
use Rattle.std.specs.Prelude.{ℤ, pos, ◌+ℤ◌, ◌*ℤ◌, int_lt}
use Rattle.std.specs.Int.{int_max}
use Rattle.std.specs.Ordering.{nat_cmp}
use Rattle.std.specs.List.{flat_map, enumerate_from, range_with_len}
use Rattle.std.specs.List.Sorted.{IsPermutation, IsSorted}
use Rattle.std.specs.Cmp.Lexicographic.{pointwise}
use Rattle.mw_types.specs.declared.kind.Kind.{Kind}
use Rattle.mw_types.specs.declared.kind.Kind.TheVariants.{Count, Spike, Pass}
use Rattle.mw_types.specs.declared.record.Record.{Record}
use Rattle.mw_types.specs.declared.identity.RowName.{RowName}
use Rattle.injector.specs.Sources.{Source, SourceLine}
use Rattle.topology.specs.declared.subscription.Subscription.{Subscription}
use Rattle.topology.specs.Shapes.{Shape, ComputationShape, injectors_of, consumers_of, stream_of}
use Rattle.row_parts.specs.Contents.{put_in}
use Rattle.run_history.specs.Cases.{CaseShape, record_of, source_of}
use Rattle.run_history.specs.Made.{sends_of}
use Rattle.run_history.specs.Texts.{ResultLine, line_cmp, as_line, line_data}
use Rattle.serde_json.specs.Data.{Data, object, member, no_members, number, unsigned}

-- a member of a stream that a part reads, with the key of the row that reads it
abbrev pub Keyed : Type 0
Keyed = List ℕ × Record

-- the members that are sent on to a part by the streams so far: each member once for each subscription to
-- its stream
abbrev pub members_read : Shape → List (List Record) → ℕ → List Keyed
members_read shape streams part = map (λ (r : RowName × Record). (r.0.key, r.1))
    (filter (λ (r : RowName × Record). r.0.part == part)
    (flat_map (λ (s : ℕ × List Record). flat_map (sends_of (consumers_of shape s.0)) s.1)
    (enumerate_from 0 streams)))

-- what a row of this key reads that is in time
abbrev pub row_members : List ℕ → List Keyed → List Record
row_members key reads = map (λ (r : Keyed). r.1)
    (filter (λ (r : Keyed). pointwise nat_eq key r.0 && not r.1.late) reads)

-- what a test tells apart, once each
abbrev pub once_each : {X : Type 0} → (X → X → Bool) → List X → List X
once_each same [] = []
once_each same (x ∷ xs) = x ∷ filter (λ y. not (same x y)) (once_each same xs)

-- the keys of the rows that read something in time, once each
abbrev pub row_keys : List Keyed → List (List ℕ)
row_keys reads = once_each (pointwise nat_eq)
    (map (λ (r : Keyed). r.0) (filter (λ (r : Keyed). not r.1.late) reads))

-- where the window of a timestamp ends: at the next multiple of its size
abbrev pub plain_end : ℕ → ℕ → ℕ
plain_end size stamp = stamp - stamp % size + size

-- the windows of a row: each end of a record's window, with how many records' windows end there
abbrev pub windows_in : ℕ → List ℕ → List Record → List Record
windows_in size key items = map (λ end. record {
  key = key;
  stamp = end;
  value = pos (count_by (λ (r : Record). plain_end size r.stamp == end) items);
  late = false;
})
    (once_each nat_eq (map (λ (r : Record). plain_end size r.stamp) items))

-- numbers, once each, ascending
abbrev pub ascending : List ℕ → List ℕ
ascending numbers = fold (λ found n. put_in nat_cmp (λ new old. old) n found) [] numbers

-- the greatest of the values, and of this one
abbrev pub greatest_of : ℤ → List Record → ℤ
greatest_of value items = fold (λ most (r : Record). int_max most r.value) value items

-- the greatest value among some records
abbrev pub greatest : List Record → ℤ
greatest [] = pos 0
greatest (r ∷ rs) = greatest_of r.value rs

-- the places of a row: each timestamp of a record, ascending, with the greatest value at it
abbrev pub places_in : List Record → List (ℕ × ℤ)
places_in items = map (λ stamp. (stamp, greatest (filter (λ (r : Record). r.stamp == stamp) items)))
    (ascending (map (λ (r : Record). r.stamp) items))

-- the sum of the last so many values
abbrev pub sum_of_last : ℕ → List ℤ → ℤ
sum_of_last last values = fold (λ sum x. sum +ℤ x) (pos 0) (drop (length values - last) values)

-- a value is a spike where so many values stand before it, and the factor times the sum of the last so many
-- is below the value times their number
abbrev pub spike_at : ℕ → ℕ → List ℕ → List ℤ → ℕ → ℤ → List Record
spike_at last times key before stamp value =
    if nat_le last (length before) && int_lt (pos times *ℤ sum_of_last last before) (value *ℤ pos last)
    then record { key = key; stamp = stamp + 1; value = value; late = false } ∷ []
    else []

-- the spikes among the places of a row, behind places with these values
abbrev pub spikes_in : ℕ → ℕ → List ℕ → List ℤ → List (ℕ × ℤ) → List Record
spikes_in last times key before [] = []
spikes_in last times key before ((stamp, value) ∷ places) =
    spike_at last times key before stamp value ++ spikes_in last times key (before ++ value ∷ []) places

-- what a part of a kind gives of what it reads: a pass gives each member again
abbrev pub plain_of : Kind → List Keyed → List Record
plain_of (Count size) reads =
    flat_map (λ key. windows_in size key (row_members key reads)) (row_keys reads)
plain_of (Spike last times) reads =
    flat_map (λ key. spikes_in last times key [] (places_in (row_members key reads))) (row_keys reads)
plain_of Pass reads = map (λ (r : Keyed). r.1) reads

-- how often a part of a kind fires a timer: once a window, once a place
abbrev pub fires_of : Kind → List Keyed → ℕ
fires_of (Count size) reads =
    sum_by (λ key. length (windows_in size key (row_members key reads))) (row_keys reads)
fires_of (Spike last times) reads =
    sum_by (λ key. length (places_in (row_members key reads))) (row_keys reads)
fires_of Pass reads = 0

-- the sources of the injectors, in their order
abbrev pub sources_of : CaseShape → List Source
sources_of case = map (source_of case) (range_with_len 0 (injectors_of case.topology))

-- what an injector gives: its records
abbrev pub injected_of : Source → List Record
injected_of source = map (λ (l : SourceLine). record_of l.item) source

-- the streams with those of some computations behind them
abbrev pub streams_with : Shape → List (List Record) → List ComputationShape → List (List Record)
streams_with shape streams computations = fold
    (λ found (c : ComputationShape). found ++ plain_of c.kind (members_read shape found (length found)) ∷ [])
    streams computations

-- the streams of all parts
abbrev pub plain_streams : CaseShape → List (List Record)
plain_streams case = streams_with case.topology (map injected_of (sources_of case)) case.topology.computations

-- what the computations read, each with its kind
abbrev pub plain_members : CaseShape → List (Kind × List Keyed)
plain_members case = map
    (λ (c : ℕ × ComputationShape). (c.1.kind, members_read case.topology (plain_streams case) c.0))
    (enumerate_from (injectors_of case.topology) case.topology.computations)

-- how many timers fire, and how many records are handled
abbrev pub fired_of : CaseShape → ℕ
fired_of case = sum_by (λ (c : Kind × List Keyed). fires_of c.0 c.1) (plain_members case)

abbrev pub handled_of : CaseShape → ℕ
handled_of case = sum_by (λ (c : Kind × List Keyed). length c.1) (plain_members case)

-- how many records the files have, and how many of them are late
abbrev pub injected_count : CaseShape → ℕ
injected_count case = sum_by (λ (source : Source). length source) (sources_of case)

abbrev pub late_count : CaseShape → ℕ
late_count case =
    sum_by (λ (source : Source). count_by (λ (l : SourceLine). l.item.late) source) (sources_of case)

-- ---- the text

-- what one line tells of a member of a stream
abbrev pub plain_line : List ℕ → Record → ResultLine
plain_line stream item = record { stream = stream; stamp = item.stamp; key = item.key; value = item.value }

-- the lines of a stream, where nothing reads it
abbrev pub lines_unread : List Subscription → List ℕ → List Record → List ResultLine
lines_unread [] stream items = map (plain_line stream) items
lines_unread (s ∷ ss) stream items = []

-- the lines of the streams that nothing reads
abbrev pub plain_lines : CaseShape → List ResultLine
plain_lines case = flat_map
    (λ (s : ℕ × List Record). lines_unread (consumers_of case.topology s.0) (stream_of case.topology s.0) s.1)
    (enumerate_from 0 (plain_streams case))

-- the numbers of the summary line
abbrev pub plain_summary : CaseShape → Data
plain_summary case = object
    (member (codes "fired") (number (unsigned (fired_of case)))
    (member (codes "handled") (number (unsigned (handled_of case)))
    (member (codes "injected") (number (unsigned (injected_count case)))
    (member (codes "late") (number (unsigned (late_count case))) no_members))))

-- the text is the plain count of the case: the lines of the streams that nothing reads, sorted, and the
-- summary line
pub record IsPlainText (case : CaseShape) (text : List ℕ) : Type 0 where
  pub lines : List ResultLine
  pub each_once : IsPermutation (plain_lines case) lines
  pub in_order : IsSorted line_cmp lines
  pub spelled : text ≡ flat_map (λ line. as_line (line_data line)) lines ++ as_line (plain_summary case)

-- The example of two lines and a watermark between them, worked by hand: the first line is worked
-- off while the marks rise, and its row is purged. Tests of books cite it.
use Rattle.std.specs.Prelude.{ℕ, List, [], ◌∷◌, pos, false, None, take}
use Rattle.mw_types.specs.declared.delivery.Delivery.{Delivery}
use Rattle.mw_types.specs.declared.state.State.TheVariants.{Injector, Count}
use Rattle.mw_types.specs.declared.entry.Entry.{Entry}
use Rattle.mw_types.specs.declared.entry.Entry.TheVariants.{Claim, Inject, Handle, Fire, Ack, Purge}
use Rattle.injector.specs.declared.item.Item.{Item}
use Rattle.injector.specs.Sources.{Source}
use Rattle.key_intervals.specs.declared.bounds.Bounds.{Bounds}
use Rattle.topology.specs.Samples.{one_count}
use Rattle.row_parts.specs.Contents.{Contents}
use Rattle.run_history.specs.Cases.{CaseShape}
use Rattle.run_history.specs.Runs.{run_of}
use Rattle.run_history.specs.Fences.{known}
use Rattle.run_history.specs.Marks.{own_work}
use Rattle.worked_examples.specs.First.{key_a, row_a, record_at, window, end_of, counts, closes}
use Rattle.worked_examples.specs.Drained.{injector_row, id_of}

-- ---- the case and its history

-- a record line of the key a
abbrev pub item_at_time : ℕ → Item
item_at_time stamp = record { record_key = key_a; stamp = stamp; value = pos 1; late = false }

-- a record at 10, a watermark of 60, and a record at 70
abbrev pub rise_source : Source
rise_source =
    record { item = item_at_time 10; stated = 0 } ∷ record { item = item_at_time 70; stated = 60 } ∷ []

-- windows of 60 over the two records
abbrev pub rise_case : CaseShape
rise_case = record { topology = one_count 60; sources = rise_source ∷ [] }

-- both intervals are claimed; the first line is injected, handled and acknowledged; its window
-- closes, and its row is purged
abbrev pub rise_history : List Entry
rise_history =
    Claim 0 0
    ∷ Claim 0 1
    ∷ Inject 0 0 0 (record_at 10)
    ∷ Handle 1 row_a (id_of 2) (counts (window 60 1 ∷ []) 60)
    ∷ Ack 0 injector_row (id_of 2)
    ∷ Fire 1 row_a (end_of 60) 60 (closes [] 60 1)
    ∷ Purge 1 row_a 6
    ∷ []

-- ---- its rows, and the own work of its intervals

-- the delivery of the first line
abbrev pub sent_delivery : Delivery
sent_delivery = record { id = id_of 2; to = row_a; item = record_at 10 }

-- the injector's row once the first line is injected
abbrev pub row_injected : Contents
row_injected = record {
  state = Injector 1;
  timers = [];
  pending = sent_delivery ∷ [];
  seen = [];
  floor = 0;
  last = 2;
}

-- the row of the key a once the record is handled
abbrev pub row_counted : Contents
row_counted = record {
  state = Count 0 (window 60 1 ∷ []);
  timers = end_of 60 ∷ [];
  pending = [];
  seen = id_of 2 ∷ [];
  floor = 0;
  last = 3;
}

-- the row of the key a once its window is closed
abbrev pub row_closed : Contents
row_closed = record {
  state = Count 0 [];
  timers = [];
  pending = [];
  seen = id_of 2 ∷ [];
  floor = 0;
  last = 5;
}

-- the one interval of a part without cuts: all its keys
abbrev pub whole_part : ℕ → Bounds
whole_part part = record { part = part; from = []; to = None }

-- the own work of an interval after so many of the entries
abbrev pub own_after : ℕ → ℕ → ℕ
own_after count interval =
    let seen = known interval interval (take count rise_history) in
    own_work rise_case (run_of rise_case.topology seen) (whole_part interval)

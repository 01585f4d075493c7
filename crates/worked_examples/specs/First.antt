-- The first example, worked by hand: three records of the key a in windows of 60, handled by one thread and
-- without claims, acknowledgements and purges.
use Rattle.std.specs.Prelude.{ℕ, pos, false, List, [], ◌∷◌, ◌++◌, take}
use Rattle.mw_types.specs.declared.identity.RowName.{RowName}
use Rattle.mw_types.specs.declared.state.State.TheVariants.{Count}
use Rattle.mw_types.specs.declared.state.Window.{Window}
use Rattle.mw_types.specs.declared.record.Record.{Record}
use Rattle.mw_types.specs.declared.timer.Timer.{Timer}
use Rattle.mw_types.specs.declared.delivery.Emission.{Emission}
use Rattle.mw_types.specs.declared.entry.Entry.{Entry}
use Rattle.mw_types.specs.declared.entry.Entry.TheVariants.{Inject, Handle, Fire}
use Rattle.mw_types.specs.Outcomes.{EffectsView}
use Rattle.injector.specs.Sources.{SourceLine}
use Rattle.topology.specs.Samples.{one_count}
use Rattle.run_history.specs.Cases.{CaseShape}
use Rattle.run_history.specs.Runs.{run_of}
use Rattle.run_history.specs.Watermarks.{low_watermark}

-- the key a
abbrev pub key_a : List ℕ
key_a = 97 ∷ []

-- the row of the key a of the count
abbrev pub row_a : RowName
row_a = record { part = 1; key = key_a }

-- a record of the key a
abbrev pub record_at : ℕ → Record
record_at stamp = record { key = key_a; stamp = stamp; value = pos 1; late = false }

-- a line of such a record, before which the file states no watermark
abbrev pub line_at : ℕ → SourceLine
line_at stamp =
    record { item = record { record_key = key_a; stamp = stamp; value = pos 1; late = false }; stated = 0 }

-- windows of 60 over three records
abbrev pub first_case : CaseShape
first_case = record { topology = one_count 60; sources = (line_at 10 ∷ line_at 59 ∷ line_at 60 ∷ []) ∷ [] }

-- a timer that ends a window
abbrev pub end_of : ℕ → Timer
end_of time = record { tag = 0; time = time; late = false }

-- an open window
abbrev pub window : ℕ → ℕ → Window
window end count = record { end = end; count = count }

-- a record that opens or fills a window, and sets its timer
abbrev pub counts : List Window → ℕ → EffectsView
counts windows time = record { state = Count 0 windows; timers = end_of time ∷ []; productions = [] }

-- a timer that closes a window, and produces its count
abbrev pub closes : List Window → ℕ → ℕ → EffectsView
closes windows end count = record {
  state = Count 0 windows;
  timers = [];
  productions = record { key = key_a; stamp = end; value = pos count } ∷ [];
}

-- each record is injected and handled, and then each window is closed
abbrev pub first_history : List Entry
first_history =
    Inject 0 0 0 (record_at 10)
    ∷ Handle 0 row_a (record { commit = 0; index = 0 }) (counts (window 60 1 ∷ []) 60)
    ∷ Inject 0 0 1 (record_at 59)
    ∷ Handle 0 row_a (record { commit = 2; index = 0 }) (counts (window 60 2 ∷ []) 60)
    ∷ Inject 0 0 2 (record_at 60)
    ∷ Handle 0 row_a (record { commit = 4; index = 0 }) (counts (window 60 2 ∷ window 120 1 ∷ []) 120)
    ∷ Fire 0 row_a (end_of 60) 60 (closes (window 120 1 ∷ []) 60 2)
    ∷ Fire 0 row_a (end_of 120) 120 (closes [] 120 1)
    ∷ []

-- the first record is handled, and then once more
abbrev pub first_handled_twice : List Entry
first_handled_twice =
    take 2 first_history
    ++ Handle 0 row_a (record { commit = 0; index = 0 }) (counts (window 60 2 ∷ []) 60) ∷ []

-- the low watermark of the count after so many entries
abbrev pub first_low : ℕ → ℕ
first_low entries = low_watermark first_case (run_of first_case.topology (take entries first_history)) 1

-- a count that is emitted under a commit number
abbrev pub count_emitted : ℕ → ℕ → ℕ → Emission
count_emitted commit end count = record {
  id = record { commit = commit; index = 0 };
  part = 1;
  item = record { key = key_a; stamp = end; value = pos count; late = false };
}

-- the two windows that are emitted
abbrev pub first_emissions : List Emission
first_emissions = count_emitted 6 60 2 ∷ count_emitted 7 120 1 ∷ []

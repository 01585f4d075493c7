-- The first example as one thread writes it, with claims, acknowledgements and a purge, worked by hand.
use Rattle.std.specs.Prelude.{ℕ, List, [], ◌∷◌, ◌++◌, take}
use Rattle.mw_types.specs.declared.identity.RecordId.{RecordId}
use Rattle.mw_types.specs.declared.identity.RowName.{RowName}
use Rattle.mw_types.specs.declared.state.Window.{Window}
use Rattle.mw_types.specs.declared.state.State.TheVariants.{Injector, Count}
use Rattle.mw_types.specs.declared.entry.Entry.{Entry}
use Rattle.mw_types.specs.declared.entry.Entry.TheVariants.{Claim, Inject, Handle, Fire, Ack, Purge}
use Rattle.row_parts.specs.Contents.{Contents}
use Rattle.run_history.specs.Runs.{run_of}
use Rattle.run_history.specs.Legal.{floor_of}
use Rattle.worked_examples.specs.First.{first_case, row_a, record_at, window, end_of, counts, closes}

-- the row of the injector
abbrev pub injector_row : RowName
injector_row = record { part = 0; key = [] }

-- the id of the one delivery that an entry made
abbrev pub id_of : ℕ → RecordId
id_of commit = record { commit = commit; index = 0 }

-- a line is injected, handled and acknowledged, from this commit number on
abbrev pub round : ℕ → ℕ → ℕ → List Window → ℕ → List Entry → List Entry
round commit line stamp windows end rest =
    Inject 0 0 line (record_at stamp)
    ∷ Handle 1 row_a (id_of commit) (counts windows end)
    ∷ Ack 0 injector_row (id_of commit)
    ∷ rest

-- both intervals are claimed; each line is injected, handled and acknowledged; the windows close; the row
-- is purged
abbrev pub drained_history : List Entry
drained_history =
    Claim 0 0
    ∷ Claim 0 1
    ∷ round 2 0 10 (window 60 1 ∷ []) 60
    (round 5 1 59 (window 60 2 ∷ []) 60
    (round 8 2 60 (window 60 2 ∷ window 120 1 ∷ []) 120
    (Fire 1 row_a (end_of 60) 60 (closes (window 120 1 ∷ []) 60 2)
    ∷ Fire 1 row_a (end_of 120) 120 (closes [] 120 1)
    ∷ Purge 1 row_a 13
    ∷ [])))

-- the floor after so many entries
abbrev pub drained_floor : ℕ → ℕ
drained_floor entries = floor_of (run_of first_case.topology (take entries drained_history))

-- the rows at the end: three lines injected, and nothing of the key a but its floor
abbrev pub drained_rows : List (RowName × Contents)
drained_rows =
    (injector_row, record { state = Injector 3; timers = []; pending = []; seen = []; floor = 0; last = 10 })
    ∷ (row_a, record { state = Count 0 []; timers = []; pending = []; seen = []; floor = 13; last = 13 })
    ∷ []

-- a number below 256 in eight bytes, and in four
abbrev pub in_eight : ℕ → List ℕ
in_eight n = 0 ∷ 0 ∷ 0 ∷ 0 ∷ 0 ∷ 0 ∷ 0 ∷ n ∷ []

abbrev pub in_four : ℕ → List ℕ
in_four n = 0 ∷ 0 ∷ 0 ∷ n ∷ []

-- the bytes of three empty lists: no timers, no pending deliveries and no ids
abbrev pub no_lists : List ℕ
no_lists = in_four 0 ++ in_four 0 ++ in_four 0

-- the rows that a keeper holds at the end, with their 34 and 42 bytes: the version 1, the last entry, the
-- floor, the state (its kind; the cursor, or the late records and the windows), and the lists
abbrev pub drained_stored : List (RowName × List ℕ)
drained_stored =
    (injector_row, 1 ∷ in_eight 10 ++ in_eight 0 ++ 0 ∷ in_four 3 ++ no_lists)
    ∷ (row_a, 1 ∷ in_eight 13 ++ in_eight 13 ++ 1 ∷ in_eight 0 ++ in_four 0 ++ no_lists)
    ∷ []

-- the first record is handled under the claim of the injector's interval, and not under that of the count's
abbrev pub drained_stale : List Entry
drained_stale = take 3 drained_history ++ Handle 0 row_a (id_of 2) (counts (window 60 1 ∷ []) 60) ∷ []

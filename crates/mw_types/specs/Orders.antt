-- In which order keys, ids, rows and the timers of a row stand. Own.
use Rattle.std.specs.Prelude.{ℕ, List}
use Rattle.std.specs.declared.cmp.Ordering.{Ordering}
use Rattle.std.specs.Ordering.{nat_cmp, ordering_then}
use Rattle.std.specs.Cmp.Lexicographic.{slice_cmp}
use Rattle.mw_types.specs.declared.identity.RecordId.{RecordId}
use Rattle.mw_types.specs.declared.identity.RowName.{RowName}
use Rattle.mw_types.specs.declared.timer.Timer.{Timer}

-- keys stand by their bytes
abbrev pub key_cmp : List ℕ → List ℕ → Ordering
key_cmp = slice_cmp nat_cmp

-- ids stand by commit number, and those of one entry by index
abbrev pub id_cmp : RecordId → RecordId → Ordering
id_cmp a b = ordering_then (nat_cmp a.commit b.commit) (nat_cmp a.index b.index)

-- rows stand by part, and those of one part by key
abbrev pub row_cmp : RowName → RowName → Ordering
row_cmp a b = ordering_then (nat_cmp a.part b.part) (key_cmp a.key b.key)

-- the timers of one row stand by time, and those of one time by tag
abbrev pub timer_cmp : Timer → Timer → Ordering
timer_cmp a b = ordering_then (nat_cmp a.time b.time) (nat_cmp a.tag b.tag)

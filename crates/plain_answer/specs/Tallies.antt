-- The windows of a count's rows, one member after another, as entries in order. No clause of another crate
-- cites this module. Own.
use Rattle.std.specs.Prelude.{ℕ, ◌+◌, pos, false, if◌then◌else◌, List, [], fold, unwrap_or}
use Rattle.std.specs.declared.cmp.Ordering.{Ordering}
use Rattle.std.specs.Ordering.{nat_cmp, ordering_then}
use Rattle.std.specs.Map.{lookup}
use Rattle.std.specs.BTreeMap.{insert_entry, is_at}
use Rattle.mw_types.specs.declared.record.Record.{Record}
use Rattle.mw_types.specs.Orders.{key_cmp}
use Rattle.plain_answer.specs.Plain.{Keyed, plain_end}

-- windows stand by key, and those of one key by their ends
abbrev pub window_cmp : List ℕ × ℕ → List ℕ × ℕ → Ordering
window_cmp a b = ordering_then (key_cmp a.0 b.0) (nat_cmp a.1 b.1)

-- how many records a window has so far
abbrev pub tally_at : List ((List ℕ × ℕ) × ℕ) → List ℕ × ℕ → ℕ
tally_at tally window = unwrap_or (lookup (is_at (window_cmp window)) tally) 0

-- with one member more: one in time counts in its window
abbrev pub tally_with : ℕ → List ((List ℕ × ℕ) × ℕ) → Keyed → List ((List ℕ × ℕ) × ℕ)
tally_with size tally m = if m.1.late then tally
    else insert_entry window_cmp tally (m.0, plain_end size m.1.stamp)
    (tally_at tally (m.0, plain_end size m.1.stamp) + 1)

-- of all members
abbrev pub tally_of : ℕ → List Keyed → List ((List ℕ × ℕ) × ℕ)
tally_of size ms = fold (tally_with size) [] ms

-- a window that is counted, as the record that it gives
abbrev pub window_given : (List ℕ × ℕ) × ℕ → Record
window_given e = record { key = e.0.0; stamp = e.0.1; value = pos e.1; late = false }

-- What is written of a history: its emissions as sorted lines, and a summary line. Own.
-- Each line is one JSON object, as `serde_json` prints it, and LF.
use Rattle.std.specs.Prelude.{◌≡◌, ℕ, ℤ, Bool, true, false, List, [], ◌∷◌, ◌++◌, map, count_by, codes}
use Rattle.std.specs.declared.cmp.Ordering.{Ordering}
use Rattle.std.specs.Ordering.{nat_cmp, int_cmp, ordering_then}
use Rattle.std.specs.List.{flat_map}
use Rattle.std.specs.List.Sorted.{IsPermutation, IsSorted}
use Rattle.mw_types.specs.declared.delivery.Emission.{Emission}
use Rattle.mw_types.specs.declared.entry.Entry.{Entry}
use Rattle.mw_types.specs.declared.entry.Entry.TheVariants.{Inject, Handle, Fire}
use Rattle.mw_types.specs.Orders.{key_cmp}
use Rattle.topology.specs.Shapes.{Shape, stream_of}
use Rattle.run_history.specs.Runs.{run_of}
use Rattle.serde_json.specs.Data.{Data, object, member, no_members, string, number, unsigned}
use Rattle.serde_json.specs.Find.{of_integer}
use Rattle.serde_json.specs.Written.{compact_text}

-- what one line of the result tells of an emission
pub record ResultLine : Type 0 where
  pub stream : List ℕ
  pub stamp : ℕ
  pub key : List ℕ
  pub value : ℤ

-- the line of an emission
abbrev pub line_of : Shape → Emission → ResultLine
line_of shape e = record {
  stream = stream_of shape e.part;
  stamp = e.item.stamp;
  key = e.item.key;
  value = e.item.value;
}

-- lines stand by stream, timestamp, key and value
abbrev pub line_cmp : ResultLine → ResultLine → Ordering
line_cmp a b = ordering_then (key_cmp a.stream b.stream)
    (ordering_then (nat_cmp a.stamp b.stamp) (ordering_then (key_cmp a.key b.key) (int_cmp a.value b.value)))

-- a JSON text as a line
abbrev pub as_line : Data → List ℕ
as_line value = compact_text value ++ 10 ∷ []

-- a line as an object
abbrev pub line_data : ResultLine → Data
line_data line = object
    (member (codes "key") (string line.key)
    (member (codes "stream") (string line.stream)
    (member (codes "ts") (number (unsigned line.stamp))
    (member (codes "value") (number (of_integer line.value)) no_members))))

-- whether an entry injects a record
abbrev pub is_inject : Entry → Bool
is_inject (Inject seq part line item) = true
is_inject _ = false

-- whether an entry handles a record
abbrev pub is_handle : Entry → Bool
is_handle (Handle seq row id effects) = true
is_handle _ = false

-- whether an entry fires a timer
abbrev pub is_fire : Entry → Bool
is_fire (Fire seq row timer mark effects) = true
is_fire _ = false

-- whether an entry injects a late record
abbrev pub is_late : Entry → Bool
is_late (Inject seq part line item) = item.late
is_late _ = false

-- how many timers fired, records were handled and injected, and injected records were late
abbrev pub summary_data : List Entry → Data
summary_data history = object
    (member (codes "fired") (number (unsigned (count_by is_fire history)))
    (member (codes "handled") (number (unsigned (count_by is_handle history)))
    (member (codes "injected") (number (unsigned (count_by is_inject history)))
    (member (codes "late") (number (unsigned (count_by is_late history))) no_members))))

-- the text is the result of the history: the lines of its emissions, sorted, and the summary line
pub record IsResultText (shape : Shape) (history : List Entry) (text : List ℕ) : Type 0 where
  pub lines : List ResultLine
  pub each_once : IsPermutation (map (line_of shape) (run_of shape history).emissions) lines
  pub in_order : IsSorted line_cmp lines
  pub spelled : text ≡ flat_map (λ line. as_line (line_data line)) lines ++ as_line (summary_data history)

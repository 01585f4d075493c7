-- The line that tells of an emission while a run goes on: one JSON object, as `serde_json` prints it, and LF.
-- Own. An emission's id is that of Akidau et al., VLDB 2013, section 6.1, and never changes.
use Rattle.std.specs.Prelude.{◌<◌, ◌^◌, ℕ, ℤ, List, codes, IsTrue, FitsSigned}
use Rattle.std.specs.Int.{w64}
use Rattle.mw_types.specs.declared.identity.RecordId.{RecordId}
use Rattle.mw_types.specs.declared.delivery.Emission.{Emission}
use Rattle.topology.specs.Shapes.{Shape, stream_of}
use Rattle.topology.specs.Rules.{is_name}
use Rattle.row_parts.specs.Contents.{IsId}
use Rattle.mw_types.specs.Bounds.{IsKey}
use Rattle.run_history.specs.Texts.{as_line}
use Rattle.run_history.specs.HistoryLines.{id_data}
use Rattle.serde_json.specs.Data.{Data, object, member, no_members, string, number, unsigned}
use Rattle.serde_json.specs.Find.{of_integer}
use Rattle.serde_json.specs.Written.{compact_text}

-- what a live line tells of an emission
pub record LiveLine : Type 0 where
  pub id : RecordId
  pub key : List ℕ
  pub stream : List ℕ
  pub stamp : ℕ
  pub value : ℤ

-- the line of an emission
abbrev pub live_of : Shape → Emission → LiveLine
live_of shape e = record {
  id = e.id;
  key = e.item.key;
  stream = stream_of shape e.part;
  stamp = e.item.stamp;
  value = e.item.value;
}

-- a live line as an object
abbrev pub live_data : LiveLine → Data
live_data line = object
    (member (codes "id") (id_data line.id)
    (member (codes "key") (string line.key)
    (member (codes "stream") (string line.stream)
    (member (codes "ts") (number (unsigned line.stamp))
    (member (codes "value") (number (of_integer line.value)) no_members)))))

-- what a live line has before its LF
abbrev pub live_text : LiveLine → List ℕ
live_text line = compact_text (live_data line)

-- the live line of an emission
abbrev pub live_line_of : Shape → Emission → List ℕ
live_line_of shape e = as_line (live_data (live_of shape e))

-- a line tells what an emission can be: its id can be printed, its key is one, its stream could be published,
-- and its timestamp and its value have 64 bits
pub record IsLive (line : LiveLine) : Type 0 where
  pub id : IsId line.id
  pub key : IsKey line.key
  pub stream : IsTrue (is_name line.stream)
  pub stamp : line.stamp < 2 ^ 64
  pub value : FitsSigned w64 line.value

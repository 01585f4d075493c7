-- What an event file holds: its record lines in order, each behind the watermark lines before it. Own.
use Rattle.std.specs.Prelude.{ℕ, ◌+◌, ◌-◌, ◌==◌, ℤ, List, [], ◌∷◌, max, nat_lt, if◌then◌else◌, Result, Ok, Err}
use Rattle.text_lines.specs.Lines.{lines_of}
use Rattle.injector.specs.Sources.{SourceLine, Source}
use Rattle.injector.specs.declared.item.Item.{Item}
use Rattle.injector.specs.EventLines.{line_reading}
use Rattle.injector.specs.declared.reading.LineKind.{LineKind}
use Rattle.injector.specs.declared.reading.LineKind.TheVariants.{Blank, Watermark, Record}
use Rattle.injector.specs.declared.refusal.LineWhy.{LineWhy}
use Rattle.injector.specs.declared.refusal.LineWhy.TheVariants.{TooManyLines}
use Rattle.injector.specs.declared.refusal.LinesRefusal.{LinesRefusal}
use Rattle.injector.specs.declared.refusal.LinesRefusal.TheVariants.{Line}

-- the line of this record, behind this watermark
abbrev pub source_line : Item → ℕ → SourceLine
source_line item mark = record { item = item; stated = mark }

-- a record behind a watermark, late exactly where it is below
abbrev pub item_of : ℕ → List ℕ → ℕ → ℤ → Item
item_of mark key stamp value =
    record { record_key = key; stamp = stamp; value = value; late = nat_lt stamp mark }

-- a line and what follows it, or why that is refused
abbrev pub before : SourceLine → Result Source LinesRefusal → Result Source LinesRefusal
before line (Ok lines) = Ok (line ∷ lines)
before line (Err refusal) = Err refusal

-- what a line of this number and those after it hold
-- `rest` is what those hold, by the room and the greatest watermark that the line leaves
abbrev pub with_line :
    ℕ → ℕ → ℕ → Result LineKind LineWhy → (ℕ → ℕ → Result Source LinesRefusal) → Result Source LinesRefusal
with_line n room mark (Err why) rest = Err (Line n why)
with_line n room mark (Ok Blank) rest = rest room mark
with_line n room mark (Ok (Watermark stamp)) rest = rest room (max mark stamp)
with_line n room mark (Ok (Record key stamp value)) rest =
    if room == 0 then Err (Line n TooManyLines)
    else before (source_line (item_of mark key stamp value) mark) (rest (room - 1) mark)

-- what the lines from this number on hold, with this room and under the greatest watermark so far
abbrev pub source_from : ℕ → ℕ → ℕ → List (List ℕ) → Result Source LinesRefusal
source_from n room mark [] = Ok []
source_from n room mark (line ∷ lines) =
    with_line n room mark (line_reading line) (λ left greatest. source_from (n + 1) left greatest lines)

-- what a file holds, or its first line, from 1, that breaks a rule, and the first rule that it breaks
abbrev pub source_in : ℕ → List ℕ → Result Source LinesRefusal
source_in room bytes = source_from 1 room 0 (lines_of bytes)

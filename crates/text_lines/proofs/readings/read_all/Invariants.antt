use Rattle.std.proofs.Common.{◌≡◌, ◌+◌, ◌≤◌, length}
use Rattle.std.specs.Prelude.{All}
use Rattle.text_lines.specs.Lines.{lines_of}
use Rattle.text_lines.specs.Readings.{lines_read, read_from}
use Rattle.text_lines.specs.Progress.{followed_by}
use Rattle.text_lines.proofs.readings.read_all.Given as goal

-- the text says what has been read, and then what the lines that are left say
abbrev pub invariant-loop-rest : goal.invariant-loop-rest
invariant-loop-rest g l = record {
  same :
      lines_read (g.R.LineReader.reading l.reader) l.bytes
      ≡ followed_by l.said (read_from (g.R.LineReader.reading l.reader) (l.line + 1) (lines_of l.rest));
  lawful : All (g.R.LineReader.lawful l.reader) l.said;
  few : l.line + length l.rest ≤ length l.bytes;
}

abbrev pub decreases-loop-rest : goal.decreases-loop-rest
decreases-loop-rest g l = length l.rest

use Rattle.std.proofs.Common.{◌≡◌, ◌+◌, ◌≤◌, length}
use Rattle.text_lines.specs.Lines.{lines_of}
use Rattle.injector.specs.EventFiles.{source_from, source_in}
use Rattle.injector.specs.Progress.{followed_by}
use Rattle.injector.proofs.lines.read_lines.Given as goal

-- the file holds what has been read, and then what the lines that are left hold
abbrev pub invariant-loop-rest : goal.invariant-loop-rest
invariant-loop-rest l = record {
  same :
      source_in l.room l.bytes
      ≡ followed_by l.progress.items (source_from (l.line + 1) l.progress.room l.progress.mark (lines_of l.rest));
  few : l.line + length l.rest ≤ length l.bytes;
}

abbrev pub decreases-loop-rest : goal.decreases-loop-rest
decreases-loop-rest l = length l.rest

use Rattle.std.proofs.Common.{◌≡◌, ◌+◌, ◌≤◌, [], length}
use Rattle.text_lines.specs.Lines.{lines_of}
use Rattle.live_outlet.specs.Progress.{lines_taken}
use Rattle.live_outlet.proofs.collecting.collect.Given as goal

-- the text is taken as what was found and the lines that are left
abbrev pub invariant-loop-rest : goal.invariant-loop-rest
invariant-loop-rest l = record {
  same :
      lines_taken (record { firsts = []; other = 0 }) 1 (lines_of l.bytes)
      ≡ lines_taken (record { firsts = l.firsts.entries; other = l.other }) (l.line + 1) (lines_of l.rest);
  few : l.line + length l.rest ≤ length l.bytes;
  most : l.other ≤ l.line;
}

abbrev pub decreases-loop-rest : goal.decreases-loop-rest
decreases-loop-rest l = length l.rest

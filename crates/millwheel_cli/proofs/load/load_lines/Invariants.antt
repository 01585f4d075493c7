use Rattle.std.proofs.Common.{◌≡◌, ◌<◌}
use Rattle.millwheel_cli.specs.Loads.{drawn, load_text}
use Rattle.millwheel_cli.proofs.load.load_lines.Given as goal

-- the text has the lines so far, and the number is the one that was drawn last
abbrev pub invariant-loop-line : goal.invariant-loop-line
invariant-loop-line l = record {
  number : l.number ≡ drawn l.seed l.line;
  range : l.number < 65537;
  text : l.text.items ≡ load_text l.seed l.line;
}

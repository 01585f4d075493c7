use Rattle.std.proofs.Common.{◌≡◌, length}
use Rattle.millwheel_cli.proofs.form.no_lines.Given as goal

-- there are as many sources as were made so far
abbrev pub invariant-loop : goal.invariant-loop
invariant-loop l = length l.sources ≡ l.counter

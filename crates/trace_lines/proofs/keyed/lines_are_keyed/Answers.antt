use Rattle.std.proofs.Common.{subst, arith}
use Rattle.std.specs.Prelude.{All}
use Rattle.std.proofs.lemmas.List.{take_all}
use Rattle.trace_lines.specs.Values.{HasKeyAndValue}
use Rattle.trace_lines.proofs.keyed.lines_are_keyed.Goals as goal

pub returns : goal.returns
returns c = subst (All HasKeyAndValue) (take_all c.loop-line.line c.args.items.now
    (omega (arith, c.loop-line-test.false, c.count-line-end.ensures.count))) c.loop-line.invariant

use Rattle.std.proofs.Math.Seq.{drop-length}
use Rattle.std.proofs.lemmas.List.{take_rest}
use Rattle.trace_lines.proofs.Cutting.{lines_in-first, lines_in-last}
use Rattle.trace_lines.proofs.lines.next_line.Goals as goal

pub returns-in-Some-clause-lines : goal.returns-in-Some-clause-lines
returns-in-Some-clause-lines c =
    rw (take_rest) (lines_in-first c.args.rest.now c.in-Some.at c.in-Some.ensures.0 c.in-Some.ensures.1)

pub returns-in-None-clause-lines : goal.returns-in-None-clause-lines
returns-in-None-clause-lines c =
    rw (take_rest, drop-length) (lines_in-last c.args.rest.now c.requires.some c.in-None.ensures)

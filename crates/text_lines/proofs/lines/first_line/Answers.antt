use Rattle.std.proofs.Math.Seq.{drop-length}
use Rattle.std.proofs.lemmas.List.{take_rest}
use Rattle.text_lines.proofs.Splitting.{lines_of-first, lines_of-last}
use Rattle.text_lines.proofs.lines.first_line.Goals as goal

pub returns-in-Some-clause-lines : goal.returns-in-Some-clause-lines
returns-in-Some-clause-lines c =
    rw (c.without_return.ensures.line, take_rest)
    (lines_of-first c.args.rest.now c.in-Some.at c.in-Some.ensures.0 c.in-Some.ensures.1)

pub returns-in-None-clause-lines : goal.returns-in-None-clause-lines
returns-in-None-clause-lines c =
    rw (c.without_return-in-None.ensures.line, take_rest, drop-length)
    (lines_of-last c.args.rest.now c.requires.some c.in-None.ensures)

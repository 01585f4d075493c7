use Rattle.std.proofs.Common.{◌+◌}
use Rattle.text_lines.specs.Lines.{lines_of}
use Rattle.text_lines.specs.Readings.{lines_read, read_from}
use Rattle.text_lines.proofs.Sayings.{refused_behind}
use Rattle.text_lines.proofs.readings.read_all.Goals as goal

pub returns-in-Err-clause-refused : goal.returns-in-Err-clause-refused
returns-in-Err-clause-refused g c =
    let reading = g.R.LineReader.reading c.args.reader.now in
    let left = read_from reading (c.loop-rest.line + 1) (lines_of c.loop-rest.rest.now) in
    let after = read_from reading (c.loop-rest.line + 1 + 1) (lines_of c.first_line.result.1.now) in
    refused_behind c.loop-rest.said (lines_read reading c.args.bytes.now) left c.in-Err.why c.loop-rest.invariant.same
    (rw c.first_line.ensures.lines (c.in-Err.ensures.refuses after))

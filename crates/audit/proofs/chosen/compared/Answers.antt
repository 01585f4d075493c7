use Rattle.audit.proofs.Choosing.{entry-line, next-is}
use Rattle.audit.proofs.chosen.compared.Goals as goal

pub is_line_of-requires : goal.is_line_of-requires
is_line_of-requires c = record {
  printable = entry-line c.args.entry (next-is c.args.standing.now.case c.args.standing.now.history c.args.entry c.requires.room c.requires.may);
}

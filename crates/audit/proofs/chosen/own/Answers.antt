use Rattle.std.proofs.Common.{◌≡◌, true, subst, sym}
use Rattle.std.proofs.lemmas.Bool.{both_ways}
use Rattle.trace_lines.specs.Lines.{text_of_entry}
use Rattle.audit.proofs.Choosing.{entry-line, next-is, none-own}
use Rattle.audit.proofs.chosen.own.Goals as goal

pub is_line_of-requires : goal.is_line_of-requires
is_line_of-requires c = record {
  printable = entry-line c.args.entry (next-is c.args.standing.now.case c.args.standing.now.history c.args.entry c.requires.room c.requires.may);
}

-- the line of the one entry that has the choice is another
pub returns-else-branch : goal.returns-else-branch
returns-else-branch c =
    none-own c.args.standing.now.case c.args.standing.now.history c.args.line.now c.args.entry c.requires.room c.requires.told c.requires.may
    (λ same. let yes : c.in_ok-is_line_of.field-0 ≡ true = c.in_ok-is_line_of.ensures.1
    (subst (λ n. text_of_entry n c.args.entry ≡ c.args.line.now) (sym c.requires.number) same) in
    both_ways c.in_ok-is_line_of.field-0 c.if-branch.false yes)

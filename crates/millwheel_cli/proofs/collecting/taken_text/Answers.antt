use Rattle.std.proofs.Common.{rules}
use Rattle.millwheel_cli.proofs.Gathering.{taken-agreed, why-refused}
use Rattle.millwheel_cli.proofs.collecting.taken_text.Goals as goal

-- a text is refused for its first line that differs
pub returns-in_err-collected-clause-refused : goal.returns-in_err-collected-clause-refused
returns-in_err-collected-clause-refused c =
    search (rules, why-refused c.args.bytes.now c.in_err-collected.field-0.0 c.in_err-collected.ensures.refused)

-- and taken where none does
pub returns-clause-taken : goal.returns-clause-taken
returns-clause-taken c = taken-agreed c.args.bytes.now c.in_ok-collected.ensures.collected.agree

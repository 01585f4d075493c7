use Rattle.std.proofs.Common.{◌≡◌, None, rules, arith}
use Rattle.audit.specs.Guesses.{entry_guessed}
use Rattle.audit.proofs.Guessing.{given-answer, none-line}
use Rattle.audit.proofs.forms.is_entry_line.Goals as goal

pub returns-in-Ok : goal.returns-in-Ok
returns-in-Ok c = given-answer c.args.n c.args.line.now c.in-Ok.entry (omega arith) c.in-Ok.ensures.is c.in-Ok.ensures.told
    c.is_line_of.result c.is_line_of.ensures

pub returns-in-Err-NoEntry : goal.returns-in-Err-NoEntry
returns-in-Err-NoEntry c =
    let none : entry_guessed c.args.line.now ≡ None = search rules in
    (λ t. absurd cc, λ of. absurd (none-line c.args.n c.args.line.now (omega arith) none of))

use Rattle.std.proofs.Common.{rules}
use Rattle.audit.proofs.Choosing.{none-told}
use Rattle.audit.proofs.chosen.entry_told.Goals as goal

pub returns-in-None : goal.returns-in-None
returns-in-None c =
    none-told c.args.standing.now.case c.args.standing.now.history c.args.line.now
    (record { real = c.requires.real; lawful = c.history.ensures.lawful; few = c.requires.few })
    (search rules)

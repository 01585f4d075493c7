use Rattle.std.proofs.Common.{subst}
use Rattle.audit.specs.Choices.{IsChosen}
use Rattle.audit.proofs.Choosing.{none-chosen}
use Rattle.audit.proofs.chosen.chosen.Goals as goal

pub returns-in-None : goal.returns-in-None
returns-in-None c =
    let case = c.args.standing.now.case in
    let history = c.args.standing.now.history in
    none-chosen case history c.args.line.now c.args.choice.now c.requires.room c.requires.told
    (subst (IsChosen case history c.args.choice.now) c.in-None.is c.in_ok-entry.ensures.chosen)

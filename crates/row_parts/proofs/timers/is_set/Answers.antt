use Rattle.std.proofs.Common.{◌∙◌, sym}
use Rattle.row_parts.proofs.ChangeLaws.{again_same, timers_stay}
use Rattle.row_parts.proofs.timers.is_set.Goals as goal

pub returns-in-Ok : goal.returns-in-Ok
returns-in-Ok c = λ is. timers_stay c.args.timer _ c.args.timers.now c.in-Ok.at c.in-Ok.ensures
    (again_same c.args.timer _ (sym c.stays.ensures ∙ is))

use Rattle.std.proofs.Common.{◌++◌, ap, ◌∙◌}
use Rattle.live_outlet.specs.Outlets.{live_lines}
use Rattle.live_outlet.proofs.Pumping.{owed-piece}
use Rattle.live_outlet.proofs.outlet.piece.Goals as goal

pub returns-clause-piece : goal.returns-clause-piece
returns-clause-piece c =
    c.in_ok-append_lines.ensures.appended
    ∙ ap (λ l. l ++ live_lines c.args.case.now.topology c.args.emissions.now) c.in_ok-piece.ensures
    ∙ owed-piece c.args.case.now.topology c.args.owes c.args.emissions.now c.requires.some

use Rattle.std.proofs.Common.{◌∙◌, rules}
use Rattle.node.proofs.KindLaws.{kinds_work}
use Rattle.millwheel_tests.proofs.tests.bad_days.worlds.work.Goals as goal

-- the parts are those of the case's topology
pub returns-in-Ok : goal.returns-in-Ok
returns-in-Ok c =
    let made = c.in-Ok.ensures in
    kinds_work c.args.case.now.topology c.in-Ok.kinds (made.injectors ∙ search (rules, c.case.view_is))
    (made.kinds ∙ search (rules, c.case.view_is)) made.within

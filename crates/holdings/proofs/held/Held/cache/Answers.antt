use Rattle.std.proofs.Common.{◌∙◌, ap, sym}
use Rattle.run_history.specs.Runs.{cached, row_in}
use Rattle.holdings.specs.Holding.{HeldView}
use Rattle.holdings.proofs.HeldRows.{cached-already}
use Rattle.holdings.proofs.held.Held.cache.Goals as goal

-- a row that is cached already is as it is
pub returns-in-Some-clause-there : goal.returns-in-Some-clause-there
returns-in-Some-clause-there c =
    cached-already c.args.case.now.topology c.args.name.now c.in-Some.field-0.now c.args.self.now c.requires.ordered
    (ap (λ (h : HeldView). row_in (cached h.rows) c.args.name.now) (sym c.self.view_is) ∙ sym c.in-Some.ensures)

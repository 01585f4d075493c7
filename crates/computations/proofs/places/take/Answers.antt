use Rattle.std.proofs.Common.{◌∙◌}
use Rattle.computations.proofs.Searching.{remove-read}
use Rattle.computations.proofs.places.take.Goals as goal

-- the others stay
pub returns-clause-gone : goal.returns-clause-gone
returns-clause-gone g c =
    c.in_ok-remove.ensures.removed ∙ remove-read g.X.Numbered.number c.args.xs.now c.requires.ascending
    c.args.at c.element_at-element.result c.element_at-element.ensures

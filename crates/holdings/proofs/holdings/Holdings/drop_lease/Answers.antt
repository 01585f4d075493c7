use Rattle.std.proofs.Common.{◌∙◌, ap, List}
use Rattle.std.specs.Prelude.{None, Option}
use Rattle.holdings.specs.Holding.{HeldView, held_at}
use Rattle.holdings.proofs.HeldPlaces.{held-gone, held-others}
use Rattle.holdings.proofs.HeldSteps.{AreAllHeld-fewer}
use Rattle.holdings.proofs.holdings.Holdings.drop_lease.Goals as goal

-- what is held of the other intervals still fits
pub returns-clause-fits : goal.returns-clause-fits
returns-clause-fits c = λ case desk are.
    AreAllHeld-fewer case desk c.args.self.now c.take_in.new.all.items c.args.interval
    (ap (λ (l : List (Option HeldView)). held_at l c.args.interval) c.take_in.ensures.gone
    ∙ held-gone c.self.inside.all.items c.args.interval)
    (λ j apart. ap (λ (l : List (Option HeldView)). held_at l j) c.take_in.ensures.gone
    ∙ held-others c.self.inside.all.items c.args.interval None j apart
    ∙ ap (λ (l : List (Option HeldView)). held_at l j) c.self.view_is) are

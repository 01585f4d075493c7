use Rattle.std.proofs.Common.{rules, subst, sym, length, ◌<◌, ◌^◌, ◌≡◌}
use Rattle.mw_types.specs.Bounds.{AreHeld}
use Rattle.computations.specs.Handlers.{held_with}
use Rattle.computations.specs.Bounded.{AreHeld-held_with}
use Rattle.computations.proofs.spike.hold.Goals as goal

-- with one more the totals stay within bounds
pub returns-clause-within : goal.returns-clause-within
returns-clause-within c =
    let held = c.args.held.now in
    let entered : c.enter.new.xs ≡ held_with held c.args.stamp c.args.value = search rules in
    let few = subst (λ l. length l < 2 ^ 32) entered c.in_ok-enter.ensures.few in
    subst AreHeld (sym entered)
    (AreHeld-held_with held c.args.stamp c.args.value c.requires.within c.requires.in_time few)

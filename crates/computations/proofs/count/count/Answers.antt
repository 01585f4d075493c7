use Rattle.std.proofs.Common.{subst, sym, length, ◌<◌, ◌^◌}
use Rattle.mw_types.specs.Bounds.{AreWindows}
use Rattle.computations.specs.Bounded.{AreWindows-counted}
use Rattle.computations.proofs.count.count.Goals as goal

-- with one more record the windows stay within bounds
pub returns-clause-within : goal.returns-clause-within
returns-clause-within c =
    let entered = c.in_ok-enter.ensures.entered in
    let few = subst (λ l. length l < 2 ^ 32) entered c.in_ok-enter.ensures.few in
    subst AreWindows (sym entered)
    (AreWindows-counted c.args.windows.now c.args.end c.requires.within c.requires.in_time few)

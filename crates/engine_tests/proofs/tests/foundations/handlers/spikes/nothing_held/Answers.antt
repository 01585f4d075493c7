use Rattle.std.proofs.Common.{length, subst, sym, ap, arith}
use Rattle.mw_types.specs.Bounds.{AreHeld}
use Rattle.computations.proofs.Fresh.{AreHeld-none}
use Rattle.engine_tests.proofs.tests.foundations.handlers.spikes.nothing_held.Goals as goal

pub returns-clause-within : goal.returns-clause-within
returns-clause-within c = (
  omega arith,
  subst AreHeld (sym c.new.ensures.empty) AreHeld-none,
  omega (arith, ap length c.new-2.ensures.empty),
)

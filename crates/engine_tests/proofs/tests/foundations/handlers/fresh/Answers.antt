use Rattle.std.proofs.Common.{subst, sym, arith}
use Rattle.mw_types.specs.Bounds.{AreWindows}
use Rattle.computations.proofs.Fresh.{AreWindows-none}
use Rattle.engine_tests.proofs.tests.foundations.handlers.fresh.Goals as goal

pub returns-clause-within : goal.returns-clause-within
returns-clause-within c = (omega arith, subst AreWindows (sym c.new.ensures.empty) AreWindows-none)

use Rattle.std.proofs.Common.{sym, subst}
use Rattle.mw_types.specs.Bounds.{IsWithin}
use Rattle.run_history.proofs.Fitting.{IsWithin-fresh_state}
use Rattle.run_history.proofs.first.first_state.Goals as goal

pub returns-clause-within : goal.returns-clause-within
returns-clause-within c = subst IsWithin (sym c.fresh_state.ensures) (IsWithin-fresh_state c.kind.result)

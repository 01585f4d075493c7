-- What a handler's change of the state does to its context. Own.
use Rattle.std.specs.Borrow.{Lends, MutBor, Fml}
use Rattle.mw_types.specs.declared.state.State.{State}
use Rattle.mw_types.specs.contracts.state.State.{the_row as state_row}
use Rattle.computations.specs.contracts.context.Context.{the_row}
use Rattle.computations.specs.Handlings.{Handling}

-- the context ends with the state that was last written, and else as it was
abbrev pub LendsState : MutBor Handling → MutBor State → Fml
LendsState context state = Lends the_row state_row context state (λ s. record context.now { state = s })

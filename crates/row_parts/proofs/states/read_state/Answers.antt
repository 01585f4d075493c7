use Rattle.std.proofs.Common.{arith}
use Rattle.row_parts.proofs.StateLaws.{state_found, state_only, state_damaged}
use Rattle.row_parts.proofs.states.read_state.Goals as goal

pub returns-clause-found : goal.returns-clause-found
returns-clause-found c = state_found c.args.bytes.now c.take_whole.result (λ i. omega (arith, c.type_inv.bytes i)) c.take_whole.ensures

pub returns-clause-only : goal.returns-clause-only
returns-clause-only c = state_only c.args.bytes.now c.take_whole.result c.take_whole.ensures

pub returns-clause-damaged : goal.returns-clause-damaged
returns-clause-damaged c = state_damaged c.args.bytes.now c.take_whole.result c.take_whole.ensures

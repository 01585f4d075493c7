use Rattle.std.proofs.Common.{rules, arith}
use Rattle.audit.proofs.Guessing.{state-none, state-read}
use Rattle.audit.proofs.parts.state_of.Goals as goal

pub returns-in-Ok-clause-told : goal.returns-in-Ok-clause-told
returns-in-Ok-clause-told c = state-read c.args.bytes.now c.in-Ok.state c.in-Ok.ensures.found

pub returns-in-Err-Damaged-clause-told : goal.returns-in-Err-Damaged-clause-told
returns-in-Err-Damaged-clause-told c =
    state-none c.args.bytes.now (λ i. omega (arith, c.type_inv.bytes i)) (c.read_state.ensures.damaged (search rules))

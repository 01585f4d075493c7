use Rattle.std.proofs.Common.{cond, true, ◌∙◌}
use Rattle.weak_relay.specs.Relays.{holds, is_same}
use Rattle.weak_relay.proofs.relay.Relay.forward.Goals as goal

-- std says of every key what the set has of it then; the set before is what the relay was seen as
pub returns-clause-among : goal.returns-clause-among
returns-clause-among c another =
    c.in_ok-insert.ensures.updates.0 another ∙ λ i. cond (is_same c.args.id another) true (holds (c.self.view_is i) another)

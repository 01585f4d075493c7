use Rattle.std.proofs.Common.{arith}
use Rattle.row_parts.proofs.RowLemmas.{delivery_appended}
use Rattle.row_parts.proofs.deliveries.add_delivery.Goals as goal

pub returns-clause-deliveries : goal.returns-clause-deliveries
returns-clause-deliveries c = delivery_appended c.args.delivery c.args.deliveries.now c.push.new.self c.requires.deliveries
    (record { id = c.requires.id; to = c.has_keys.ensures.to; key = c.has_keys.ensures.key; stamp = c.requires.stamp }) c.requires.above
    (omega arith) c.in_ok-push.ensures.appended

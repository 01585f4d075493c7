use Rattle.std.proofs.Common.{arith, subst}
use Rattle.std.specs.Prelude.{All}
use Rattle.row_parts.proofs.ChangeLaws.{HasKeys, deliveries_appended}
use Rattle.row_parts.proofs.deliveries.add_deliveries.Goals as goal

pub returns-clause-deliveries : goal.returns-clause-deliveries
returns-clause-deliveries c = deliveries_appended c.args.deliveries.now c.args.more c.join.new.deliveries c.requires.deliveries
    (subst (All HasKeys) c.as_slice.ensures.elements c.have_keys.ensures) c.requires.ids c.requires.stamps c.requires.ascending
    (omega (arith, c.in_default.ensures, c.len.ensures.count, c.len-2.ensures.count)) c.in_ok-join.ensures.ok

use Rattle.std.proofs.Common.{◌≡◌, ◌+◌, ◌++◌, ◌^◌, ◌∷◌, [], true, length, rules}
use Rattle.std.specs.Prelude.{None, nat_le, slice_get, slice_set, unwrap_or}
use Rattle.weak_relay.specs.Relays.{with_id}
use Rattle.world.proofs.scripts.RelayLaws.{passed-more}
use Rattle.world.proofs.scripts.relays.forward.Goals as goal

-- the record passes
pub returns-clause-passed : goal.returns-clause-passed
returns-clause-passed c =
    let flight = c.args.flight.now.items in
    let room : nat_le (length flight + 1) (2 ^ 32) ≡ true = search rules in
    let behind : c.pass_on.new.flight.items ≡ slice_set flight c.args.message None ++ unwrap_or (slice_get flight c.args.message) None ∷ [] =
    search rules in
    passed-more c.args.message flight c.pass_on.new.flight.items c.args.left.now.items c.pass_on.new.left.items c.args.relay.now
    (with_id c.args.id c.args.relay.now) c.forward.new.self room behind (search rules) (search rules)

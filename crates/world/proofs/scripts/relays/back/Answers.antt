use Rattle.std.proofs.Common.{◌≡◌, ◌+◌, ◌++◌, ◌^◌, ◌∷◌, [], true, false, length, rules}
use Rattle.std.specs.Prelude.{None, nat_le, slice_get, slice_set, unwrap_or}
use Rattle.weak_relay.specs.Relays.{holds}
use Rattle.world.proofs.scripts.RelayLaws.{word-lost, word-more}
use Rattle.world.proofs.scripts.relays.back.Goals as goal

-- the word is lost
pub returns-then-not-holds-clause-passed : goal.returns-then-not-holds-clause-passed
returns-then-not-holds-clause-passed c =
    let lacks : holds c.args.relay.now c.args.id ≡ false = search rules in
    word-lost c.args.message c.args.id c.args.flight.now.items c.take_out.new.flight.items c.args.left.now.items c.args.relay.now
    lacks c.take_out.ensures.gone

-- the word passes
pub returns-clause-passed : goal.returns-clause-passed
returns-clause-passed c =
    let flight = c.args.flight.now.items in
    let has : holds c.args.relay.now c.args.id ≡ true = search rules in
    let room : nat_le (length flight + 1) (2 ^ 32) ≡ true = search rules in
    let behind : c.pass_on.new.flight.items ≡ slice_set flight c.args.message None ++ unwrap_or (slice_get flight c.args.message) None ∷ [] =
    search rules in
    word-more c.args.message c.args.id flight c.pass_on.new.flight.items c.args.left.now.items c.pass_on.new.left.items
    c.args.relay.now c.back.new.self has room behind (search rules) c.back.ensures.given

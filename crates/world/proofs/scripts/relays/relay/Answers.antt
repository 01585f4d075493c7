use Rattle.std.proofs.Common.{◌≡◌, ◌∙◌, ◌≤◌, [], Bool, true, false, length, ap, subst, sym, rules}
use Rattle.std.specs.Prelude.{None, Some, slice_get, unwrap_or}
use Rattle.std.proofs.lemmas.Option.{slice_get-get_or}
use Rattle.node.specs.Received.{outgoing_of}
use Rattle.weak_relay.specs.Relays.{with_id}
use Rattle.world.specs.scripts.Relaying.{IsRouted, passed_in, passing_of, told_by, word_in}
use Rattle.world.specs.scripts.WorldStates.{flight_of, noteless}
use Rattle.world.specs.scripts.Worlds.{is_next, relays_on}
use Rattle.world.proofs.Results.{ok-then}
use Rattle.world.proofs.scripts.FlightLaws.{flight-at, placed-at}
use Rattle.world.proofs.scripts.OnWays.{on_way-at}
use Rattle.world.proofs.scripts.RelayLaws.{record-deed-of, relayed-by, relayed-not, relayed-other, word-deed}
use Rattle.world.proofs.scripts.relays.relay.Goals as goal

-- no message is there
pub returns-in_default-clause-acted : goal.returns-in_default-clause-acted
returns-in_default-clause-acted c =
    let flight = c.args.flight.now.items in
    let at : unwrap_or (slice_get flight c.args.message) None ≡ None = search rules in
    relayed-not c.args.relay c.args.message c.args.routes.now (flight_of flight) c.args.left.now.items c.args.relays.now.items
    (flight-at flight c.args.message ∙ ap noteless at)

-- its producer has routes
pub is_next-requires-clause-routed : goal.is_next-requires-clause-routed
is_next-requires-clause-routed c =
    let flight = c.args.flight.now.items in
    let at : unwrap_or (slice_get flight c.args.message) None ≡ Some c.in-Some.found.now = search rules in
    placed-at (IsRouted c.args.routes.now) (flight_of flight) c.args.message (outgoing_of c.in-Some.found.now) c.requires.routed
    (flight-at flight c.args.message ∙ ap noteless at)

-- what it has to pass is on its way
pub is_next-requires-clause-on_way : goal.is_next-requires-clause-on_way
is_next-requires-clause-on_way c =
    let flight = c.args.flight.now.items in
    let left = c.args.left.now.items in
    let at : unwrap_or (slice_get flight c.args.message) None ≡ Some c.in-Some.found.now = search rules in
    let number : c.to_pass.result ≡ unwrap_or (slice_get left c.args.message) 0 = search rules in
    subst (λ n. n ≤ length (relays_on c.args.routes.now (outgoing_of c.in-Some.found.now))) (sym number)
    (on_way-at c.args.routes.now (flight_of flight) left c.args.message (outgoing_of c.in-Some.found.now) c.requires.on_way
    (flight-at flight c.args.message ∙ ap noteless at))

-- another relay comes first, or none
pub returns-then-not-is_next-clause-acted : goal.returns-then-not-is_next-clause-acted
returns-then-not-is_next-clause-acted c =
    let flight = c.args.flight.now.items in
    let left = c.args.left.now.items in
    let m = outgoing_of c.in-Some.found.now in
    let at : unwrap_or (slice_get flight c.args.message) None ≡ Some c.in-Some.found.now = search rules in
    let other : is_next c.args.relay (relays_on c.args.routes.now m) m (unwrap_or (slice_get left c.args.message) 0) ≡ false = search rules in
    relayed-other c.args.relay c.args.message m c.args.routes.now (flight_of flight) left c.args.relays.now.items
    (flight-at flight c.args.message ∙ ap noteless at) other

-- word comes
pub returns-then-is_word-clause-acted : goal.returns-then-is_word-clause-acted
returns-then-is_word-clause-acted c =
    let flight = c.args.flight.now.items in
    let left = c.args.left.now.items in
    let relays = c.args.relays.now.items in
    let was = c.index_mut-here.result.now in
    let m = outgoing_of c.in-Some.found.now in
    let id = c.told_by-is_word.result.0 in
    let at : unwrap_or (slice_get flight c.args.message) None ≡ Some c.in-Some.found.now = search rules in
    let next : is_next c.args.relay (relays_on c.args.routes.now m) m (unwrap_or (slice_get left c.args.message) 0) ≡ true = search rules in
    let here : unwrap_or (slice_get relays c.args.relay) [] ≡ was =
    ap (λ o. unwrap_or o []) (slice_get-get_or relays c.args.relay was c.requires.relay) ∙ sym c.index_mut-here.ensures.value in
    let told : told_by m ≡ (id, true) = sym c.told_by-is_word.ensures ∙ ap (λ (b : Bool). (id, b)) c.if-is_word.true in
    ok-then c.back.result (λ outcome passed. relayed-by c.args.relay c.args.message m c.args.routes.now (flight_of flight) left relays
    was outcome (passing_of c.back.new.flight.items c.back.new.left.items c.back.new.relay) (word_in c.args.message id)
    (flight-at flight c.args.message ∙ ap noteless at) next here
    (λ world there holding. word-deed world c.args.relay c.args.message m id there told) passed) c.back.ensures.passed

-- a record comes
pub returns-else-is_word-clause-acted : goal.returns-else-is_word-clause-acted
returns-else-is_word-clause-acted c =
    let flight = c.args.flight.now.items in
    let left = c.args.left.now.items in
    let relays = c.args.relays.now.items in
    let was = c.index_mut-here.result.now in
    let m = outgoing_of c.in-Some.found.now in
    let id = c.told_by-is_word.result.0 in
    let at : unwrap_or (slice_get flight c.args.message) None ≡ Some c.in-Some.found.now = search rules in
    let next : is_next c.args.relay (relays_on c.args.routes.now m) m (unwrap_or (slice_get left c.args.message) 0) ≡ true = search rules in
    let here : unwrap_or (slice_get relays c.args.relay) [] ≡ was =
    ap (λ o. unwrap_or o []) (slice_get-get_or relays c.args.relay was c.requires.relay) ∙ sym c.index_mut-here.ensures.value in
    let told : told_by m ≡ (id, false) = sym c.told_by-is_word.ensures ∙ ap (λ (b : Bool). (id, b)) c.if-is_word.false in
    ok-then c.forward.result (λ outcome passed. relayed-by c.args.relay c.args.message m c.args.routes.now (flight_of flight) left relays
    was outcome (passing_of c.forward.new.flight.items c.forward.new.left.items c.forward.new.relay) (passed_in c.args.message (with_id id was))
    (flight-at flight c.args.message ∙ ap noteless at) next here
    (λ world there holding. record-deed-of world c.args.relay c.args.message m id was there told holding) passed) c.forward.ensures.passed

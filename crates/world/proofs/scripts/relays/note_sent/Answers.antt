use Rattle.std.proofs.Common.{◌≡◌, ◌∙◌, ◌++◌, ◌-◌, ap, drop, length, map, subst, sym, rules, take}
use Rattle.std.specs.Prelude.{IfSome, Option}
use Rattle.std.proofs.lemmas.List.Elements.{All-drop}
use Rattle.outbox.specs.declared.outgoing.Outgoing.{Outgoing}
use Rattle.world.specs.scripts.Relaying.{AreRouted, IsRouted, way_length}
use Rattle.world.specs.scripts.WorldStates.{flight_of}
use Rattle.world.proofs.scripts.FlightLaws.{flight-from}
use Rattle.world.proofs.scripts.relays.note_sent.Goals as goal

-- the producers of what was sent have routes
pub note_ways-requires-clause-routed : goal.note_ways-requires-clause-routed
note_ways-requires-clause-routed c =
    let flight = c.args.flight.now.items in
    let n = c.len.result in
    let routed : AreRouted c.args.routes.now (flight_of (take (length flight - n) (drop n flight))) =
    subst (AreRouted c.args.routes.now) (sym (flight-from flight n))
    (All-drop (λ (place : Option Outgoing). IfSome place (IsRouted c.args.routes.now)) n (flight_of flight) c.requires.routed) in
    rw c.as_slice.ensures.value routed

-- each has its way to go
pub returns : goal.returns
returns c =
    let flight = c.args.flight.now.items in
    let n = c.len.result in
    let whole : flight_of (take (length c.as_slice.result.now - n) (drop n c.as_slice.result.now)) ≡ drop n (flight_of flight) =
    ap (λ f. flight_of (take (length f - n) (drop n f))) c.as_slice.ensures.value ∙ flight-from flight n in
    let size : n ≡ length c.args.left.now.items = search rules in
    c.note_ways.ensures
    ∙ ap (λ places. c.args.left.now.items ++ map (way_length c.args.routes.now) places)
    (whole ∙ ap (λ k. drop k (flight_of flight)) size)

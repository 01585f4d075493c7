use Rattle.std.proofs.Common.{◌<◌, length, arith, subst, sym, ◌∙◌, ap}
use Rattle.std.specs.Prelude.{IfSome, Option}
use Rattle.std.proofs.lemmas.List.{get_or-map, length-map}
use Rattle.outbox.specs.declared.outgoing.Outgoing.{Outgoing}
use Rattle.world.specs.scripts.Relaying.{IsRouted}
use Rattle.world.specs.scripts.WorldStates.{flight_of, noteless}
use Rattle.world.proofs.scripts.relays.note_ways.Goals as goal

-- its producer has routes
pub way_length-requires : goal.way_length-requires
way_length-requires c =
    let sent = c.args.sent.now in
    let n = c.loop-place.place-index in
    let place = c.place-item.result in
    let size = length-map sent noteless in
    let less = c.loop-place-test.true in
    let within : n < length (flight_of sent) = omega (arith, size, less) in record {
      routed = subst (λ (o : Option Outgoing). IfSome o (IsRouted c.args.routes.now))
          (get_or-map noteless sent n place (noteless place) less ∙ ap noteless (sym c.place-item.is))
          (c.requires.routed n (noteless place) within);
    }

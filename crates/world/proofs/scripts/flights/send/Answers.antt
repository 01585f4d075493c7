use Rattle.std.proofs.Common.{◌≡◌, ◌+◌, ◌^◌, true, false, length, subst, sym, rules}
use Rattle.std.specs.Prelude.{All, nat_le}
use Rattle.node.specs.declared.outcome.Outcome.TheVariants as outcomes
use Rattle.world.specs.scripts.Standing.{IsFlying}
use Rattle.world.specs.scripts.WorkerCalls.{HasSent, SendsOn}
use Rattle.world.specs.scripts.WorldStates.{flight_of}
use Rattle.world.proofs.scripts.SendSteps.{send-full, send-more, sent-behind, sent-called, sent-flying, sent-none, unsent-called}
use Rattle.world.proofs.scripts.flights.send.Goals as goal

-- there are no numbers: nothing was asked
pub returns-then-not-has_numbers-clause-called : goal.returns-then-not-has_numbers-clause-called
returns-then-not-has_numbers-clause-called g c =
    unsent-called c.args.book.now c.args.node.now c.history.ensures.lawful c.requires.fits

-- as in the script
pub returns-then-not-has_numbers-clause-acted : goal.returns-then-not-has_numbers-clause-acted
returns-then-not-has_numbers-clause-acted g c =
    let full : nat_le (length c.args.flight.now.items + c.unsent-count.result) (2 ^ 32) ≡ false = search rules in
    send-full c.args.book.now c.args.node.now c.args.flight.now.items c.unsent-count.result c.unsent-count.ensures.unsent full

-- nothing came
pub returns-then-not-has_numbers-clause-sent : goal.returns-then-not-has_numbers-clause-sent
returns-then-not-has_numbers-clause-sent g c = sent-none (length c.args.node.now.outbox) (flight_of c.args.flight.now.items)

-- nor did it where memory ran out
pub returns-in_err-make_room-clause-sent : goal.returns-in_err-make_room-clause-sent
returns-in_err-make_room-clause-sent g c =
    subst (λ f. HasSent (length c.args.node.now.outbox) (flight_of c.args.flight.now.items) (flight_of f)) (sym c.make_room.ensures.same)
    (sent-none (length c.args.node.now.outbox) (flight_of c.args.flight.now.items))

-- and nothing was asked
pub returns-in_err-make_room-clause-called : goal.returns-in_err-make_room-clause-called
returns-in_err-make_room-clause-called g c =
    unsent-called c.args.book.now c.args.node.now c.history.ensures.lawful c.requires.fits

-- the worker has called its desk
pub returns-clause-called : goal.returns-clause-called
returns-clause-called g c =
    sent-called c.args.book.now c.send_all.new.book c.args.node.now c.send_all.new.node (flight_of c.make_room.new.flight.items)
    (flight_of c.send_all.new.flight.items) c.history.ensures.lawful c.history-2.ensures.lawful c.send_all.ensures.sending

-- all is sent as in the script
pub returns-clause-acted : goal.returns-clause-acted
returns-clause-acted g c =
    let count = c.unsent-count.result in
    let room : nat_le (length c.args.flight.now.items + count) (2 ^ 32) ≡ true = search rules in
    subst (λ f. SendsOn c.args.book.now c.args.node.now (flight_of f) c.send_all.new.book c.send_all.new.node
    (flight_of c.send_all.new.flight.items) (outcomes.Sent count)) c.make_room.ensures.same
    (send-more c.args.book.now c.send_all.new.book c.args.node.now c.send_all.new.node c.make_room.new.flight.items
    c.send_all.new.flight.items count c.send_all.ensures.sending c.send_all.ensures.all c.unsent-count.ensures.unsent
    (subst (λ f. nat_le (length f + count) (2 ^ 32) ≡ true) (sym c.make_room.ensures.same) room))

-- it came behind what was in flight
pub returns-clause-sent : goal.returns-clause-sent
returns-clause-sent g c =
    subst (λ f. HasSent (length c.args.node.now.outbox) (flight_of f) (flight_of c.send_all.new.flight.items)) c.make_room.ensures.same
    (sent-behind c.args.book.now c.send_all.new.book c.args.node.now c.send_all.new.node (flight_of c.make_room.new.flight.items)
    (flight_of c.send_all.new.flight.items) c.send_all.ensures.sending c.send_all.ensures.all)

-- and may have been sent
pub returns-clause-flying : goal.returns-clause-flying
returns-clause-flying g c =
    sent-flying c.args.book.now c.send_all.new.book c.args.node.now c.send_all.new.node (flight_of c.make_room.new.flight.items)
    (flight_of c.send_all.new.flight.items) c.requires.fits c.send_all.ensures.sending c.send_all.ensures.all
    (subst (λ f. All (IsFlying c.args.book.now) (flight_of f)) (sym c.make_room.ensures.same) c.requires.flying)

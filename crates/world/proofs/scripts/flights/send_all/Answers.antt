use Rattle.world.specs.scripts.WorldStates.{flight_of}
use Rattle.world.proofs.scripts.SendSteps.{sending-none, sending-on}
use Rattle.world.proofs.scripts.flights.send_all.Goals as goal

-- nothing was sent yet
pub loop-init : goal.loop-init
loop-init g c =
    (sending-none c.args.book.now c.args.node.now (flight_of c.args.flight.now.items) c.requires.fits, c.requires.room)

-- one message more
pub loop-preserved : goal.loop-preserved
loop-preserved g c = (
  sending-on c.args.book.now c.loop.book c.send_first.new.book c.args.node.now c.loop.node c.send_first.new.node
      (flight_of c.args.flight.now.items) (flight_of c.loop.flight.items) (flight_of c.send_first.new.flight.items) c.loop.invariant.0
      c.send_first.ensures.sending,
  c.send_first.ensures.room,
)

-- all was sent
pub returns-clause-sending : goal.returns-clause-sending
returns-clause-sending g c =
    sending-on c.args.book.now c.loop.book c.send_first.new.book c.args.node.now c.loop.node c.send_first.new.node
    (flight_of c.args.flight.now.items) (flight_of c.loop.flight.items) (flight_of c.send_first.new.flight.items) c.loop.invariant.0
    c.send_first.ensures.sending

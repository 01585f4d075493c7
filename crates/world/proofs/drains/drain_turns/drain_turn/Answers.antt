use Rattle.world.proofs.DrainTurnLaws.{drained-nearer}
use Rattle.world.proofs.Results.{ok-then}
use Rattle.world.proofs.drains.drain_turns.drain_turn.Goals as goal

-- a turn that wrote an entry is nearer to the limit
pub returns-clause-nearer : goal.returns-clause-nearer
returns-clause-nearer g c =
    let turned = c.turn_once-turned in
    ok-then turned.result (λ more drained is. drained-nearer c.args.book.now turned.new.book c.args.drain.now.from more drained
    c.history.ensures.lawful is) turned.ensures.drained

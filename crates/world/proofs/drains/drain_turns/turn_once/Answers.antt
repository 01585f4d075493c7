use Rattle.world.proofs.drains.DrainLaws.{not-ended}
use Rattle.world.proofs.Results.{ok-then}
use Rattle.world.proofs.drains.drain_turns.turn_once.Goals as goal

-- a claim is not the end
pub returns-in-Some-clause-ended : goal.returns-in-Some-clause-ended
returns-in-Some-clause-ended g c =
    ok-then c.claim_next.result (λ more is none. not-ended c.args.book.now more (λ told. is) none) c.claim_next.ensures.more

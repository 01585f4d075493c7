use Rattle.holdings.specs.Seens.{AreSeenLeft}
use Rattle.holdings.proofs.seen.first_seen.Given as goal

-- each row that may forget ids is among those that are left
abbrev pub invariant-loop-name : goal.invariant-loop-name
invariant-loop-name l = AreSeenLeft l.floor l.least l.rows l.name-iterator

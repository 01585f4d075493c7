use Rattle.std.proofs.Common.{◌≡◌, ◌-◌, arith, rules}
use Rattle.topology.specs.Rules.{interval_count}
use Rattle.world.proofs.DrainTurnLaws.{under_way-claim, under_way-past}
use Rattle.world.proofs.drains.drain_turns.next_claim.Goals as goal

-- an interval is left to claim
pub returns-then-claimed-from-clause-next : goal.returns-then-claimed-from-clause-next
returns-then-claimed-from-clause-next g c =
    under_way-claim c.args.book.now c.args.drain.now _ c.requires.under_way (search (rules, arith)) (search (rules, arith))

-- none is
pub returns-else-claimed-from-clause-past : goal.returns-else-claimed-from-clause-past
returns-else-claimed-from-clause-past g c = λ none.
    let all : c.from.result ≡ interval_count c.args.book.now.case.topology = search (rules, arith) in
    under_way-past c.args.book.now c.args.drain.now (c.len.result - c.drain.inside.from) c.requires.under_way
    (search (rules, arith)) (λ less. omega (arith, all, less))

use Rattle.shared_book.specs.FenceLaw.{AreClaimed}
use Rattle.shared_book.specs.Turns.{IsGrown}
use Rattle.mw_types.specs.declared.entry.Entry.TheVariants.{Claim}
use Rattle.shared_book.proofs.Calls.{claim_own, grown_by, claimed_in, as_out, in_after}
use Rattle.shared_book.proofs.claiming.claim_in.Goals as goal

pub append-requires-clause-grown : goal.append-requires-clause-grown
append-requires-clause-grown g c =
    let v = c.args.place.now.me.0 in
    let o = c.out-core in
    let b = c.of-book in
    let i = c.into_core-core in
    let k = c.in-Ok.ensures in
    as_out c.args.place.now.me o.new.place.me (λ u. IsGrown u i.result.1) o.ensures.view
    (grown_by v o.result b.result c.args.shared.now.case.now o.ensures.core b.ensures.core b.ensures.case c.requires.here.case
    c.claim-result.new.self i.result.1 i.result.0.now c.requires.turn.claimed k.same k.keeper_fault.later i.ensures.core
    i.ensures.case i.ensures.lawful (Claim c.args.worker c.args.interval) k.appended (claim_own v c.args.worker c.args.interval))

pub returns-in-Ok-clause-claimed : goal.returns-in-Ok-clause-claimed
returns-in-Ok-clause-claimed g c =
    let v = c.args.place.now.me.0 in
    let o = c.out-core in
    let b = c.of-book in
    let i = c.into_core-core in
    let k = c.in-Ok.ensures in
    claimed_in v o.result b.result c.args.shared.now.case.now o.ensures.core b.ensures.core b.ensures.case c.requires.here.case
    c.claim-result.new.self i.result.1 i.result.0.now c.requires.turn.claimed k.same k.keeper_fault.later i.ensures.core
    i.ensures.case i.ensures.lawful c.append.new.place.me.0 c.args.worker c.args.interval c.in-Ok.claimed
    (in_after c.args.place.now.me o.new.place.me c.append.new.place.me i.result.1 o.ensures.view c.append.ensures.view)
    k.appended k.lease k.rows

pub back-requires-clause-claimed : goal.back-requires-clause-claimed
back-requires-clause-claimed g c =
    as_out c.args.place.now.me c.out-core.new.place.me (λ u. AreClaimed u.front u.leases) c.out-core.ensures.view
    c.requires.turn.claimed

pub back-requires-in-Err-clause-claimed : goal.back-requires-in-Err-clause-claimed
back-requires-in-Err-clause-claimed g c =
    as_out c.args.place.now.me c.out-core.new.place.me (λ u. AreClaimed u.front u.leases) c.out-core.ensures.view
    c.requires.turn.claimed

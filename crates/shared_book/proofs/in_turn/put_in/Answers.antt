use Rattle.std.proofs.Common.{ap, ◌∙◌, length}
use Rattle.book.specs.Answers.{answer_of}
use Rattle.shared_book.specs.FenceLaw.{AreClaimed}
use Rattle.shared_book.specs.Turns.{IsGrown}
use Rattle.shared_book.proofs.Calls.{use_held, may_held, lease_own, put_entry, grown_by, stale_seen, put_in, as_out, in_after}
use Rattle.shared_book.proofs.in_turn.put_in.Goals as goal

pub put-result-requires-clause-lease : goal.put-result-requires-clause-lease
put-result-requires-clause-lease g c =
    let o = c.out-core in
    let b = c.of-book in
    use_held c.args.place.now.me.0 o.result b.result c.args.shared.now.case.now o.ensures.core b.ensures.core b.ensures.case
    c.requires.here.case c.args.lease.now c.len-front.result c.args.name.now c.requires.turn.claimed
    (c.len-front.ensures.count ∙ ap length c.history.ensures.history) c.requires.lease

pub put-result-requires-clause-may : goal.put-result-requires-clause-may
put-result-requires-clause-may g c =
    let o = c.out-core in
    let b = c.of-book in
    may_held c.args.place.now.me.0 o.result b.result c.args.shared.now.case.now o.ensures.core b.ensures.core b.ensures.case
    c.requires.here.case c.len-front.result c.args.name.now c.args.row.now c.args.writing
    (c.len-front.ensures.count ∙ ap length c.history.ensures.history) c.requires.may

pub append-requires-clause-grown : goal.append-requires-clause-grown
append-requires-clause-grown g c =
    let v = c.args.place.now.me.0 in
    let o = c.out-core in
    let b = c.of-book in
    let i = c.into_core-core in
    let k = c.in-Ok.ensures in
    let e = put_entry b.result.case b.result.rows b.result.history c.put-result.new.self.history c.args.lease.now c.args.name.now
    c.args.writing c.args.row.now (answer_of c.in-Ok.commit c.put-result.new.row) k.put in
    as_out c.args.place.now.me o.new.place.me (λ u. IsGrown u i.result.1) o.ensures.view
    (grown_by v o.result b.result c.args.shared.now.case.now o.ensures.core b.ensures.core b.ensures.case c.requires.here.case
    c.put-result.new.self i.result.1 i.result.0.now c.requires.turn.claimed k.same k.keeper_fault.later i.ensures.core
    i.ensures.case i.ensures.lawful e.entry e.appended (lease_own v c.args.lease.now e.entry c.requires.lease.held e.carries))

pub back-requires-clause-claimed : goal.back-requires-clause-claimed
back-requires-clause-claimed g c =
    as_out c.args.place.now.me c.out-core.new.place.me (λ u. AreClaimed u.front u.leases) c.out-core.ensures.view
    c.requires.turn.claimed

pub returns-in-Ok-clause-put : goal.returns-in-Ok-clause-put
returns-in-Ok-clause-put g c =
    let v = c.args.place.now.me.0 in
    let o = c.out-core in
    let b = c.of-book in
    let i = c.into_core-core in
    let k = c.in-Ok.ensures in
    put_in v o.result b.result c.args.shared.now.case.now o.ensures.core b.ensures.core b.ensures.case c.requires.here.case
    c.put-result.new.self i.result.1 i.result.0.now c.requires.turn.claimed k.same k.keeper_fault.later i.ensures.core
    i.ensures.case i.ensures.lawful c.append.new.place.me.0 c.args.lease.now c.args.name.now c.args.writing c.args.row.now
    (answer_of c.in-Ok.commit c.put-result.new.row) (in_after c.args.place.now.me o.new.place.me c.append.new.place.me i.result.1 o.ensures.view c.append.ensures.view)
    k.found k.put

pub returns-in-Err-clause-stale : goal.returns-in-Err-clause-stale
returns-in-Err-clause-stale g c =
    let o = c.out-core in
    let b = c.of-book in
    stale_seen c.args.place.now.me.0 o.result b.result c.args.shared.now.case.now o.ensures.core b.ensures.core b.ensures.case
    c.requires.here.case c.args.lease.now c.put-result.result _ c.in-Err.is c.put-result.ensures.stale

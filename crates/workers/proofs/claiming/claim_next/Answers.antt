use Rattle.std.proofs.Common.{◌<◌, arith, length, refl}
use Rattle.std.specs.Prelude.{◌%◌}
use Rattle.workers.proofs.Beginning.{claimed-by, claimed-next, claimed-still, claimed-told}
use Rattle.workers.proofs.Doing.{done-then, keeps-then}
use Rattle.workers.proofs.Holding.{hold-next, hold-told}
use Rattle.workers.proofs.claiming.claim_next.Goals as goal

pub returns-clause-done : goal.returns-clause-done
returns-clause-done g c = done-then 0 1 1 c.args.crew.now c.tell.new.crew c.claim_one.new.crew (omega arith) c.tell.ensures.done
    c.claim_one.ensures.done

pub returns-clause-passes : goal.returns-clause-passes
returns-clause-passes g c = keeps-then (λ w. w.passes) c.args.crew.now c.tell.new.crew c.claim_one.new.crew
    c.tell.ensures.done.long c.tell.ensures.passes c.claim_one.ensures.passes

pub returns-clause-orders : goal.returns-clause-orders
returns-clause-orders g c = keeps-then (λ w. w.orders) c.args.crew.now c.tell.new.crew c.claim_one.new.crew
    c.tell.ensures.done.long c.tell.ensures.orders c.claim_one.ensures.orders

-- the claims are seen by the next claimer, and one more is there where it did not fail
pub returns-clause-claimed : goal.returns-clause-claimed
returns-clause-claimed g c =
    let crew = c.args.crew.now in
    let workers = length crew in
    let at = c.args.interval % workers in
    let told = c.tell.ensures in
    let one = c.claim_one.ensures in
    let mid = c.tell.new.crew in
    let new = c.claim_one.new.crew in
    let there = c.requires.last in
    let long = told.done.long in
    let within : at < length mid = omega (arith, there, long) in
    let seen = claimed-told workers c.args.interval c.args.last at crew mid c.requires.last told.done.long told.met told.own
    c.requires.claimed in
    claimed-by c.claim_one.result workers c.args.interval at new
    (λ ok. claimed-next workers c.args.interval at mid new within one.done refl (one.claimed ok) one.others seen)
    (λ failed. claimed-still 1 workers c.args.interval at mid new within one.done (one.own failed) seen)

-- and the claimer of each has its lease
pub returns-clause-held : goal.returns-clause-held
returns-clause-held g c ok held =
    let crew = c.args.crew.now in
    let mid = c.tell.new.crew in
    let new = c.claim_one.new.crew in
    let told = c.tell.ensures in
    let one = c.claim_one.ensures in
    let there = c.requires.last in
    let long = told.done.long in
    hold-next 1 c.args.interval (c.args.interval % length crew) mid new (omega (arith, there, long)) one.done one.others (one.leased ok)
    (hold-told 0 c.args.interval crew mid told.done told.nodes held)

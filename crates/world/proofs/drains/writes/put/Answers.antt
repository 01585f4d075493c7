use Rattle.std.proofs.Common.{rules, subst, sym}
use Rattle.std.specs.Prelude.{IfSome}
use Rattle.run_history.specs.Cases.{CaseShape}
use Rattle.book.specs.OwnDesks.{own_view}
use Rattle.book.specs.Writings.{MayPut}
use Rattle.holdings.specs.Holding.{held_at, row_held}
use Rattle.world.specs.drains.Turns.{HasFailed, HasPutOwn, IsAtWork, worker_of}
use Rattle.world.proofs.drains.HeldLaws.{failed-held, held-some, put-at_work, put-held, refusal-held}
use Rattle.world.proofs.drains.writes.put.Goals as goal

-- the row's interval is held
pub put-requires-clause-there : goal.put-requires-clause-there
put-requires-clause-there g c =
    held-some c.args.book.now c.args.held.now c.args.name.now c.args.interval c.requires.at_work c.requires.covers

-- what was asked of the row is true of it
pub put-requires-clause-may : goal.put-requires-clause-may
put-requires-clause-may g c = subst (λ (k : CaseShape). IfSome (held_at c.args.held.now c.args.interval)
    (λ here. MayPut (own_view c.args.book.now) c.args.name.now (row_held k.topology here c.args.name.now) c.args.writing))
    (sym c.case-case.ensures.case) c.requires.may

-- what was written is there
pub returns-in-Ok-clause-put : goal.returns-in-Ok-clause-put
returns-in-Ok-clause-put g c =
    let new = c.put.new.desk.book.now in
    let done : IfSome (held_at c.args.held.now c.args.interval)
    (λ here. HasPutOwn c.args.book.now new here.lease.seq c.args.name.now c.args.writing) =
    put-held c.case-case.result.now.topology c.args.book.now new c.args.interval c.args.name.now c.args.writing
    c.in-Ok.field-0 c.args.held.now c.put.new.self c.in-Ok.ensures.put in search rules

-- and the drain is at work
pub returns-in-Ok-clause-at_work : goal.returns-in-Ok-clause-at_work
returns-in-Ok-clause-at_work g c =
    let new = c.put.new.desk.book.now in
    let at : IsAtWork new (worker_of c.put.new.self) =
    put-at_work c.case-case.result.now c.args.book.now new c.args.interval c.args.name.now c.args.writing
    c.in-Ok.field-0 c.args.held.now c.put.new.self c.case-case.ensures.case c.requires.at_work c.put.ensures.fits
    c.in-Ok.ensures.put in search rules

-- it is refused for no other's sake
pub fault_of-requires : goal.fault_of-requires
fault_of-requires g c = record {
  own = refusal-held c.args.book.now c.put.new.desk.book.now c.args.held.now c.args.name.now c.args.interval c.in-Err.why
      c.requires.at_work c.requires.covers c.in-Err.ensures.looked c.in-Err.ensures.reason;
}

-- and fails for its reason
pub returns-in-Err-clause-failed : goal.returns-in-Err-clause-failed
returns-in-Err-clause-failed g c =
    let new = c.put.new.desk.book.now in
    let failed : HasFailed c.args.book.now new c.fault_of.result =
    failed-held c.args.book.now new c.args.held.now c.args.name.now c.args.interval c.in-Err.why c.fault_of.result
    c.requires.at_work c.requires.covers c.fault_of.ensures c.in-Err.ensures.looked c.in-Err.ensures.reason in search rules

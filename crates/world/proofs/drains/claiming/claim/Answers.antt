use Rattle.std.proofs.Common.{rules, subst, sym}
use Rattle.book.specs.DeskReasons.{HasClaimReason}
use Rattle.book.specs.OwnDesks.{own_view}
use Rattle.world.specs.drains.Turns.{HasFailed, HasTaken, worker_of}
use Rattle.world.proofs.drains.HeldLaws.{claim-taken, refusal-claim}
use Rattle.world.proofs.drains.TurnLaws.{failed-claim}
use Rattle.world.proofs.drains.claiming.claim.Goals as goal

-- the claim is there
pub returns-in-Ok-clause-taken : goal.returns-in-Ok-clause-taken
returns-in-Ok-clause-taken g c =
    let old = c.args.book.now in
    let new = c.claim.new.desk.book.now in
    let taken : HasTaken old new c.args.interval (worker_of c.args.held.now) (worker_of c.claim.new.self) =
    claim-taken c.case-case.result.now old new c.args.interval c.in-Ok.field-0 c.args.held.now c.claim.new.self
    c.case-case.ensures.case c.claim.ensures.fits c.in-Ok.ensures.claimed in search rules

-- a claim is refused for no other's sake
pub fault_of-requires : goal.fault_of-requires
fault_of-requires g c = record {
  own = refusal-claim c.args.book.now c.claim.new.desk.book.now c.in-Err.why c.in-Err.ensures.reason;
}

-- and fails for its reason
pub returns-in-Err-clause-failed : goal.returns-in-Err-clause-failed
returns-in-Err-clause-failed g c =
    let old = c.args.book.now in
    let new = c.claim.new.desk.book.now in
    let failed : HasFailed old new c.fault_of.result = failed-claim old new c.fault_of.result c.in-Err.ensures.looked
    (subst (HasClaimReason (own_view old) (own_view new)) (sym c.fault_of.ensures) c.in-Err.ensures.reason) in search rules

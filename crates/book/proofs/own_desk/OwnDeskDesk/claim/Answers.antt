use Rattle.std.proofs.Common.{sym, subst}
use Rattle.book.specs.DeskReasons.{HasClaimReason}
use Rattle.book.specs.OwnDesks.{own_view}
use Rattle.book.proofs.OwnLaws.{claimed, looked, marks-stay}
use Rattle.book.proofs.OwnReasons.{claim-reason}
use Rattle.book.proofs.own_desk.OwnDeskDesk.claim.Goals as goal

-- the lease is claimed
pub returns-in-Ok-clause-claimed : goal.returns-in-Ok-clause-claimed
returns-in-Ok-clause-claimed g c = claimed c.args.self.now.book.now c.claim.new.self c.args.worker c.args.interval c.in-Ok.claimed
    c.in-Ok.ensures.same c.in-Ok.ensures.keeper_fault.later c.in-Ok.ensures.appended c.in-Ok.ensures.lease c.in-Ok.ensures.rows

-- no mark changes
pub returns-in-Ok-clause-marks : goal.returns-in-Ok-clause-marks
returns-in-Ok-clause-marks g c = marks-stay c.args.self.now.book.now c.claim.new.self c.in-Ok.ensures.same

-- the history has stayed
pub returns-in-Err-clause-looked : goal.returns-in-Err-clause-looked
returns-in-Err-clause-looked g c = looked c.args.self.now.book.now c.claim.new.self c.in-Err.ensures.unchanged c.in-Err.ensures.same
    c.in-Err.ensures.keeper_fault.later

-- the refusal is the book's
pub returns-in-Err-clause-reason : goal.returns-in-Err-clause-reason
returns-in-Err-clause-reason g c =
    subst (HasClaimReason (own_view c.args.self.now.book.now) (own_view c.claim.new.self)) (sym c.of_claim.ensures)
    (claim-reason c.args.self.now.book.now c.claim.new.self c.in-Err.why c.in-Err.ensures.unchanged c.in-Err.ensures.same
    c.in-Err.ensures.keeper_fault c.in-Err.ensures.full c.in-Err.ensures.damaged)

-- no mark changes
pub returns-in-Err-clause-marks : goal.returns-in-Err-clause-marks
returns-in-Err-clause-marks g c = marks-stay c.args.self.now.book.now c.claim.new.self c.in-Err.ensures.same

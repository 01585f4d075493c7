use Rattle.std.proofs.Common.{◌∙◌, arith, refl, subst, rules}
use Rattle.node.proofs.FitLaws.{looked_not, looked_twice}
use Rattle.list_lemmas.proofs.Told.{on_err-anyway}
use Rattle.workers.specs.Crews.{HasClaimedOne}
use Rattle.workers.proofs.Going.{gone-less, gone-looked}
use Rattle.workers.proofs.Trying.{cause-claim, claim-busy, claim-done, claim-kept, claim-leased, own-looked}
use Rattle.workers.proofs.claim_tries.claim.Goals as goal

pub loop-init : goal.loop-init
loop-init g c = record {
  fits = c.requires.fits;
  number = refl;
  kept = refl;
  looked = looked_not (g.D.Desk.view c.args.desk.now);
  loan = refl;
  home = refl;
}

-- a fault appended nothing
pub returns-in_err-outcome-clause-went_on : goal.returns-in_err-outcome-clause-went_on
returns-in_err-outcome-clause-went_on g c =
    let old = g.D.Desk.view c.args.desk.now in
    let new = g.D.Desk.view c.claim.new.desk in
    gone-less 0 1 old new (omega arith)
    (gone-looked old new (looked_twice old (g.D.Desk.view c.loop.desk) new c.loop.invariant.looked c.in_err-outcome.ensures.looked))

pub returns-in_err-outcome-clause-own : goal.returns-in_err-outcome-clause-own
returns-in_err-outcome-clause-own g c =
    let old = g.D.Desk.view c.args.desk.now in
    let new = g.D.Desk.view c.claim.new.desk in
    on_err-anyway c.from_residual.result
    (own-looked old new (looked_twice old (g.D.Desk.view c.loop.desk) new c.loop.invariant.looked c.in_err-outcome.ensures.looked))

-- and has its cause
pub returns-in_err-outcome-clause-cause : goal.returns-in_err-outcome-clause-cause
returns-in_err-outcome-clause-cause g c =
    let cause = cause-claim (g.D.Desk.view c.loop.desk) (g.D.Desk.view c.claim.new.desk) c.in_err-outcome.field-0.0
    c.in_err-outcome.ensures.fault in search rules

-- what is answered is a claim
pub returns-then-is_claimed-clause-went_on : goal.returns-then-is_claimed-clause-went_on
returns-then-is_claimed-clause-went_on g c =
    (claim-done c.args.case.now.topology (g.D.Desk.view c.args.desk.now) (g.D.Desk.view c.loop.desk) (g.D.Desk.view c.claim.new.desk)
    c.args.interval c.loop.node c.claim.new.self c.in_ok-outcome.outcome c.loop.invariant.looked c.in_ok-outcome.ensures.answers
    (c.if-is_claimed.ensures.claimed search)).0

pub returns-then-is_claimed-clause-claimed : goal.returns-then-is_claimed-clause-claimed
returns-then-is_claimed-clause-claimed g c =
    let done = (claim-done c.args.case.now.topology (g.D.Desk.view c.args.desk.now) (g.D.Desk.view c.loop.desk) (g.D.Desk.view c.claim.new.desk)
    c.args.interval c.loop.node c.claim.new.self c.in_ok-outcome.outcome c.loop.invariant.looked c.in_ok-outcome.ensures.answers
    (c.if-is_claimed.ensures.claimed search)).1 in
    subst (λ number. HasClaimedOne number c.args.interval (g.D.Desk.view c.args.desk.now) (g.D.Desk.view c.claim.new.desk))
    c.loop.invariant.number done

-- and the worker has its lease
pub returns-then-is_claimed-clause-leased : goal.returns-then-is_claimed-clause-leased
returns-then-is_claimed-clause-leased g c =
    claim-leased c.args.case.now.topology (g.D.Desk.view c.loop.desk) (g.D.Desk.view c.claim.new.desk) c.args.interval c.args.node.now
    c.loop.node c.claim.new.self c.in_ok-outcome.outcome c.loop.invariant.kept c.in_ok-outcome.ensures.answers
    (c.if-is_claimed.ensures.claimed search)

-- another had the turn
pub loop-preserved : goal.loop-preserved
loop-preserved g c = record {
  fits = c.claim.ensures.fits;
  number = c.claim.ensures.number ∙ c.loop.invariant.number;
  kept = claim-kept c.args.case.now.topology (g.D.Desk.view c.loop.desk) (g.D.Desk.view c.claim.new.desk) c.args.interval c.args.node.now
      c.loop.node c.claim.new.self c.in_ok-outcome.outcome c.loop.invariant.kept c.in_ok-outcome.ensures.answers
      (c.if-is_claimed.ensures.not_claimed search);
  looked = claim-busy c.args.case.now.topology (g.D.Desk.view c.args.desk.now) (g.D.Desk.view c.loop.desk) (g.D.Desk.view c.claim.new.desk)
      c.args.interval c.loop.node c.claim.new.self c.in_ok-outcome.outcome c.loop.invariant.looked c.in_ok-outcome.ensures.answers
      (c.if-is_claimed.ensures.not_claimed search);
  loan = c.claim.ensures.loan ∙ c.loop.invariant.loan;
  home = c.claim.ensures.home ∙ c.loop.invariant.home;
}

use Rattle.std.proofs.Common.{◌∙◌, ◌∷◌, [], ℕ, ap, arith, length, length-append, sym}
use Rattle.workers.specs.Crews.{desk_of}
use Rattle.workers.proofs.Trying.{cause-kept}
use Rattle.workers.proofs.crew.Worker.claim.Goals as goal

pub returns-in-Ok-clause-worker : goal.returns-in-Ok-clause-worker
returns-in-Ok-clause-worker g c =
    let old = c.args.self.now in
    let e = c.claim_at.ensures in
    record {
      seated = e.seated;
      numbers = e.numbers ∙ c.requires.worker.numbers ∙ ap (λ (n : ℕ). n ∷ []) (sym e.number);
      fits = e.fits;
      cause = cause-kept 1 (desk_of old) _ old.fault e.went_on c.requires.worker.cause;
    }

pub returns-in-Ok-clause-stepped : goal.returns-in-Ok-clause-stepped
returns-in-Ok-clause-stepped g c = record { most = 1; went_on = c.claim_at.ensures.went_on; number = c.claim_at.ensures.number }

pub returns-in-Ok-clause-few : goal.returns-in-Ok-clause-few
returns-in-Ok-clause-few g c =
    let went = c.claim_at.ensures.went_on in
    let own = ap length went.own ∙ length-append (desk_of c.args.self.now).own went.added in
    let few = went.few in
    omega (arith, own, few)

pub returns-in-Err-clause-worker : goal.returns-in-Err-clause-worker
returns-in-Err-clause-worker g c =
    let e = c.claim_at.ensures in
    record {
      seated = e.seated;
      numbers = e.numbers ∙ c.requires.worker.numbers ∙ ap (λ (n : ℕ). n ∷ []) (sym e.number);
      fits = e.fits;
      cause = c.in-Err.ensures.cause;
    }

pub returns-in-Err-clause-stepped : goal.returns-in-Err-clause-stepped
returns-in-Err-clause-stepped g c = record { most = 1; went_on = c.claim_at.ensures.went_on; number = c.claim_at.ensures.number }

pub returns-in-Err-clause-few : goal.returns-in-Err-clause-few
returns-in-Err-clause-few g c =
    let went = c.claim_at.ensures.went_on in
    let own = ap length went.own ∙ length-append (desk_of c.args.self.now).own went.added in
    let few = went.few in
    omega (arith, own, few)

use Rattle.std.proofs.Common.{◌≡◌, ℕ, length, arith, subst}
use Rattle.workers.specs.Boxes.{HavePasses}
use Rattle.workers.proofs.boxes.boxes_for.Goals as goal

-- there are as many mailboxes as intervals
pub returns-clause-passes : goal.returns-clause-passes
returns-clause-passes g c =
    let many : length c.loop.boxes.items ≡ c.args.intervals = omega arith in
    subst (λ (n : ℕ). HavePasses n c.loop.boxes.items c.loop.passes.items) many c.loop.invariant.passes

use Rattle.std.proofs.Common.{◌≡◌, ℕ, arith, inl, inr, refl, subst}
use Rattle.std.proofs.lemmas.Bool.{cases_lt}
use Rattle.workers.specs.Crews.{HasTold, desk_of}
use Rattle.workers.proofs.Doing.{done-not, done-then, keeps-then}
use Rattle.workers.proofs.TellLaws.{told-after, told-more}
use Rattle.workers.proofs.telling.tell_all.Goals as goal

pub loop-to-init : goal.loop-to-init
loop-to-init g c = record {
  workers = c.requires.workers;
  healthy = c.requires.healthy;
  done = done-not c.args.crew.now;
  passes = λ at d below. refl;
  orders = λ at d below. refl;
  nodes = λ at d below. refl;
  own = λ at d below. refl;
  told = λ at below. absurd (omega (arith, below));
}

-- one worker more was told
pub loop-to-preserved : goal.loop-to-preserved
loop-to-preserved g c =
    let old = c.args.crew.now in
    let mid = c.loop-to.crew in
    let new = c.tell.new.crew in
    let inv = c.loop-to.invariant in
    let t = c.tell.ensures in
    let long = inv.done.long in
    let from = c.requires.from in
    record {
      workers = t.workers;
      healthy = t.healthy;
      done = done-then 0 0 0 old mid new (omega arith) inv.done t.done;
      passes = keeps-then (λ w. w.passes) old mid new long inv.passes t.passes;
      orders = keeps-then (λ w. w.orders) old mid new long inv.orders t.orders;
      nodes = keeps-then (λ w. w.node) old mid new long inv.nodes t.nodes;
      own = keeps-then (λ w. (desk_of w).own) old mid new long inv.own t.own;
      told = λ at below. elim (cases_lt at c.loop-to.to) [
        | inl before ↦ told-more 0 c.args.from at old mid new (omega arith) t.done (inv.told at before)
        | inr past ↦
            let same : c.loop-to.to ≡ at = omega (arith, below, past) in
            subst (λ (n : ℕ). HasTold c.args.from n old new) same
            (told-after 0 c.args.from c.loop-to.to old mid new from inv.done t.met)
      ];
    }

-- all were
pub returns-clause-met : goal.returns-clause-met
returns-clause-met g c to below = c.loop-to.invariant.told to (omega arith)

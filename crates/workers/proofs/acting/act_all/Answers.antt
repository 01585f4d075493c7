use Rattle.std.proofs.Common.{◌∙◌, refl}
use Rattle.workers.proofs.Doing.{done-not, keeps-then}
use Rattle.workers.proofs.ActLaws.{act-all, act-more, act-none}
use Rattle.workers.proofs.acting.act_all.Goals as goal

pub loop-action-init : goal.loop-action-init
loop-action-init g c = record {
  workers = c.requires.workers;
  done = done-not c.args.crew.now;
  passes = λ at d below. refl;
  healthy = λ healthy. healthy;
  none = λ none. refl;
}

pub loop-action-preserved : goal.loop-action-preserved
loop-action-preserved g c =
    let old = c.args.crew.now in
    let mid = c.loop-action.crew in
    let new = c.act_where.new.crew in
    let at = c.loop-action.action-index in
    let actions = c.args.actions.now in
    let inv = c.loop-action.invariant in
    let n = c.act_where.ensures in
    let below = c.loop-action-test.true in
    record {
      workers = n.workers;
      done = act-more c.args.round at actions _ old mid new below inv.done n.done;
      passes = keeps-then (λ w. w.passes) old mid new inv.done.long inv.passes n.passes;
      healthy = λ healthy. n.healthy (search) (inv.healthy healthy);
      none = λ none. n.none (act-none c.args.round at actions _ below none) ∙ inv.none none;
    }

pub returns-then-not-act_where-clause-done : goal.returns-then-not-act_where-clause-done
returns-then-not-act_where-clause-done g c =
    act-all c.args.round c.loop-action.action-index c.args.actions.now _ c.args.crew.now c.loop-action.crew c.act_where.new.crew
    c.loop-action-test.true c.loop-action.invariant.done c.act_where.ensures.done

pub returns-then-not-act_where-clause-none : goal.returns-then-not-act_where-clause-none
returns-then-not-act_where-clause-none g c none =
    c.act_where.ensures.none (act-none c.args.round c.loop-action.action-index c.args.actions.now _ c.loop-action-test.true none)
    ∙ c.loop-action.invariant.none none

use Rattle.std.proofs.Common.{◌*◌, arith, subst, sym}
use Rattle.workers.specs.Actions.{acted}
use Rattle.workers.specs.Crews.{StayCalm}
use Rattle.workers.proofs.Doing.{done-then, keeps-then}
use Rattle.workers.proofs.acting.prepare.Goals as goal

pub returns-clause-done : goal.returns-clause-done
returns-clause-done g c =
    let most = 61 * acted c.args.round c.args.actions.now in
    done-then 0 most most c.args.crew.now c.order_all.new.crew c.act_all.new.crew (omega arith) c.order_all.ensures.done
    c.act_all.ensures.done

pub returns-clause-passes : goal.returns-clause-passes
returns-clause-passes g c = keeps-then (λ w. w.passes) c.args.crew.now c.order_all.new.crew c.act_all.new.crew
    c.order_all.ensures.done.long c.order_all.ensures.passes c.act_all.ensures.passes

-- without an action nothing more is done
pub returns-clause-calm : goal.returns-clause-calm
returns-clause-calm g c ok none calm = subst (λ crew. StayCalm c.args.crew.now crew) (sym (c.act_all.ensures.none none))
    (c.order_all.ensures.calm calm)

pub returns-clause-healthy : goal.returns-clause-healthy
returns-clause-healthy g c ok healthy = c.act_all.ensures.healthy ok (c.order_all.ensures.healthy (search) healthy)

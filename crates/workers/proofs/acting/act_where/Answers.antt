use Rattle.std.proofs.Common.{◌*◌, ◌∷◌, [], arith}
use Rattle.workers.specs.Actions.{acted}
use Rattle.workers.proofs.Doing.{done-less, done-not}
use Rattle.workers.proofs.acting.act_where.Goals as goal

pub returns-else-action-round-clause-done : goal.returns-else-action-round-clause-done
returns-else-action-round-clause-done g c =
    done-less 0 (61 * acted c.args.round (c.args.action ∷ [])) c.args.crew.now c.args.crew.now (omega arith) (done-not c.args.crew.now)

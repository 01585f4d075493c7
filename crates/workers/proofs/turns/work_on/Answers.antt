use Rattle.std.proofs.Common.{arith}
use Rattle.workers.specs.Serving.{lines_each}
use Rattle.list_lemmas.proofs.Told.{on_ok-map}
use Rattle.workers.proofs.LineLaws.{injected-behind}
use Rattle.workers.proofs.Serving.{served-less, served-lines, served-more}
use Rattle.workers.proofs.turns.work_on.Goals as goal

-- timers fired
pub returns-in_err-fire_all-clause-served : goal.returns-in_err-fire_all-clause-served
returns-in_err-fire_all-clause-served g c = served-more (lines_each 16)
    (served-less 976 1232 (omega arith) c.fire_all.ensures.served)

-- and lines were injected
pub returns-clause-served : goal.returns-clause-served
returns-clause-served g c = served-lines (lines_each 16) 976 256 1232 (omega arith) (λ part. omega arith) c.fire_all.ensures.served c.inject_all.ensures.served

pub returns-clause-injected : goal.returns-clause-injected
returns-clause-injected g c = on_ok-map c.inject_all.result
    (λ injects. injected-behind c.fire_all.ensures.served c.inject_all.ensures.served injects) c.inject_all.ensures.injected

use Rattle.std.proofs.Common.{◌∙◌, ap, arith}
use Rattle.book.specs.Desks.{Home}
use Rattle.workers.specs.Serving.{lines_each}
use Rattle.list_lemmas.proofs.Told.{on_ok-anyway}
use Rattle.workers.proofs.LineLaws.{injected-before}
use Rattle.workers.proofs.Serving.{served-less, served-lines, served-then}
use Rattle.workers.proofs.turns.go_on.Goals as goal

-- the desk is of the office's book still
pub send_out-requires-clause-book : goal.send_out-requires-clause-book
send_out-requires-clause-book g c = ap (λ (h : Home). h.book) (c.tidy.ensures.home ∙ c.work_on.ensures.home) ∙ c.requires.book

-- timers fired, and lines were injected
pub returns-in_err-work_on-clause-served : goal.returns-in_err-work_on-clause-served
returns-in_err-work_on-clause-served g c = served-less 1232 1720 (omega arith) c.work_on.ensures.served

-- rows forgot ids
pub returns-in_err-tidy-clause-served : goal.returns-in_err-tidy-clause-served
returns-in_err-tidy-clause-served g c = served-lines (lines_each 16) 1232 488 1720 (omega arith) (λ part. omega arith) c.work_on.ensures.served c.tidy.ensures.served

-- messages were sent
pub returns-in_err-send_out-clause-served : goal.returns-in_err-send_out-clause-served
returns-in_err-send_out-clause-served g c = served-lines (lines_each 16) 1720 0 1720 (omega arith) (λ part. omega arith)
    (served-lines (lines_each 16) 1232 488 1720 (omega arith) (λ part. omega arith) c.work_on.ensures.served c.tidy.ensures.served) c.send_out.ensures.served

-- own work was reported
pub returns-clause-served : goal.returns-clause-served
returns-clause-served g c = served-lines (lines_each 16) 1720 0 1720 (omega arith) (λ part. omega arith)
    (served-lines (lines_each 16) 1720 0 1720 (omega arith) (λ part. omega arith) (served-lines (lines_each 16) 1232 488 1720 (omega arith) (λ part. omega arith) c.work_on.ensures.served c.tidy.ensures.served)
    c.send_out.ensures.served) c.report_all.ensures.served

-- behind that each injector's lines are injected still
pub returns-clause-injected : goal.returns-clause-injected
returns-clause-injected g c =
    let tidied = served-then 488 0 488 (omega arith) c.tidy.ensures.served c.send_out.ensures.served in
    let rest = served-then 488 0 488 (omega arith) tidied c.report_all.ensures.served in
    on_ok-anyway c.report_all.result (injected-before c.work_on.ensures.served rest c.in_ok-work_on.ensures.injected)

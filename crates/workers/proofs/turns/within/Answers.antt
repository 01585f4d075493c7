use Rattle.std.proofs.Common.{◌∙◌, ap, arith}
use Rattle.book.specs.Desks.{Home}
use Rattle.workers.specs.Serving.{lines_each}
use Rattle.list_lemmas.proofs.Told.{on_ok-map}
use Rattle.workers.proofs.LineLaws.{injected-behind}
use Rattle.workers.proofs.Serving.{served-less, served-lines, served-more, served-then}
use Rattle.workers.proofs.turns.within.Goals as goal

-- the desk is not alone still
pub take_all-requires-clause-alone : goal.take_all-requires-clause-alone
take_all-requires-clause-alone g c = c.settle_up.ensures.served.worked.alone ∙ c.requires.alone

-- and of the office's book
pub take_all-requires-clause-book : goal.take_all-requires-clause-book
take_all-requires-clause-book g c = ap (λ (h : Home). h.book) c.settle_up.ensures.home ∙ c.requires.book

pub go_on-requires-clause-book : goal.go_on-requires-clause-book
go_on-requires-clause-book g c = ap (λ (h : Home). h.book) (c.take_all.ensures.home ∙ c.settle_up.ensures.home) ∙ c.requires.book

-- what was prepared was written, and what was held was sent
pub returns-in_err-settle_up-clause-served : goal.returns-in_err-settle_up-clause-served
returns-in_err-settle_up-clause-served g c = served-more (lines_each 16)
    (served-less 1 6000 (omega arith) c.settle_up.ensures.served)

-- messages were taken
pub returns-in_err-unwritten-clause-served : goal.returns-in_err-unwritten-clause-served
returns-in_err-unwritten-clause-served g c = served-more (lines_each 16)
    (served-then 1 3904 6000 (omega arith) c.settle_up.ensures.served c.take_all.ensures.served)

-- and the worker stalls
pub returns-then-orders-clause-served : goal.returns-then-orders-clause-served
returns-then-orders-clause-served g c = served-more (lines_each 16)
    (served-then 1 3904 6000 (omega arith) c.settle_up.ensures.served c.take_all.ensures.served)

-- or it went on
pub returns-clause-served : goal.returns-clause-served
returns-clause-served g c = served-lines (lines_each 16) 3905 1720 6000 (omega arith) (λ part. omega arith)
    (served-then 1 3904 3905 (omega arith) c.settle_up.ensures.served c.take_all.ensures.served) c.go_on.ensures.served

-- and injected lines
pub returns-clause-injected : goal.returns-clause-injected
returns-clause-injected g c =
    let before = served-then 1 3904 3905 (omega arith) c.settle_up.ensures.served c.take_all.ensures.served in
    on_ok-map c.go_on.result (λ injects stall. injected-behind before c.go_on.ensures.served injects)
    c.go_on.ensures.injected

use Rattle.std.proofs.Common.{◌∙◌, ap, arith}
use Rattle.book.specs.Desks.{Home}
use Rattle.workers.proofs.Serving.{served-then}
use Rattle.workers.proofs.turns.settle_up.Goals as goal

-- the desk is of the office's book still
pub send-requires-clause-book : goal.send-requires-clause-book
send-requires-clause-book g c = ap (λ (h : Home). h.book) c.until_free.ensures.home ∙ c.requires.book

-- what was prepared was written, and memory ran out
pub returns-in_err-send-clause-served : goal.returns-in_err-send-clause-served
returns-in_err-send-clause-served g c = served-then 1 0 1 (omega arith) c.until_free.ensures.served c.send.ensures.served

-- what was prepared was written, and what was held was sent
pub returns-clause-served : goal.returns-clause-served
returns-clause-served g c = served-then 1 0 1 (omega arith) c.until_free.ensures.served c.send.ensures.served

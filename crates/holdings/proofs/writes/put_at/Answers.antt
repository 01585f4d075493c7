use Rattle.std.proofs.Common.{refl}
use Rattle.std.specs.Prelude.{Some}
use Rattle.row_parts.specs.Contents.{Contents}
use Rattle.book.specs.Answers.{answer_of}
use Rattle.book.specs.Writings.{HasPut}
use Rattle.holdings.specs.Writing.{IsRewritten, IsRewrittenAt}
use Rattle.holdings.proofs.HeldSteps.{ok-so}
use Rattle.holdings.proofs.writes.put_at.Goals as goal

-- what is held then stands in the place
pub returns-clause-put : goal.returns-clause-put
returns-clause-put g c =
    let old = g.D.Desk.view c.args.desk.now in
    let new = g.D.Desk.view c.put.new.desk in
    rw c.in-Some.is (ok-so
    (λ commit. IsRewritten c.args.name.now (λ (row left : Contents). HasPut old new c.in-Some.held.lease c.args.name.now c.args.writing row (answer_of commit left)) c.in-Some.held c.put.new.self)
    (λ commit. IsRewrittenAt c.args.name.now (λ (row left : Contents). HasPut old new c.in-Some.held.lease c.args.name.now c.args.writing row (answer_of commit left)) c.in-Some.held (Some c.put.new.self))
    c.put.result (λ commit put. (c.put.new.self, (refl, put))) c.put.ensures.put)

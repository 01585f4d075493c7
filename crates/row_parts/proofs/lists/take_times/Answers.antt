use Rattle.std.proofs.lemmas.Result.{err_from_is_err_and}
use Rattle.row_parts.specs.Reading.{times_at}
use Rattle.row_parts.proofs.Times.{goes_on, ends, is_done}
use Rattle.row_parts.proofs.lists.take_times.Goals as goal

pub returns-in_err-x : goal.returns-in_err-x
returns-in_err-x g c =
    let p = err_from_is_err_and c.from_residual.result c.from_residual.ensures.1 in
    rw (p.1, p.2) (ends g.X.Spelled.reading c.in_err-x.field-0.0 c.loop.xs c.args.count c.loop.counter c.loop.rest.now
    (times_at g.X.Spelled.reading c.args.count c.args.bytes.now) c.loop-test.true c.in_err-x.ensures c.loop.invariant)

pub loop-preserved : goal.loop-preserved
loop-preserved g c = rw c.in_ok-push.ensures.appended
    (goes_on g.X.Spelled.reading c.loop.xs c.args.count c.loop.counter c.loop.rest.now c.in_ok-x.x c.in_ok-x.after.now
    (times_at g.X.Spelled.reading c.args.count c.args.bytes.now) c.loop-test.true c.in_ok-x.ensures c.loop.invariant)

pub returns : goal.returns
returns g c = is_done g.X.Spelled.reading c.loop.xs c.args.count c.loop.counter c.loop.rest.now
    (times_at g.X.Spelled.reading c.args.count c.args.bytes.now) c.loop-test.false c.loop.invariant

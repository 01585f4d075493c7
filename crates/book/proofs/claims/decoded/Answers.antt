use Rattle.std.proofs.Common.{◌<◌, ◌≤◌, length, arith}
use Rattle.book.proofs.FoundRows.{IsRead-more, IsRead-all, first-at, refused-at, spelled-all}
use Rattle.book.proofs.claims.decoded.Goals as goal

-- one more row was read
pub loop-kept-preserved : goal.loop-kept-preserved
loop-kept-preserved c =
    let within : c.loop-kept.kept-index < length c.args.found.now = omega arith in
    IsRead-more c.args.case.now c.args.number c.args.found.now c.loop-kept.rows c.push.new.self c.loop-kept.kept-index c.kept-item.result
    c.in-Ok.row c.loop-kept.invariant within c.kept-item.is c.in-Ok.ensures.kept c.in-Ok.ensures.spelled c.in-Ok.ensures.only
    c.in_ok-push-in-Ok.ensures.appended

-- a row that was not read is not for want of one
pub returns-in-Err-clause-only : goal.returns-in-Err-clause-only
returns-in-Err-clause-only c =
    let within : c.loop-kept.kept-index < length c.args.found.now = omega arith in
    refused-at c.args.case.now c.args.number c.args.found.now c.loop-kept.kept-index c.kept-item.result c.in-Err.why within
    c.kept-item.is c.in-Err.ensures.only

-- and is the first that is damaged
pub returns-in-Err-clause-first : goal.returns-in-Err-clause-first
returns-in-Err-clause-first c =
    let within : c.loop-kept.kept-index < length c.args.found.now = omega arith in
    first-at c.args.case.now c.args.number c.args.found.now c.loop-kept.rows c.loop-kept.kept-index c.kept-item.result c.in-Err.why
    c.loop-kept.invariant within c.kept-item.is c.in-Err.ensures.this

-- all rows were read
pub returns-clause-only : goal.returns-clause-only
returns-clause-only c =
    let past : length c.args.found.now ≤ c.loop-kept.kept-index = omega arith in
    IsRead-all c.args.case.now c.args.number c.args.found.now c.loop-kept.rows c.loop-kept.kept-index c.loop-kept.invariant past

-- each with its bytes
pub returns-clause-spelled : goal.returns-clause-spelled
returns-clause-spelled c =
    let past : length c.args.found.now ≤ c.loop-kept.kept-index = omega arith in
    spelled-all c.args.case.now c.args.number c.args.found.now c.loop-kept.rows c.loop-kept.kept-index c.loop-kept.invariant past

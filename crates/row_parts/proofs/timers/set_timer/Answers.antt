use Rattle.std.proofs.Common.{arith}
use Rattle.row_parts.proofs.RowLemmas.{timers_set, timers_inserted}
use Rattle.row_parts.proofs.timers.set_timer.Goals as goal

pub returns-in-Ok-clause-ok : goal.returns-in-Ok-clause-ok
returns-in-Ok-clause-ok c = (timers_set c.args.timer _ c.again.result c.args.timers.now c.as_slice-in-Ok.result.now c.set.new.self
    c.in-Ok.at c.as_slice-in-Ok.ensures.elements c.requires.timers c.requires.time
    (rw (c.as_slice-in-Ok.ensures.elements, ← c.as_slice.ensures.elements) c.in-Ok.ensures) c.again.ensures c.set.ensures).0

pub returns-in-Ok-clause-timers : goal.returns-in-Ok-clause-timers
returns-in-Ok-clause-timers c = (timers_set c.args.timer _ c.again.result c.args.timers.now c.as_slice-in-Ok.result.now c.set.new.self
    c.in-Ok.at c.as_slice-in-Ok.ensures.elements c.requires.timers c.requires.time
    (rw (c.as_slice-in-Ok.ensures.elements, ← c.as_slice.ensures.elements) c.in-Ok.ensures) c.again.ensures c.set.ensures).1

pub returns-in_ok-insert-in-Err-clause-ok : goal.returns-in_ok-insert-in-Err-clause-ok
returns-in_ok-insert-in-Err-clause-ok c = (timers_inserted c.args.timer c.args.timers.now c.as_slice.result.now c.insert.new.self
    c.in-Err.at c.as_slice.ensures.elements c.requires.timers c.requires.time c.in-Err.ensures
    (omega arith) c.in_ok-insert-in-Err.ensures.inserted).0

pub returns-in_ok-insert-in-Err-clause-timers : goal.returns-in_ok-insert-in-Err-clause-timers
returns-in_ok-insert-in-Err-clause-timers c = (timers_inserted c.args.timer c.args.timers.now c.as_slice.result.now c.insert.new.self
    c.in-Err.at c.as_slice.ensures.elements c.requires.timers c.requires.time c.in-Err.ensures
    (omega arith) c.in_ok-insert-in-Err.ensures.inserted).1

use Rattle.row_parts.proofs.RowLemmas.{timers_removed, timers_kept}
use Rattle.row_parts.proofs.timers.take_timer.Goals as goal

pub returns-in-Ok-clause-found : goal.returns-in-Ok-clause-found
returns-in-Ok-clause-found c = (timers_removed c.args.tag c.args.time c.args.timers.now c.as_slice.result.now c.remove.new.self
    c.in-Ok.at c.as_slice.ensures.elements c.requires c.in-Ok.ensures c.remove.ensures.removed).0

pub returns-in-Ok-clause-rest : goal.returns-in-Ok-clause-rest
returns-in-Ok-clause-rest c = (timers_removed c.args.tag c.args.time c.args.timers.now c.as_slice.result.now c.remove.new.self c.in-Ok.at
    c.as_slice.ensures.elements c.requires c.in-Ok.ensures c.remove.ensures.removed).1

pub returns-in-Ok-clause-timers : goal.returns-in-Ok-clause-timers
returns-in-Ok-clause-timers c = (timers_removed c.args.tag c.args.time c.args.timers.now c.as_slice.result.now c.remove.new.self
    c.in-Ok.at c.as_slice.ensures.elements c.requires c.in-Ok.ensures c.remove.ensures.removed).2

pub returns-in-Err-clause-found : goal.returns-in-Err-clause-found
returns-in-Err-clause-found c = (timers_kept c.args.tag c.args.time c.args.timers.now c.as_slice.result.now c.in-Err.field-0
    c.as_slice.ensures.elements c.in-Err.ensures).0

pub returns-in-Err-clause-rest : goal.returns-in-Err-clause-rest
returns-in-Err-clause-rest c = (timers_kept c.args.tag c.args.time c.args.timers.now c.as_slice.result.now c.in-Err.field-0
    c.as_slice.ensures.elements c.in-Err.ensures).1

use Rattle.row_parts.proofs.RowLemmas.{delivery_removed, delivery_kept}
use Rattle.row_parts.proofs.deliveries.take_delivery.Goals as goal

pub returns-in-Ok-clause-found : goal.returns-in-Ok-clause-found
returns-in-Ok-clause-found c = (delivery_removed c.args.id c.remove.result c.args.deliveries.now c.as_slice.result.now c.remove.new.self
    c.in-Ok.at c.as_slice.ensures.elements c.requires c.in-Ok.ensures c.remove.ensures.removed).0

pub returns-in-Ok-clause-rest : goal.returns-in-Ok-clause-rest
returns-in-Ok-clause-rest c = (delivery_removed c.args.id c.remove.result c.args.deliveries.now c.as_slice.result.now c.remove.new.self
    c.in-Ok.at c.as_slice.ensures.elements c.requires c.in-Ok.ensures c.remove.ensures.removed).1

pub returns-in-Ok-clause-deliveries : goal.returns-in-Ok-clause-deliveries
returns-in-Ok-clause-deliveries c = (delivery_removed c.args.id c.remove.result c.args.deliveries.now c.as_slice.result.now
    c.remove.new.self c.in-Ok.at c.as_slice.ensures.elements c.requires c.in-Ok.ensures c.remove.ensures.removed).2

pub returns-in-Err-clause-found : goal.returns-in-Err-clause-found
returns-in-Err-clause-found c = (delivery_kept c.args.id c.args.deliveries.now c.as_slice.result.now c.in-Err.field-0
    c.as_slice.ensures.elements c.in-Err.ensures).0

pub returns-in-Err-clause-rest : goal.returns-in-Err-clause-rest
returns-in-Err-clause-rest c = (delivery_kept c.args.id c.args.deliveries.now c.as_slice.result.now c.in-Err.field-0
    c.as_slice.ensures.elements c.in-Err.ensures).1

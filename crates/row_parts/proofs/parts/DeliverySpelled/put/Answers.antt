use Rattle.row_parts.proofs.Written.{wrote_3}
use Rattle.row_parts.proofs.parts.DeliverySpelled.put.Goals as goal

pub returns-clause-written : goal.returns-clause-written
returns-clause-written c = wrote_3 c.args.out.now.items _ _ _ _ _ _ c.in_ok-put.ensures.written c.in_ok-put-2.ensures.written
    c.in_ok-put-3.ensures.written

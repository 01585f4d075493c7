use Rattle.row_parts.proofs.Written.{wrote_4}
use Rattle.row_parts.proofs.states.put_spike.Goals as goal

pub returns-clause-written : goal.returns-clause-written
returns-clause-written c = wrote_4 c.args.out.now.items _ _ _ _ _ _ _ _ c.in_ok-push.ensures.items c.in_ok-put.ensures.written
    c.in_ok-put_shared.ensures.written c.in_ok-put_list.ensures.written

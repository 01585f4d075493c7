use Rattle.std.proofs.Common.{arith}
use Rattle.row_parts.proofs.RowLemmas.{id_kept, id_inserted}
use Rattle.row_parts.proofs.ids.add_id.Goals as goal

pub returns-in_ok-insert-clause-ok : goal.returns-in_ok-insert-clause-ok
returns-in_ok-insert-clause-ok c = (id_inserted c.args.floor c.args.id c.args.ids.now c.as_slice.result.now c.insert.new.self c.in-Err.at
    c.as_slice.ensures.elements c.requires.ids c.requires.id c.requires.kept c.in-Err.ensures
    (omega arith) c.in_ok-insert.ensures.inserted).0

pub returns-in_ok-insert-clause-ids : goal.returns-in_ok-insert-clause-ids
returns-in_ok-insert-clause-ids c = (id_inserted c.args.floor c.args.id c.args.ids.now c.as_slice.result.now c.insert.new.self
    c.in-Err.at c.as_slice.ensures.elements c.requires.ids c.requires.id c.requires.kept c.in-Err.ensures
    (omega arith) c.in_ok-insert.ensures.inserted).1

pub returns-in_default-clause-ok : goal.returns-in_default-clause-ok
returns-in_default-clause-ok c = id_kept c.args.id c.args.ids.now c.as_slice.result.now c.in_default.field-0 c.as_slice.ensures.elements
    c.in_default.ensures

use Rattle.row_parts.proofs.RowLemmas.{IsRow-fresh}
use Rattle.row_parts.proofs.row.Row.new.Goals as goal

pub invariant_of-result : goal.invariant_of-result
invariant_of-result c = rw (c.new.ensures.empty, c.new-2.ensures.empty, c.new-3.ensures.empty) (IsRow-fresh c.args.state c.requires)

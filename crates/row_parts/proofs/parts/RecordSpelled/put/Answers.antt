use Rattle.std.proofs.Common.{ℕ, List, ◌++◌, ap, ◌∙◌}
use Rattle.row_parts.proofs.Written.{one_more}
use Rattle.row_parts.proofs.parts.RecordSpelled.put.Goals as goal

pub returns-clause-written : goal.returns-clause-written
returns-clause-written c = one_more c.args.out.now.items _ _ _ _ c.in_ok-put.ensures.written
    (c.in_ok-extend_from_slice.ensures.items ∙ ap (λ (l : List ℕ). c.put.new.out.items ++ l) c.bytes_after_key.ensures.bytes)

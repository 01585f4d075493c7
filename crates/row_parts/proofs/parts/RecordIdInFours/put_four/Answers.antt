use Rattle.std.proofs.Common.{◌++◌, ℕ, List, ap, ◌∙◌}
use Rattle.row_parts.proofs.Gathered.{gathered}
use Rattle.row_parts.specs.Spelling.{id_spelling}
use Rattle.row_parts.proofs.parts.RecordIdInFours.put_four.Goals as goal

pub returns-clause-written : goal.returns-clause-written
returns-clause-written c = c.in_ok-extend_from_slice.ensures.items ∙ ap (λ (l : List ℕ). c.args.out.now.items ++ l)
    (c.as_flattened.ensures.value
    ∙ gathered id_spelling c.args.self.now c.args.second.now c.args.third.now c.args.fourth.now _ _ _ _
    c.id_bytes.ensures c.id_bytes-2.ensures c.id_bytes-3.ensures c.id_bytes-4.ensures)

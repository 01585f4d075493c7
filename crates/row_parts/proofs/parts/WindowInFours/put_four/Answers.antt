use Rattle.std.proofs.Common.{◌++◌, ℕ, List, ap, ◌∙◌}
use Rattle.row_parts.proofs.Gathered.{gathered}
use Rattle.row_parts.specs.Spelling.{window_spelling}
use Rattle.row_parts.proofs.parts.WindowInFours.put_four.Goals as goal

pub returns-clause-written : goal.returns-clause-written
returns-clause-written c = c.in_ok-extend_from_slice.ensures.items ∙ ap (λ (l : List ℕ). c.args.out.now.items ++ l)
    (c.as_flattened.ensures.value
    ∙ gathered window_spelling c.args.self.now c.args.second.now c.args.third.now c.args.fourth.now _ _ _ _
    c.window_bytes.ensures c.window_bytes-2.ensures c.window_bytes-3.ensures c.window_bytes-4.ensures)

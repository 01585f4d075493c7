use Rattle.std.proofs.Common.{w64, ◌++◌, ℕ, List, ap, ◌∙◌}
use Rattle.std.specs.Prelude.{FitsSigned}
use Rattle.mw_types.specs.declared.state.HeldTotal.{HeldTotal}
use Rattle.row_parts.proofs.Gathered.{are_typed, gathered}
use Rattle.row_parts.specs.Spelling.{held_spelling}
use Rattle.row_parts.proofs.parts.HeldTotalInFours.put_four.Goals as goal

pub returns-clause-written : goal.returns-clause-written
returns-clause-written c = c.in_ok-extend_from_slice.ensures.items ∙ ap (λ (l : List ℕ). c.args.out.now.items ++ l)
    (c.as_flattened.ensures.value
    ∙ gathered held_spelling c.args.self.now c.args.second.now c.args.third.now c.args.fourth.now _ _ _ _
    c.held_bytes.ensures.bytes c.held_bytes-2.ensures.bytes c.held_bytes-3.ensures.bytes c.held_bytes-4.ensures.bytes)

pub returns-clause-typed : goal.returns-clause-typed
returns-clause-typed c = are_typed (λ (h : HeldTotal). FitsSigned w64 h.value) c.args.self.now c.args.second.now c.args.third.now c.args.fourth.now
    c.held_bytes.ensures.value c.held_bytes-2.ensures.value c.held_bytes-3.ensures.value c.held_bytes-4.ensures.value

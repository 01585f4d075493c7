use Rattle.std.proofs.Common.{◌<◌, ◌^◌, ◌++◌, ℕ, List, ap, ◌∙◌}
use Rattle.mw_types.specs.declared.timer.Timer.{Timer}
use Rattle.row_parts.proofs.Gathered.{are_typed, gathered}
use Rattle.row_parts.specs.Spelling.{timer_spelling}
use Rattle.row_parts.proofs.parts.TimerInFours.put_four.Goals as goal

pub returns-clause-written : goal.returns-clause-written
returns-clause-written c = c.in_ok-extend_from_slice.ensures.items ∙ ap (λ (l : List ℕ). c.args.out.now.items ++ l)
    (c.as_flattened.ensures.value
    ∙ gathered timer_spelling c.args.self.now c.args.second.now c.args.third.now c.args.fourth.now _ _ _ _ c.timer_bytes.ensures.bytes c.timer_bytes-2.ensures.bytes c.timer_bytes-3.ensures.bytes c.timer_bytes-4.ensures.bytes)

pub returns-clause-typed : goal.returns-clause-typed
returns-clause-typed c = are_typed (λ (t : Timer). t.tag < 2 ^ 64) c.args.self.now c.args.second.now c.args.third.now c.args.fourth.now
    c.timer_bytes.ensures.tag c.timer_bytes-2.ensures.tag c.timer_bytes-3.ensures.tag c.timer_bytes-4.ensures.tag

use Rattle.std.proofs.Common.{◌∙◌, arith, refl, map, filter, not, false, get_or}
use Rattle.mw_types.specs.declared.timer.Timer.{Timer}
use Rattle.history_laws.proofs.LowLaws.{least-end}
use Rattle.holdings.proofs.WorkLaws.{least-past, least-past_all}
use Rattle.holdings.proofs.row_work.oldest_timer.Goals as goal

-- nothing is past
pub loop-timer-init : goal.loop-timer-init
loop-timer-init c =
    let end = least-end (map (λ (t : Timer). t.time) (filter (λ (t : Timer). not t.late) c.args.timers.now)) in omega (arith, end)

-- one more is past
pub loop-timer-preserved : goal.loop-timer-preserved
loop-timer-preserved c =
    let none : Timer = record { tag = 0; time = 0; late = false } in (
      omega (arith, c.lesser-oldest.type_inv),
      least-past (λ (t : Timer). t.time) (λ (t : Timer). t.late) c.args.timers.now c.loop-timer.timer-index
          (get_or c.args.timers.now c.loop-timer.timer-index none) none c.loop-timer.oldest c.lesser-oldest.result
          c.loop-timer-test.true refl c.lesser-oldest.ensures
          ∙ c.loop-timer.invariant.1,
    )

-- nothing is left
pub returns : goal.returns
returns c = least-past_all (λ (t : Timer). t.time) (λ (t : Timer). t.late) c.args.timers.now c.loop-timer.timer-index
    c.loop-timer.oldest _ c.loop-timer-test.false c.loop-timer.invariant.0 c.loop-timer.invariant.1

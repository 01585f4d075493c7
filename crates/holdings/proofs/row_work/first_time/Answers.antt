use Rattle.std.proofs.Common.{rules, refl, false, true, get_or, ◌≤◌, ◌≡◌}
use Rattle.mw_types.specs.declared.TheConstants.{END}
use Rattle.mw_types.specs.declared.timer.Timer.{Timer}
use Rattle.holdings.proofs.TimeLaws.{first-oldest, late-past}
use Rattle.holdings.proofs.row_work.first_time.Goals as goal

-- the first that is not late is the oldest
pub returns-then-not-timer : goal.returns-then-not-timer
returns-then-not-timer c =
    let none : Timer = record { tag = 0; time = 0; late = false } in
    let timer = get_or c.args.timers.now c.loop-timer.timer-index none in
    let late : timer.late ≡ false = search rules in
    let end : timer.time ≤ END = search rules in
    first-oldest c.args.timers.now c.loop-timer.timer-index timer none c.loop-timer-test.true refl late end c.loop-timer.invariant

-- one that is late is passed over
pub loop-timer-preserved : goal.loop-timer-preserved
loop-timer-preserved c =
    let none : Timer = record { tag = 0; time = 0; late = false } in
    let timer = get_or c.args.timers.now c.loop-timer.timer-index none in
    let late : timer.late ≡ true = search rules in
    late-past c.args.timers.now c.loop-timer.timer-index timer none c.loop-timer-test.true refl late c.loop-timer.invariant

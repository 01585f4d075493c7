use Rattle.std.proofs.Common.{subst, sym}
use Rattle.mw_types.specs.Bounds.{AreWindows}
use Rattle.computations.specs.Bounded.{AreWindows-others}
use Rattle.computations.proofs.Windows.{find_none, find_due, end_of_due, count_of_due}
use Rattle.computations.proofs.count.close.Goals as goal

-- the window that is taken is the one that ends there
pub returns-in_ok-take-in-Ok-clause-closed : goal.returns-in_ok-take-in-Ok-clause-closed
returns-in_ok-take-in-Ok-clause-closed c =
    find_due c.args.windows.now c.args.end c.in-Ok.at c.in_ok-take-in-Ok.field-0 c.in-Ok.ensures.found
    c.in_ok-take-in-Ok.ensures.element

-- it ends there, and its count is within bounds
pub returns-in_ok-take-in-Ok-clause-due : goal.returns-in_ok-take-in-Ok-clause-due
returns-in_ok-take-in-Ok-clause-due c =
    let windows = c.args.windows.now in
    let due = c.in_ok-take-in-Ok.field-0 in
    let place = c.in-Ok.ensures.found in
    let read = c.in_ok-take-in-Ok.ensures.element in
    (end_of_due windows c.args.end c.in-Ok.at due place read, count_of_due windows c.args.end c.in-Ok.at due place read c.requires)

-- without it the windows stay within bounds
pub returns-in_ok-take-in-Ok-clause-within : goal.returns-in_ok-take-in-Ok-clause-within
returns-in_ok-take-in-Ok-clause-within c =
    subst AreWindows (sym c.in_ok-take-in-Ok.ensures.gone)
    (AreWindows-others c.args.windows.now c.in_ok-take-in-Ok.field-0.end c.requires)

-- no window ends there
pub returns-in-Err-clause-closed : goal.returns-in-Err-clause-closed
returns-in-Err-clause-closed c =
    find_none c.args.windows.now c.args.end c.in-Err.field-0 c.in-Err.ensures.absent

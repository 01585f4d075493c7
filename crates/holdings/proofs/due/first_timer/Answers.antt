use Rattle.std.proofs.Common.{◌∙◌, ap, subst, sym, true≢false}
use Rattle.std.specs.Prelude.{Some}
use Rattle.std.specs.Option.{is_some}
use Rattle.holdings.specs.Timers.{IsFirstTimer}
use Rattle.holdings.specs.declared.first_timer.RowTimer.{RowTimer}
use Rattle.holdings.proofs.DueLaws.{first-due, first-none}
use Rattle.holdings.proofs.due.first_timer.Goals as goal

-- the first is the first timer of all rows
pub returns-in_ok-row_timer-in-Some : goal.returns-in_ok-row_timer-in-Some
returns-in_ok-row_timer-in-Some c = λ rows are.
    subst (λ (t : RowTimer). IsFirstTimer rows (Some t)) (sym c.in_ok-row_timer-in-Some.ensures)
    (first-due rows (c.in-Some.due.now, c.in-Some.field-0-1.now) c.args.dues.now.entries are c.in-Some.ensures.first)

-- no row has a timer
pub returns-in-None : goal.returns-in-None
returns-in-None c = λ rows are. first-none rows c.args.dues.now.entries are
    (λ some. true≢false (sym (c.first_key_value.ensures.variant.1 some) ∙ ap is_some c.in-None.is))

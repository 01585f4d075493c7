-- The order of the timers of rows.
use Rattle.std.specs.Cmp.{IsTotalOrder, on_total, then_total}
use Rattle.mw_types.specs.declared.identity.RowName.{RowName}
use Rattle.mw_types.specs.declared.timer.Timer.{Timer}
use Rattle.mw_types.proofs.OrderLaws.{row_cmp-total}
use Rattle.row_parts.specs.Orders.{timer_cmp-total}
use Rattle.holdings.specs.Timers.{due_cmp}

-- timers of rows are in a total order
pub due_cmp-total : IsTotalOrder due_cmp
due_cmp-total = then_total (on_total (λ (b : RowName × Timer). b.1) timer_cmp-total) (on_total (λ (b : RowName × Timer). b.0) row_cmp-total)

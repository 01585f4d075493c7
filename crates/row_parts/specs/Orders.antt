-- The orders of windows, held totals, timers and deliveries, and that they are total.
use Rattle.std.specs.Cmp.{IsTotalOrder, then_total, on_total, nat_cmp_total}
use Rattle.std.specs.Ordering.{nat_cmp}
use Rattle.std.specs.declared.cmp.Ordering.{Ordering}
use Rattle.mw_types.specs.declared.state.Window.{Window}
use Rattle.mw_types.specs.declared.state.HeldTotal.{HeldTotal}
use Rattle.mw_types.specs.declared.timer.Timer.{Timer}
use Rattle.mw_types.specs.declared.delivery.Delivery.{Delivery}
use Rattle.mw_types.specs.Orders.{timer_cmp}
use Rattle.mw_types.proofs.OrderLaws.{id_cmp-total}
use Rattle.row_parts.specs.Contents.{delivery_cmp}

-- timers are in a total order
pub timer_cmp-total : IsTotalOrder timer_cmp
timer_cmp-total = then_total (on_total (λ (t : Timer). t.time) nat_cmp_total) (on_total (λ (t : Timer). t.tag) nat_cmp_total)

-- deliveries are in the order of their ids
pub delivery_cmp-total : IsTotalOrder delivery_cmp
delivery_cmp-total = on_total (λ (d : Delivery). d.id) id_cmp-total

-- windows stand by their ends
abbrev pub window_cmp : Window → Window → Ordering
window_cmp a b = nat_cmp a.end b.end

-- held totals stand by their timestamps
abbrev pub held_cmp : HeldTotal → HeldTotal → Ordering
held_cmp a b = nat_cmp a.stamp b.stamp

-- windows are in a total order
pub window_cmp-total : IsTotalOrder window_cmp
window_cmp-total = on_total (λ (w : Window). w.end) nat_cmp_total

-- held totals are in a total order
pub held_cmp-total : IsTotalOrder held_cmp
held_cmp-total = on_total (λ (h : HeldTotal). h.stamp) nat_cmp_total

-- The orders of keys, ids, rows and timers are total, and tell all of their things apart.
use Rattle.std.specs.Cmp.{IsTotalOrder}
use Rattle.std.specs.Cmp.{then_total, on_total, nat_cmp_total}
use Rattle.std.specs.Cmp.Lexicographic.{nat_list_cmp_total}
use Rattle.mw_types.specs.declared.identity.RecordId.{RecordId}
use Rattle.mw_types.specs.declared.identity.RowName.{RowName}
use Rattle.mw_types.specs.Orders.{key_cmp, id_cmp, row_cmp}

-- keys are in a total order
pub key_cmp-total : IsTotalOrder key_cmp
key_cmp-total = nat_list_cmp_total

-- ids are in a total order
pub id_cmp-total : IsTotalOrder id_cmp
id_cmp-total = then_total (on_total (λ (id : RecordId). id.commit) nat_cmp_total) (on_total (λ (id : RecordId). id.index) nat_cmp_total)

-- rows are in a total order
pub row_cmp-total : IsTotalOrder row_cmp
row_cmp-total = then_total (on_total (λ (row : RowName). row.part) nat_cmp_total) (on_total (λ (row : RowName). row.key) nat_list_cmp_total)

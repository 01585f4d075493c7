use Rattle.std.proofs.Common.{◌≡◌, ◌∙◌, ap, sym, List, map, filter, not, min}
use Rattle.mw_types.specs.declared.timer.Timer.{Timer}
use Rattle.mw_types.specs.declared.delivery.Delivery.{Delivery}
use Rattle.row_parts.specs.Contents.{Contents}
use Rattle.run_history.specs.Watermarks.{least, times_set}
use Rattle.run_history.specs.Marks.{row_marks, stamps_pending}
use Rattle.holdings.proofs.WorkLaws.{least-append}
use Rattle.holdings.proofs.row_work.row_work.Goals as goal

-- the oldest of the timers and of what is pending is that of the row
pub returns : goal.returns
returns c =
    let row : Contents = record {
      state = c.row.inside.state;
      timers = c.row.inside.timers;
      pending = c.row.inside.pending;
      seen = c.row.inside.seen;
      floor = c.row.inside.floor;
      last = c.row.inside.last;
    } in
    let times : c.first_time.result ≡ least (times_set row) = c.first_time.ensures
    ∙ ap (λ (l : List Timer). least (map (λ (t : Timer). t.time) (filter (λ (t : Timer). not t.late) l)))
    c.as_slice-2.ensures.elements in
    c.oldest_pending.ensures
    ∙ (λ i. min (times i) (least (map (λ (d : Delivery). d.item.stamp)
    (filter (λ (d : Delivery). not d.item.late) (c.as_slice.ensures.elements i)))))
    ∙ sym (least-append (times_set row) (stamps_pending row))
    ∙ ap (λ (r : Contents). least (row_marks r)) c.row.view_is

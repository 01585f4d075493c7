-- The timers of a row stand in their order after each history.
use Rattle.std.proofs.Common.{List, [], ◌∷◌, refl}
use Rattle.std.specs.List.{AllByRecursion}
use Rattle.std.specs.List.Sorted.{IsStrictlySortedBy}
use Rattle.std.proofs.lemmas.List.Kept.{IsStrictlySortedBy-filter}
use Rattle.mw_types.specs.Orders.{timer_cmp}
use Rattle.mw_types.specs.declared.delivery.Delivery.{Delivery}
use Rattle.mw_types.specs.declared.entry.Entry.{Entry}
use Rattle.mw_types.specs.declared.entry.Entry.TheVariants.{Claim, Inject, Handle, Fire, Ack, Purge}
use Rattle.mw_types.specs.declared.identity.RowName.{RowName}
use Rattle.mw_types.specs.declared.timer.Timer.{Timer}
use Rattle.topology.specs.Shapes.{Shape}
use Rattle.row_parts.specs.Contents.{Contents, fresh, set_again}
use Rattle.row_parts.specs.Orders.{timer_cmp-total}
use Rattle.row_parts.proofs.PlaceLemmas.{sorted-put_in}
use Rattle.run_history.specs.Cases.{fresh_of}
use Rattle.run_history.specs.Made.{deliveries_of}
use Rattle.run_history.specs.Runs.{Run, changed, empty_run, followed, row_of, run_of, with_timers}
use Rattle.history_laws.proofs.Along.{along_any}
use Rattle.history_laws.proofs.RowSteps.{each_row-followed, row_of-each}

-- the timers of a row stand in their order
abbrev pub AreTimersInOrder : Contents → Type 0
AreTimersInOrder row = IsStrictlySortedBy timer_cmp row.timers

-- once more timers are set
set-ordered : (set timers : List Timer) → IsStrictlySortedBy timer_cmp timers → IsStrictlySortedBy timer_cmp (with_timers set timers)
set-ordered [] timers sorted = sorted
set-ordered (t ∷ ts) timers sorted = set-ordered ts _
    (sorted-put_in timer_cmp-total set_again (λ x new old. refl) (λ new old x. refl) t timers sorted)

-- once an entry has changed the row
changed-ordered : (entry : Entry) (sent : List Delivery) (row : Contents) → AreTimersInOrder row
    → AreTimersInOrder (changed entry sent row)
changed-ordered (Claim worker interval) sent row sorted = sorted
changed-ordered (Inject seq part line item) sent row sorted = sorted
changed-ordered (Handle seq name id effects) sent row sorted = set-ordered effects.timers row.timers sorted
changed-ordered (Fire seq name timer mark effects) sent row sorted = IsStrictlySortedBy-filter timer_cmp _ row.timers sorted
changed-ordered (Ack seq name id) sent row sorted = sorted
changed-ordered (Purge seq name floor) sent row sorted = sorted

-- the timers of each row stand in their order
abbrev AreOrdered : Run → Type 0
AreOrdered run = AllByRecursion (λ (r : RowName × Contents). AreTimersInOrder r.1) run.rows

-- a fresh row has no timer
fresh-ordered : (shape : Shape) (name : RowName) → AreTimersInOrder (fresh (fresh_of shape name.part))
unfolding IsStrictlySortedBy
fresh-ordered shape name = tt

-- after one more entry
followed-ordered : (shape : Shape) (run : Run) (entry : Entry) → AreOrdered run → AreOrdered (followed shape run entry)
followed-ordered shape run entry ordered =
    each_row-followed shape run entry AreTimersInOrder AreTimersInOrder ordered (λ c sorted. sorted)
    (λ name written. changed-ordered entry (deliveries_of shape run.made run.next entry) (row_of shape run name)
    (row_of-each shape run name AreTimersInOrder ordered (fresh-ordered shape name)))

-- after each history
pub timers-ordered : (shape : Shape) (history : List Entry) (name : RowName)
    → AreTimersInOrder (row_of shape (run_of shape history) name)
timers-ordered shape history name = row_of-each shape (run_of shape history) name AreTimersInOrder
    (along_any shape AreOrdered (followed-ordered shape) history empty_run tt) (fresh-ordered shape name)

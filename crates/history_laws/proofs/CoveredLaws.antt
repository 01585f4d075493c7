-- The rows of an interval as a list, by a beginning of a history and by the whole.
use Rattle.std.proofs.Common.{◌≡◌, ℕ, List, ◌++◌, true, ap}
use Rattle.std.specs.Prelude.{Some, slice_get}
use Rattle.std.specs.Ordering.{is_eq}
use Rattle.mw_types.specs.declared.identity.RowName.{RowName}
use Rattle.mw_types.specs.declared.entry.Entry.{Entry}
use Rattle.mw_types.specs.declared.entry.Entry.TheVariants.{Claim}
use Rattle.mw_types.proofs.OrderLaws.{row_cmp-total}
use Rattle.key_intervals.specs.declared.bounds.Bounds.{Bounds}
use Rattle.key_intervals.specs.Intervals.{covers, rows_covered}
use Rattle.topology.specs.Shapes.{Shape}
use Rattle.topology.specs.Rules.{IsTopology}
use Rattle.run_history.specs.Cases.{intervals_of}
use Rattle.run_history.specs.Runs.{Run, run_of, row_in}
use Rattle.run_history.specs.Fences.{IsFenced, HasSeen, CarryNot, interval_of, known}
use Rattle.run_history.proofs.Lookups.{same_filtered}
use Rattle.run_history.proofs.IntervalLaws.{are-intervals, has-interval_of}
use Rattle.history_laws.proofs.FenceLaws.{row_in-seen, row_in-known}
use Rattle.history_laws.proofs.LowLaws.{AreRowsInOrder, rows-in_order}
use Rattle.history_laws.proofs.RowSteps.{same_row}

-- the rows that an interval has are the same in two runs, where each of its names has the same row in both
pub rows_covered-same : (b : Bounds) (one other : Run) → AreRowsInOrder one → AreRowsInOrder other
    → ((name : RowName) → covers b name ≡ true → row_in one name ≡ row_in other name)
    → rows_covered b one.rows ≡ rows_covered b other.rows
rows_covered-same b one other first second same =
    same_filtered row_cmp-total (λ x y tie. same_row x y (ap is_eq tie)) (covers b) one.rows other.rows first.sorted second.sorted same

-- and so after two histories, where each name that lies in the interval has the same row after both
pub rows_covered-lies : (shape : Shape) (interval : ℕ) (b : Bounds) (one other : List Entry) → IsTopology shape
    → slice_get (intervals_of shape) interval ≡ Some b
    → ((name : RowName) → interval_of shape name ≡ Some interval → row_in (run_of shape one) name ≡ row_in (run_of shape other) name)
    → rows_covered b (run_of shape one).rows ≡ rows_covered b (run_of shape other).rows
rows_covered-lies shape interval b one other rules at same =
    rows_covered-same b (run_of shape one) (run_of shape other) (rows-in_order shape one) (rows-in_order shape other)
    (λ name has. same name (has-interval_of shape interval name (are-intervals shape rules) (b, at, has)))

-- the rows of an interval, by a beginning that has seen its last claim, are those of the whole
pub rows_covered-seen : (shape : Shape) (interval seq : ℕ) (b : Bounds) (front rest : List Entry) → IsTopology shape
    → slice_get (intervals_of shape) interval ≡ Some b → IsFenced shape (front ++ rest) → HasSeen interval seq front rest
    → rows_covered b (run_of shape (front ++ rest)).rows ≡ rows_covered b (run_of shape front).rows
rows_covered-seen shape interval seq b front rest rules at fenced seen =
    rows_covered-lies shape interval b (front ++ rest) front rules at (row_in-seen shape interval seq front rest fenced seen)

-- the rows of an interval, as they are known under a claim of it, are the same by a beginning as by the whole, where the
-- beginning has the claim and all that was written under it
pub rows_covered-known : (shape : Shape) (interval seq worker : ℕ) (b : Bounds) (front rest : List Entry) → IsTopology shape
    → slice_get (intervals_of shape) interval ≡ Some b → IsFenced shape (front ++ rest)
    → slice_get front seq ≡ Some (Claim worker interval) → CarryNot seq rest
    → rows_covered b (run_of shape (known interval seq (front ++ rest))).rows ≡ rows_covered b
    (run_of shape (known interval seq front)).rows
rows_covered-known shape interval seq worker b front rest rules at fenced claimed none =
    rows_covered-lies shape interval b (known interval seq (front ++ rest)) (known interval seq front) rules at
    (row_in-known shape interval seq worker front rest fenced claimed none)

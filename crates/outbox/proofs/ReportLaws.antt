-- What a report of what is held answers, by what the desk answered.
use Rattle.std.proofs.Common.{◌≡◌, ◌∙◌, ℕ, true, List, sym, ap, subst}
use Rattle.std.specs.Prelude.{IfErr, IfOk, IfSome, Option, Some, Result, Ok, Err, slice_get}
use Rattle.key_intervals.specs.declared.bounds.Bounds.{Bounds}
use Rattle.run_history.specs.Cases.{CaseShape, intervals_of}
use Rattle.run_history.specs.Marks.{own_work}
use Rattle.run_history.specs.Runs.{cached}
use Rattle.watermark.specs.Marks.{mark_of}
use Rattle.book.specs.Books.{LeaseView}
use Rattle.book.specs.DeskReasons.{HasReason, IsReportRefusal}
use Rattle.book.specs.Desking.{IsReported}
use Rattle.book.specs.Desks.{DeskView}
use Rattle.book.specs.declared.desk_refusal.DeskRefusal.{DeskRefusal}
use Rattle.book.specs.declared.desk_refusal.DeskRefusal.TheVariants as refusals
use Rattle.holdings.specs.Holding.{HeldView, IsRefusedOf, held_at}
use Rattle.outbox.specs.Reports.{IsReportOf, IsUnreported}

-- the own work of what is held was reported under its lease
pub report-of : (case : CaseShape) (old new : DeskView) (all : List (Option HeldView)) (interval : ℕ) (held : HeldView)
    (lease : LeaseView) (own : ℕ) (result : Result ℕ DeskRefusal)
    → held_at all interval ≡ Some held → lease ≡ held.lease
    → ((h : HeldView) (b : Bounds) → held_at all interval ≡ Some h → slice_get (intervals_of case.topology) interval ≡ Some b
    → own ≡ own_work case (cached h.rows) b)
    → IfOk result (λ mark. mark ≡ mark_of new.marks lease.interval)
    → (old.alone ≡ true → IfOk result (λ mark. IsReported old new lease own mark))
    → IfOk result (λ mark. IfSome (held_at all interval) (λ here. IsReportOf case old new interval here mark))
report-of case old new all interval held lease own (Err why) at same exact answer raised = tt
report-of case old new all interval held lease own (Ok mark) at same exact answer raised =
    subst (λ (o : Option HeldView). IfSome o (λ here. IsReportOf case old new interval here mark)) (sym at) (record {
      own = own;
      of_rows = λ bounds is. exact held bounds at is;
      answer = answer ∙ ap (λ (l : LeaseView). mark_of new.marks l.interval) same;
      alone = λ alone. subst (λ (l : LeaseView). IsReported old new l own mark) same (raised alone);
    })

-- or was refused, for a reason that the desk has by the lease that is held
pub reason-of : (old new : DeskView) (all : List (Option HeldView)) (interval : ℕ) (held : HeldView) (lease : LeaseView)
    (result : Result ℕ DeskRefusal) → held_at all interval ≡ Some held → lease ≡ held.lease
    → IfErr result (HasReason old new lease) → IfErr result (IsRefusedOf old new all interval)
reason-of old new all interval held lease (Ok mark) at same is = tt
reason-of old new all interval held lease (Err why) at same is =
    subst (λ (o : Option HeldView). IfSome o (λ here. HasReason old new here.lease why)) (sym at)
    (subst (λ (l : LeaseView). HasReason old new l why) same is)

-- as a desk refuses a report
pub unreported-of : (result : Result ℕ DeskRefusal) → IfErr result IsReportRefusal → IfErr result IsUnreported
unreported-of (Ok mark) is = tt
unreported-of (Err (refusals.Busy found)) is = is
unreported-of (Err (refusals.Stale newer)) is = is
unreported-of (Err refusals.HistoryFull) is = is
unreported-of (Err refusals.KeeperFault) is = is
unreported-of (Err (refusals.RowDamaged name bytes)) is = is
unreported-of (Err refusals.NoMemory) is = tt

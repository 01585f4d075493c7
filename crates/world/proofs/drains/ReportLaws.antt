-- What a report leaves of the marks of a book.
use Rattle.std.proofs.Common.{◌≡◌, ◌<◌, ◌≤◌, ◌+◌, ℕ, zero, suc, List, [], ◌∷◌, length, refl, sym, ◌∙◌, ap, subst, arith}
use Rattle.key_intervals.specs.declared.bounds.Bounds.{Bounds}
use Rattle.std.specs.Prelude.{Option, Some, None, IsSome, IfSome, max, min, slice_get}
use Rattle.mw_types.specs.declared.entry.Entry.{Entry}
use Rattle.topology.specs.Rules.{IsTopology, interval_count}
use Rattle.run_history.specs.Cases.{CaseShape, intervals_of}
use Rattle.run_history.specs.Fences.{known, last_claim}
use Rattle.run_history.specs.Marks.{own_work}
use Rattle.run_history.specs.Runs.{cached, run_of}
use Rattle.run_history.specs.Watermarks.{least}
use Rattle.run_history.proofs.CaseIntervals.{length-intervals}
use Rattle.run_history.proofs.Known.{known-last}
use Rattle.list_lemmas.proofs.Lists.{some_same}
use Rattle.watermark.specs.Marks.{feeding_marks, mark_of}
use Rattle.book.specs.Books.{BookView}
use Rattle.book.specs.Marks.{reported, with_mark}
use Rattle.book.specs.OwnDesks.{own_view}
use Rattle.holdings.specs.Holding.{HeldView, IsHeld, held_at}
use Rattle.holdings.proofs.OwnLaws.{own_work-known}
use Rattle.outbox.specs.Reports.{IsReportOf}
use Rattle.node.specs.Workers.{NodeView}
use Rattle.world.specs.drains.ReportRounds.{marks_after_round, with_report}
use Rattle.world.specs.drains.Turns.{HasReported, HasStepped, IsAtWork, worker_of}
use Rattle.world.proofs.GoLaws.{told-on}
use Rattle.world.proofs.drains.KnownLaws.{told-fact}
use Rattle.world.proofs.drains.Marked.{mark-same}
use Rattle.world.proofs.drains.RoundLaws.{marks_after_reports, marks_after_reports-all, marks_after_reports-next}
use Rattle.world.proofs.drains.TurnLaws.{stepped-on}

-- a mark that was reported is that of the interval's own work
pub marked-reported : (old new : BookView) (all : List (Option HeldView)) (interval mark : ℕ) (held : HeldView)
    → IsAtWork old (worker_of all) → IsTopology old.case.topology → held_at all interval ≡ Some held
    → interval < interval_count old.case.topology → IsReportOf old.case (own_view old) (own_view new) interval held mark
    → IsSome old.rows → HasReported old new interval
marked-reported old new all interval mark held at rules there less report told bounds bounded =
    let own = report.own in
    let is : IsHeld old.case (own_view old) interval held = at.fits.held.each interval held there in
    let last = at.each interval less in
    let same : last.held ≡ held = some_same last.held held (sym last.there ∙ there) in
    let current : last_claim interval old.history ≡ Some held.lease.seq = subst (λ (h : HeldView).
    last_claim interval old.history ≡ Some h.lease.seq) same last.last in
    let of_rows = report.of_rows bounds bounded in
    let known_own = told-fact old.rows (own ≡ own_work old.case
    (run_of old.case.topology (known held.lease.interval held.lease.seq old.history)) bounds) told
    (own_work-known old.case (own_view old) interval held bounds is bounded rules own of_rows) in
    let whole : known held.lease.interval held.lease.seq old.history ≡ old.history =
    known-last held.lease.interval held.lease.seq old.history
    (subst (λ (i : ℕ). last_claim i old.history ≡ Some held.lease.seq) (sym is.of_interval) current) in
    let work : own ≡ own_work old.case (run_of old.case.topology old.history) bounds =
    known_own ∙ ap (λ (h : List Entry). own_work old.case (run_of old.case.topology h) bounds) whole in
    let raised = report.alone refl in
    raised.raised
    ∙ ap (λ (m : ℕ). with_mark held.lease.interval m old.marks) raised.answer
    ∙ ap (λ (o : ℕ). with_mark held.lease.interval (reported old.case.topology held.lease.interval o old.marks) old.marks) work
    ∙ ap (λ (i : ℕ). with_mark i (reported old.case.topology i (own_work old.case (run_of old.case.topology old.history) bounds)
    old.marks)
    old.marks) is.of_interval

-- a mark that has come up to those that feed its interval stays, whatever the own work is
pub high-reported : (book : BookView) (interval : ℕ)
    → least (feeding_marks book.case.topology interval book.marks) ≤ mark_of book.marks interval → HasReported book book interval
high-reported book interval high bounds bounded =
    let mark = mark_of book.marks interval in
    let own = own_work book.case (run_of book.case.topology book.history) bounds in
    let inputs = least (feeding_marks book.case.topology interval book.marks) in
    let stays : max mark (min own inputs) ≡ mark = omega (arith, high) in
    sym (ap (λ (m : ℕ). with_mark interval m book.marks) stays ∙ mark-same book.marks interval)

-- ---- a round

-- a round that began with a book has reported so many intervals, and where told the marks are as they are then
pub record IsReporting (start book : BookView) (node : NodeView) (count : ℕ) : Type 0 where
  pub stepped : HasStepped start book None
  pub at_work : IsAtWork book node
  pub marks : IsSome start.rows → book.marks ≡ marks_after_reports start.case (run_of start.case.topology start.history) start.marks count

-- a report more
pub reports-on : (start old new : BookView) (was node : NodeView) (interval : ℕ)
    → IsReporting start old was interval
    → interval < interval_count start.case.topology → HasStepped old new None → IsAtWork new node
    → (IsSome old.rows → HasReported old new interval)
    → IsReporting start new node (interval + 1)
reports-on start old new was node interval on less stepped at given = record {
  stepped = stepped-on start old new None on.stepped stepped;
  at_work = at;
  marks = λ told.
      let run = run_of start.case.topology start.history in
      let all = length-intervals start.case.topology in
      let bounds = bounds-there (intervals_of start.case.topology) interval (omega (arith, less, all)) in
      let reported = given (told-on start old None on.stepped told) bounds.0
      (ap (λ (c : CaseShape). slice_get (intervals_of c.topology) interval) on.stepped.case ∙ bounds.1) in
      reported
      ∙ ap (λ (c : CaseShape). with_report c (run_of c.topology old.history) old.marks (interval, bounds.0)) on.stepped.case
      ∙ ap (λ (h : List Entry). with_report start.case (run_of start.case.topology h) old.marks (interval, bounds.0)) on.stepped.appended
      ∙ ap (λ (m : List ℕ). with_report start.case run m (interval, bounds.0)) (on.marks told)
      ∙ marks_after_reports-next start.case run start.marks interval bounds.0 bounds.1;
}
  where
    bounds-there : {X : Type 0} (xs : List X) (i : ℕ) → i < length xs → (x : X) × (slice_get xs i ≡ Some x)
    bounds-there [] i within = absurd (omega (arith, within))
    bounds-there (x ∷ xs) zero within = (x, refl)
    bounds-there (x ∷ xs) (suc i) within = bounds-there xs i (omega (arith, within))

-- all are reported
pub reports-all : (start book : BookView) (node : NodeView) (count : ℕ) → count ≡ interval_count start.case.topology
    → IsReporting start book node count
    → IsSome start.rows → book.marks ≡ marks_after_round start.case (run_of start.case.topology start.history) start.marks
reports-all start book node count all on told =
    let run = run_of start.case.topology start.history in
    on.marks told
    ∙ ap (marks_after_reports start.case run start.marks) (all ∙ sym (length-intervals start.case.topology))
    ∙ marks_after_reports-all start.case run start.marks

-- What is reported under the last claim of an interval is at most the interval's work by the whole history, and the marks are at
-- most the low watermarks.
use Rattle.std.proofs.Common.{◌≡◌, ℕ, ◌<◌, ◌≤◌, true, List, ◌++◌, take, drop, sym, ap, subst, arith}
use Rattle.std.specs.Prelude.{◌↔◌, min, Option, Some, None, IfSome, Err, slice_get}
use Rattle.std.proofs.lemmas.List.{take-append-drop}
use Rattle.mw_types.specs.declared.entry.Entry.{Entry}
use Rattle.key_intervals.specs.declared.bounds.Bounds.{Bounds}
use Rattle.row_keeper.specs.Rows.{Rows}
use Rattle.run_history.specs.Cases.{CaseShape, is_injector, intervals_of}
use Rattle.run_history.specs.Runs.{Run, run_of, empty_run}
use Rattle.run_history.specs.Legal.{IsLegal}
use Rattle.run_history.specs.Watermarks.{least, source_mark}
use Rattle.run_history.specs.Fences.{IsFenced, HasSeen, last_claim, known}
use Rattle.run_history.specs.Inputs.{IsRunnable}
use Rattle.run_history.specs.Marks.{own_work}
use Rattle.list_lemmas.proofs.Lists.{some_same}
use Rattle.history_laws.proofs.Along.{run_of-append, AreLegal-apart, along_entries}
use Rattle.history_laws.proofs.FenceLaws.{claim-within, row_of-seen}
use Rattle.run_history.proofs.Known.{known-last}
use Rattle.run_history.proofs.Claims.{last_claim-front}
use Rattle.run_history.proofs.IntervalLaws.{has-interval_of, are-intervals}
use Rattle.history_laws.proofs.LowLaws.{rows-in_order}
use Rattle.history_laws.proofs.MarkLaws.{own-from, from-own, own-end}
use Rattle.history_laws.proofs.OwnLaws.{IsRowFrom}
use Rattle.history_laws.proofs.ReportLaws.{IsSafe-reported}
use Rattle.history_laws.proofs.SeenLaws.{HasSeen-take}
use Rattle.history_laws.proofs.WorkLaws.{source_mark-followed}
use Rattle.watermark.specs.Marks.{feeding_marks}
use Rattle.watermark.proofs.SafeMarks.{under-feeding, are-under_low as under_low}
use Rattle.book.specs.Books.{BookView, LeaseView, core_of}
use Rattle.book.specs.Lawful.{HoldsRowsOf, IsLawful}
use Rattle.book.specs.Conditions.{HasSeenAllAt, IsOwnWorkAt}
use Rattle.book.specs.Answers.{IsStaleReport}
use Rattle.book.specs.declared.refusals.Stale.{Stale}
use Rattle.book.specs.Marks.{IsSafeAt, AreSafe, AreUnderLow}
use Rattle.book.proofs.ClaimLaws.{err-is, is-err}
use Rattle.book.proofs.SeenRows.{told-both, told-then}

-- ---- own work

-- the watermark that an injector states never falls
pub source_mark-rises : (case : CaseShape) (front rest : List Entry) (part : ℕ) → IsRunnable case → IsLegal case (front ++ rest)
    → is_injector case.topology part ≡ true
    → source_mark case (run_of case.topology front) part ≤ source_mark case (run_of case.topology (front ++ rest)) part
source_mark-rises case front rest part runs legal is =
    subst (λ (r : Run). stated ≤ source_mark case r part) (sym (run_of-append case.topology front rest))
    (along_entries case (λ done run. stated ≤ source_mark case run part)
    (λ done run entry from may. let rises = source_mark-followed case run entry part runs may is in omega (arith, from, rises))
    rest front (run_of case.topology front) (omega arith) (AreLegal-apart case front rest empty_run legal).1)
  where
    stated : ℕ
    stated = source_mark case (run_of case.topology front) part

-- the own work of an interval, by what has seen its last claim, is at most that by the whole history
pub own_work-seen : (case : CaseShape) (front rest : List Entry) (interval seq : ℕ) (b : Bounds) → IsRunnable case
    → IsLegal case (front ++ rest)
    → IsFenced case.topology (front ++ rest) → HasSeen interval seq front rest → slice_get (intervals_of case.topology) interval ≡ Some b
    → own_work case (run_of case.topology front) b ≤ own_work case (run_of case.topology (front ++ rest)) b
own_work-seen case front rest interval seq b runs legal fenced seen at =
    let shape = case.topology in
    let own = own_work case (run_of shape front) b in
    let from = own-from case (run_of shape front) own b (omega arith) in
    from-own case (run_of shape (front ++ rest)) own b (rows-in_order shape (front ++ rest)) (own-end case (run_of shape front) b) (record {
      rows = λ name has. subst (IsRowFrom own)
          (sym (row_of-seen shape interval seq front rest fenced seen name
          (has-interval_of shape interval name (are-intervals shape runs.topology) (b, at, has))))
          (from.rows name has);
      mark = λ is.
          let stated = from.mark is in
          let rises = source_mark-rises case front rest b.part runs legal is in omega (arith, stated, rises);
    })

-- what is reported as own work is at most the work of the interval by the whole history
own-whole : (book : BookView) (lease : LeaseView) (front own : ℕ) (b : Bounds) → IsLawful book.case (core_of book)
    → IsLegal book.case book.history
    → HasSeenAllAt book lease front → last_claim lease.interval book.history ≡ Some lease.seq
    → slice_get (intervals_of book.case.topology) lease.interval ≡ Some b
    → own ≡ own_work book.case (run_of book.case.topology (known lease.interval lease.seq (take front book.history))) b
    → own ≤ own_work book.case (run_of book.case.topology book.history) b
own-whole book lease front own b lawful legal saw last at is =
    let case = book.case in
    let shape = case.topology in
    let split = take-append-drop front book.history in
    let seen = HasSeen-take lease.interval lease.seq front book.history last saw in
    let whole = known-last lease.interval lease.seq (take front book.history)
    (last_claim-front lease.interval lease.seq (take front book.history) (drop front book.history) seen.last
    (claim-within lease.interval lease.seq (take front book.history) (drop front book.history) seen.all)) in
    let below = own_work-seen case (take front book.history) (drop front book.history) lease.interval lease.seq b lawful.runnable
    (subst (IsLegal case) (sym split) legal) (subst (IsFenced shape) (sym split) lawful.fenced) seen at in
    let as_seen = ap (λ (h : List Entry). own_work case (run_of shape h) b) whole in
    let as_whole = ap (λ (h : List Entry). own_work case (run_of shape h) b) split in
    omega (arith, is, as_seen, below, as_whole)

-- ---- a report

-- what is reported is a safe mark, as far as the marks that feed the interval allow
pub IsSafeAt-reported : (book : BookView) (lease : LeaseView) (front own : ℕ) → IsLawful book.case (core_of book)
    → HasSeenAllAt book lease front
    → IsOwnWorkAt book lease front own → last_claim lease.interval book.history ≡ Some lease.seq
    → IfSome book.rows (λ _. IsSafeAt book.case (run_of book.case.topology book.history) lease.interval
    (min own (least (feeding_marks book.case.topology lease.interval book.marks))))
IsSafeAt-reported book lease front own lawful saw is last = by_told book.rows lawful.held lawful.safe is
  where
    run : Run
    run = run_of book.case.topology book.history

    inputs : ℕ
    inputs = least (feeding_marks book.case.topology lease.interval book.marks)

    by_told : (told : Option Rows) → IfSome told (HoldsRowsOf book.case book.history) → IfSome told (λ _. AreSafe book.case run book.marks)
        → ((b : Bounds) → slice_get (intervals_of book.case.topology) lease.interval ≡ Some b
        → IfSome told (λ _. own ≡ own_work book.case
        (run_of book.case.topology (known lease.interval lease.seq (take front book.history))) b))
        → IfSome told (λ _. IsSafeAt book.case run lease.interval (min own inputs))
    by_told None held safe is = tt
    by_told (Some rows) held safe is = λ b at.
        let below = own-whole book lease front own b lawful held.legal saw last at (is b at) in
        IsSafe-reported book.case book.history lease.interval b (min own inputs) lawful.runnable at (omega (arith, below))
        (under-feeding book.case run book.marks lease.interval (min own inputs) b safe at (omega arith))

-- a report is stale by the later claim that was found, and names it
pub stale-report : (history : List Entry) (lease : LeaseView) (n : ℕ)
    → ((newer : ℕ) → (Some n ≡ Some newer) ↔ ((last_claim lease.interval history ≡ Some newer) × (lease.seq < newer)))
    → IsStaleReport history lease (Err (record { newer = n }))
stale-report history lease n later newer = (
  λ same. (later newer).0 (ap (λ (s : Stale). Some s.newer) (err-is (stale n) (stale newer) same)),
  λ is. is-err (stale n) (stale newer) (ap stale (some_same n newer ((later newer).1 is))),
)
  where
    stale : ℕ → Stale
    stale number = record { newer = number }

-- ---- under the low watermark

-- the least mark of a part's intervals is at most the part's low watermark, where a contract can see the keeper's rows
pub are-under_low : (book : BookView) → IsLawful book.case (core_of book)
    → IfSome book.rows (λ _. AreUnderLow book.case (run_of book.case.topology book.history) book.marks)
are-under_low book lawful =
    told-then book.rows (λ r. HoldsRowsOf book.case book.history r × AreSafe book.case (run_of book.case.topology book.history) book.marks) _
    (told-both book.rows (HoldsRowsOf book.case book.history) _ lawful.held lawful.safe)
    (λ r p part there. under_low book.case book.history book.marks lawful.runnable p.0.legal lawful.marks p.1 part there)

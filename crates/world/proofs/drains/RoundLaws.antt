-- After one round of reports each mark is the greatest that is safe, and where nothing is pending the least of a computation's marks
-- is its low watermark.
use Rattle.std.proofs.Common.{◌≡◌, ℕ, zero, suc, ◌+◌, ◌<◌, ◌≤◌, ◌==◌, Bool, true, false, cond, List, [], ◌∷◌, length, map, take, fold, min, refl, sym, ◌∙◌, ap, subst, arith, inl, inr}
use Rattle.std.specs.Prelude.{Option, Some, None, MatchBool, slice_get, unwrap_or, ◌-◌, nat_eq}
use Rattle.std.specs.Cmp.Lexicographic.{pointwise}
use Rattle.std.specs.List.{AllByRecursion, enumerate_from, filter_map, list_any}
use Rattle.std.specs.Option.{option_map, option_map_or}
use Rattle.std.proofs.lemmas.Bool.{both_ways, cases_lt}
use Rattle.std.proofs.lemmas.List.{take_all}
use Rattle.std.proofs.lemmas.List.FromFn.{length-enumerate_from}
use Rattle.std.proofs.lemmas.Option.{slice_get_within}
use Rattle.mw_types.specs.declared.TheConstants.{END}
use Rattle.mw_types.specs.declared.identity.RowName.{RowName}
use Rattle.mw_types.specs.declared.entry.Entry.{Entry}
use Rattle.key_intervals.specs.declared.bounds.Bounds.{Bounds}
use Rattle.key_intervals.proofs.Lookup.{of_part}
use Rattle.topology.specs.Shapes.{Shape, ComputationShape, Reading, parts_of, injectors_of, feeds_of, streams_of}
use Rattle.run_history.specs.Cases.{CaseShape, is_injector, intervals_of}
use Rattle.run_history.specs.Runs.{Run, run_of, row_of}
use Rattle.run_history.specs.Watermarks.{least, source_mark, low_watermark}
use Rattle.run_history.specs.Legal.{IsLegal}
use Rattle.run_history.specs.Finished.{all_pending}
use Rattle.run_history.specs.Inputs.{IsRunnable}
use Rattle.run_history.specs.Marks.{own_work, IsSafe}
use Rattle.list_lemmas.proofs.Lists.{none_some, some_same, each-weaker, each-map}
use Rattle.history_laws.proofs.FeedLaws.{feeds-before}
use Rattle.history_laws.proofs.FitLaws.{AreOfKind, legal-of_kind}
use Rattle.history_laws.proofs.LowLaws.{AreRowsInOrder, rows-in_order, least-bound, bound-each, low-from, low_under-end, LowFrom, LowFrom-any_depth, each-every}
use Rattle.history_laws.proofs.WorkLaws.{DueFrom, FeedsFrom}
use Rattle.history_laws.proofs.OwnLaws.{PendsFrom, IsPartFrom}
use Rattle.history_laws.proofs.MarkLaws.{interval-there, from-own, own-end, WorkFrom, IsAboveFrom, feeds-above, IsSafeFrom, safe-from}
use Rattle.history_laws.proofs.ReportLaws.{IsSafe-reported, marks-low}
use Rattle.watermark.specs.Marks.{mark_of, marks_of, numbers_in, feeding_marks}
use Rattle.book.specs.Marks.{AreSafe, reported, with_mark}
use Rattle.book.proofs.MarkSteps.{AreSafe-raised, length-with_mark, mark-here, mark-other}
use Rattle.world.specs.drains.ReportRounds.{with_report, marks_after_round}
use Rattle.world.proofs.Firsts.{none-row_of}
use Rattle.watermark.proofs.SafeMarks.{part-bound, under-feeding}
use Rattle.world.proofs.drains.Marked.{any-each, numbers_in-each, number-before, marks_in-each}

-- a bound of the work above an interval's part is a safe mark of the interval, as a bound
pub above-safe : (case : CaseShape) (run : Run) (x : ℕ) (b : Bounds) → IsAboveFrom case run x b.part → IsSafeFrom case run b x
above-safe case run x b above = record {
  own = record { rows = λ name has. (above 0).rows name (sym (of_part b name has)); mark = (above 0).mark };
  inputs = feeds-above case run x b.part above;
}

-- ---- a round of reports

-- one report after another, of intervals that are numbered from n on
abbrev pub reports_from : CaseShape → Run → ℕ → List Bounds → List ℕ → List ℕ
reports_from case run n bs marks = fold (with_report case run) marks (enumerate_from n bs)

-- reports leave as many marks
length-reports : (case : CaseShape) (run : Run) (n : ℕ) (bs : List Bounds) (marks : List ℕ)
    → length (reports_from case run n bs marks) ≡ length marks
length-reports case run n [] marks = refl
length-reports case run n (b ∷ bs) marks =
    length-reports case run (n + 1) bs (with_report case run marks (n, b))
    ∙ length-with_mark n (reported case.topology n (own_work case run b) marks) marks

-- the marks once the first so many intervals are reported
abbrev pub marks_after_reports : CaseShape → Run → List ℕ → ℕ → List ℕ
marks_after_reports case run marks n = fold (with_report case run) marks (take n (enumerate_from 0 (intervals_of case.topology)))

-- one interval more
one_more : {X Y : Type 0} (f : Y → ℕ × X → Y) (n k : ℕ) (xs : List X) (x : X) (start : Y) → slice_get xs k ≡ Some x
    → fold f start (take (suc k) (enumerate_from n xs)) ≡ f (fold f start (take k (enumerate_from n xs))) (n + k, x)
one_more f n k [] x start at = absurd (none_some x at)
one_more f n zero (y ∷ ys) x start at =
    let zero_more : n ≡ n + 0 = omega arith in let same = some_same y x at in λ i. f start (zero_more i, same i)
one_more f n (suc k) (y ∷ ys) x start at =
    let next : n + 1 + k ≡ n + suc k = omega arith in
    one_more f (n + 1) k ys x (f start (n, y)) at
    ∙ ap (λ m. f (fold f (f start (n, y)) (take k (enumerate_from (n + 1) ys))) (m, x)) next

-- a report of the next interval takes the marks one further
pub marks_after_reports-next : (case : CaseShape) (run : Run) (marks : List ℕ) (n : ℕ) (b : Bounds) → slice_get (intervals_of case.topology) n ≡ Some b
    → with_report case run (marks_after_reports case run marks n) (n, b) ≡ marks_after_reports case run marks (n + 1)
marks_after_reports-next case run marks n b at =
    let none_before : n ≡ 0 + n = omega arith in let next : suc n ≡ n + 1 = omega arith in
    ap (λ m. with_report case run (marks_after_reports case run marks n) (m, b)) none_before
    ∙ sym (one_more (with_report case run) 0 n (intervals_of case.topology) b marks at) ∙ ap (marks_after_reports case run marks) next

-- and those of all make the round
pub marks_after_reports-all : (case : CaseShape) (run : Run) (marks : List ℕ)
    → marks_after_reports case run marks (length (intervals_of case.topology)) ≡ marks_after_round case run marks
marks_after_reports-all case run marks =
    ap (fold (with_report case run) marks)
    (take_all (length (intervals_of case.topology)) (enumerate_from 0 (intervals_of case.topology))
    (let long = length-enumerate_from 0 (intervals_of case.topology) in omega (arith, long)))

-- the intervals from the n-th on
abbrev AreFrom : Shape → ℕ → List Bounds → Type 0
AreFrom shape n bs = (k : ℕ) (b : Bounds) → slice_get bs k ≡ Some b → slice_get (intervals_of shape) (n + k) ≡ Some b

-- the intervals behind the n-th
are_behind : (shape : Shape) (n : ℕ) (b : Bounds) (bs : List Bounds) → AreFrom shape n (b ∷ bs) → AreFrom shape (n + 1) bs
are_behind shape n b bs are k c at =
    let next : n + suc k ≡ n + 1 + k = omega arith in
    subst (λ i. slice_get (intervals_of shape) i ≡ Some c) next (are (suc k) c at)

-- the n-th interval
is_next : (shape : Shape) (n : ℕ) (b : Bounds) (bs : List Bounds) → AreFrom shape n (b ∷ bs) → slice_get (intervals_of shape) n ≡ Some b
is_next shape n b bs are =
    let zero_more : n + 0 ≡ n = omega arith in subst (λ i. slice_get (intervals_of shape) i ≡ Some b) zero_more (are 0 b refl)

-- ---- the marks stay safe

-- a report of an interval's own work leaves safe marks
AreSafe-report : (case : CaseShape) (history : List Entry) (marks : List ℕ) (n : ℕ) (b : Bounds)
    → IsRunnable case → length marks ≡ length (intervals_of case.topology) → slice_get (intervals_of case.topology) n ≡ Some b
    → AreSafe case (run_of case.topology history) marks
    → AreSafe case (run_of case.topology history) (with_report case (run_of case.topology history) marks (n, b))
AreSafe-report case history marks n b runs long at safe =
    let within = slice_get_within (intervals_of case.topology) n b at in
    AreSafe-raised case run marks n x (omega (arith, within, long)) safe (λ c there.
    subst (λ (d : Bounds). IsSafe case run d x) (some_same b c (sym at ∙ there))
    (IsSafe-reported case history n b x runs at (omega arith) (under-feeding case run marks n x b safe at (omega arith))))
  where
    run : Run
    run = run_of case.topology history

    x : ℕ
    x = min (own_work case run b) (least (feeding_marks case.topology n marks))

-- so do the reports of a round
AreSafe-reports : (case : CaseShape) (history : List Entry) (n : ℕ) (bs : List Bounds) (marks : List ℕ)
    → IsRunnable case → AreFrom case.topology n bs → length marks ≡ length (intervals_of case.topology)
    → AreSafe case (run_of case.topology history) marks
    → AreSafe case (run_of case.topology history) (reports_from case (run_of case.topology history) n bs marks)
AreSafe-reports case history n [] marks runs are long safe = safe
AreSafe-reports case history n (b ∷ bs) marks runs are long safe =
    let run = run_of case.topology history in
    AreSafe-reports case history (n + 1) bs (with_report case run marks (n, b)) runs (are_behind case.topology n b bs are)
    (length-with_mark n (reported case.topology n (own_work case run b) marks) marks ∙ long)
    (AreSafe-report case history marks n b runs long (is_next case.topology n b bs are) safe)

-- ---- the marks reach what is safe

-- the mark of each interval below the n-th is at least what is a safe mark of the interval
abbrev Reach : CaseShape → Run → ℕ → List ℕ → ℕ → Type 0
Reach case run x marks n = (i : ℕ) (b : Bounds) → i < n → slice_get (intervals_of case.topology) i ≡ Some b → IsSafeFrom case run b x
    → x ≤ mark_of marks i

-- what feeds an interval has reached what is safe for the interval
feeding-reach : (case : CaseShape) (run : Run) (x : ℕ) (marks : List ℕ) (n : ℕ) (b : Bounds) → IsRunnable case → x ≤ END
    → slice_get (intervals_of case.topology) n ≡ Some b → Reach case run x marks n → IsSafeFrom case run b x
    → x ≤ least (feeding_marks case.topology n marks)
feeding-reach case run x marks n b runs end at reach safe =
    subst (λ (o : Option Bounds). x ≤ least (map (mark_of marks)
    (option_map_or (λ (e : Bounds). numbers_in (feeds_of case.topology e.part) 0 (intervals_of case.topology)) o []))) (sym at)
    (least-bound x (map (mark_of marks) numbers) end (each-map (λ m. x ≤ m) (mark_of marks) numbers
    (numbers_in-each (λ i. x ≤ mark_of marks i) feeds 0 (intervals_of case.topology) of_each)))
  where
    feeds : List ℕ
    feeds = feeds_of case.topology b.part

    numbers : List ℕ
    numbers = numbers_in feeds 0 (intervals_of case.topology)

    of_each : (k : ℕ) (c : Bounds) → slice_get (intervals_of case.topology) k ≡ Some c → list_any (λ part. part == c.part) feeds ≡ true
        → x ≤ mark_of marks (0 + k)
    of_each k c there among =
        let less = any-each (λ f. f < b.part) c.part feeds (feeds-before case.topology b.part runs.topology) among in
        let above = any-each (IsAboveFrom case run x) c.part feeds safe.inputs among in
        let none_before : k ≡ 0 + k = omega arith in
        subst (λ i. x ≤ mark_of marks i) none_before
        (reach k c (number-before case.topology n k b c runs.topology at there less) there (above-safe case run x c above))

-- a report reaches what is safe for its interval, where the marks of all intervals before it have
reach-report : (case : CaseShape) (run : Run) (x : ℕ) (marks : List ℕ) (n : ℕ) (b : Bounds) → IsRunnable case → AreRowsInOrder run
    → x ≤ END → length marks ≡ length (intervals_of case.topology) → slice_get (intervals_of case.topology) n ≡ Some b
    → Reach case run x marks n → Reach case run x (with_report case run marks (n, b)) (n + 1)
reach-report case run x marks n b runs order end long at reach i c before there safe = elim (cases_lt i n) [
  | inl less ↦
      let old = reach i c less there safe in
      let same = mark-other marks n i new (λ e. absurd (omega (arith, e, less))) in
      omega (arith, old, same)
  | inr le ↦
      let is : i ≡ n = omega (arith, before, le) in
      let own : IsSafeFrom case run b x = subst (λ (d : Bounds). IsSafeFrom case run d x)
      (some_same c b (sym there ∙ ap (slice_get (intervals_of case.topology)) is ∙ at)) safe in
      let inputs = feeding-reach case run x marks n b runs end at reach own in
      let work = from-own case run x b order end own.own in
      let within = slice_get_within (intervals_of case.topology) n b at in
      let here = mark-here marks n new (omega (arith, within, long)) in
      let put = ap (mark_of (with_mark n new marks)) is in
      omega (arith, inputs, work, here, put)
]
  where
    new : ℕ
    new = reported case.topology n (own_work case run b) marks

-- so do the reports of a round
reach-reports : (case : CaseShape) (run : Run) (x n : ℕ) (bs : List Bounds) (marks : List ℕ) → IsRunnable case → AreRowsInOrder run
    → x ≤ END → AreFrom case.topology n bs → length marks ≡ length (intervals_of case.topology) → Reach case run x marks n
    → Reach case run x (reports_from case run n bs marks) (n + length bs)
reach-reports case run x n [] marks runs order end are long reach i b before =
    reach i b (omega (arith, before))
reach-reports case run x n (b ∷ bs) marks runs order end are long reach i c before =
    reach-reports case run x (n + 1) bs (with_report case run marks (n, b)) runs order end (are_behind case.topology n b bs are)
    (length-with_mark n (reported case.topology n (own_work case run b) marks) marks ∙ long)
    (reach-report case run x marks n b runs order end long (is_next case.topology n b bs are) reach)
    i c (omega (arith, before))

-- after a round the mark of each interval is at least what is a safe mark of the interval
pub round-reach : (case : CaseShape) (run : Run) (x : ℕ) (marks : List ℕ) (i : ℕ) (b : Bounds) → IsRunnable case → AreRowsInOrder run
    → x ≤ END → length marks ≡ length (intervals_of case.topology) → slice_get (intervals_of case.topology) i ≡ Some b
    → IsSafeFrom case run b x → x ≤ mark_of (marks_after_round case run marks) i
round-reach case run x marks i b runs order end long at safe =
    let within = slice_get_within (intervals_of case.topology) i b at in
    reach-reports case run x 0 (intervals_of case.topology) marks runs order end
    (λ k c there.
    let none_before : k ≡ 0 + k = omega arith in subst (λ n. slice_get (intervals_of case.topology) n ≡ Some c) none_before there)
    long (λ k c before there from. absurd (omega (arith, before))) i b (omega (arith, within)) at safe

-- ---- where nothing is pending

module _ (case : CaseShape) (run : Run) (x : ℕ) (none : all_pending run ≡ []) (kinds : AreOfKind case run) where
  -- the rows of a part have nothing pending
  pends : (name : RowName) → AllByRecursion (PendsFrom x) (row_of case.topology run name).pending
  pends name = subst (AllByRecursion (PendsFrom x)) (sym (none-row_of case.topology run name none)) tt

  -- an injector has no work but what its file states
  injector-part : (part : ℕ) → is_injector case.topology part ≡ true → x ≤ source_mark case run part → IsPartFrom case run x part
  injector-part part is stated = record {
    rows = λ name of. record {
      timers = subst (AllByRecursion (DueFrom x)) (sym (kinds.no_timers name
          (subst (λ n. is_injector case.topology n ≡ true) (sym of) is))) tt;
      pending = pends name;
    };
    mark = λ _. stated;
  }

  -- nothing feeds an injector
  injector-feeds : (P : ℕ → Type 0) (part : ℕ) → is_injector case.topology part ≡ true → AllByRecursion P (feeds_of case.topology part)
  injector-feeds P part is =
      subst (λ b. AllByRecursion P (filter_map (λ (p : ℕ × List ℕ). cond (list_any (λ (r : Reading). pointwise nat_eq r.stream p.1)
      (unwrap_or (option_map (λ (c : ComputationShape). c.reads)
      (cond b None (slice_get case.topology.computations (part - injectors_of case.topology)))) [])) (Some p.0) None)
      (enumerate_from 0 (streams_of case.topology)))) (sym is) (nothing 0 (streams_of case.topology))
    where
      nothing : (n : ℕ) (xs : List (List ℕ))
          → AllByRecursion P (filter_map (λ (p : ℕ × List ℕ). cond false (Some p.0) None) (enumerate_from n xs))
      nothing n [] = tt
      nothing n (s ∷ ss) = nothing (n + 1) ss

  -- nor is there work above it
  injector-above : (depth part : ℕ) → is_injector case.topology part ≡ true → x ≤ source_mark case run part → WorkFrom case run x depth part
  injector-above zero part is stated = injector-part part is stated
  injector-above (suc depth) part is stated = (injector-part part is stated, injector-feeds (WorkFrom case run x depth) part is)

  -- a bound of a computation's low watermark is one of its own work
  computation-part : (part : ℕ) → is_injector case.topology part ≡ false → ((any : ℕ) → LowFrom case run x any part)
      → IsPartFrom case run x part
  computation-part part not from = record {
    rows = λ name of. record { timers = (from 0).timers name of; pending = pends name };
    mark = λ is. absurd (both_ways (is_injector case.topology part) not is);
  }

  -- and of the work above it
  low-above : (depth part : ℕ) → is_injector case.topology part ≡ false → ((any : ℕ) → LowFrom case run x any part)
      → WorkFrom case run x depth part
  low-above zero part not from = computation-part part not from
  low-above (suc depth) part not from = (
    computation-part part not from,
    each-weaker (λ f. (any : ℕ) → FeedsFrom case run x (LowFrom case run x any) f) (WorkFrom case run x depth)
        (λ f all. feed f (λ is deeper. low-above depth f is deeper) (is_injector case.topology f) refl all)
        (feeds_of case.topology part)
        (each-every (λ any f. FeedsFrom case run x (LowFrom case run x any) f) (feeds_of case.topology part) (λ any. (from (suc any)).1)),
  )
    where
      feed : (f : ℕ) → (is_injector case.topology f ≡ false → ((any : ℕ) → LowFrom case run x any f) → WorkFrom case run x depth f)
          → (b : Bool) → is_injector case.topology f ≡ b
          → ((any : ℕ) → MatchBool b (x ≤ source_mark case run f) (LowFrom case run x any f)) → WorkFrom case run x depth f
      feed f deeper true is all = injector-above depth f is (all 0)
      feed f deeper false is all = deeper is all

-- ---- a whole round

-- a round leaves safe marks
pub round-safe : (case : CaseShape) (history : List Entry) (marks : List ℕ) → IsRunnable case
    → length marks ≡ length (intervals_of case.topology) → AreSafe case (run_of case.topology history) marks
    → AreSafe case (run_of case.topology history) (marks_after_round case (run_of case.topology history) marks)
round-safe case history marks runs long safe =
    AreSafe-reports case history 0 (intervals_of case.topology) marks runs
    (λ k c there.
    let none_before : k ≡ 0 + k = omega arith in subst (λ n. slice_get (intervals_of case.topology) n ≡ Some c) none_before there)
    long safe

-- and each is at least each safe mark of its interval
pub round-greatest : (case : CaseShape) (history : List Entry) (marks : List ℕ) (i : ℕ) (b : Bounds) (x : ℕ) → IsRunnable case
    → length marks ≡ length (intervals_of case.topology) → slice_get (intervals_of case.topology) i ≡ Some b
    → IsSafe case (run_of case.topology history) b x → x ≤ mark_of (marks_after_round case (run_of case.topology history) marks) i
round-greatest case history marks i b x runs long at safe =
    let run = run_of case.topology history in
    let own = safe.own in let top = own-end case run b in
    round-reach case run x marks i b runs (rows-in_order case.topology history) (omega (arith, own, top)) long at
    (safe-from case run b x runs (interval-there case.topology i b at) safe)

-- after a round the least of a computation's marks is its low watermark, where nothing is pending
pub round-low : (case : CaseShape) (history : List Entry) (marks : List ℕ) (part : ℕ) → IsRunnable case → IsLegal case history
    → all_pending (run_of case.topology history) ≡ [] → length marks ≡ length (intervals_of case.topology)
    → AreSafe case (run_of case.topology history) marks → is_injector case.topology part ≡ false → part < parts_of case.topology
    → least (marks_of case.topology part (marks_after_round case (run_of case.topology history) marks))
    ≡ low_watermark case (run_of case.topology history) part
round-low case history marks part runs legal none long safe not there = omega (arith, under, over)
  where
    run : Run
    run = run_of case.topology history

    after : List ℕ
    after = marks_after_round case run marks

    low : ℕ
    low = low_watermark case run part

    as_many : length after ≡ length (intervals_of case.topology)
    as_many = length-reports case run 0 (intervals_of case.topology) marks ∙ long

    under : least (marks_of case.topology part after) ≤ low
    under = let x = least (marks_of case.topology part after) in marks-low case history part x runs legal there
        (λ i b at of. (
          mark_of after i,
          part-bound x part (intervals_of case.topology) after i b as_many
              (bound-each x (marks_of case.topology part after) (omega arith)) at of,
          round-safe case history marks runs long safe i b at,
        ))

    above : IsAboveFrom case run low part
    above depth = low-above case run low none (legal-of_kind case history legal) depth part not
        (LowFrom-any_depth case run low runs.topology (parts_of case.topology) part (omega (arith, there))
        (low-from case run low (parts_of case.topology) part (omega arith)))

    end : low ≤ END
    end = low_under-end case run (parts_of case.topology) part

    over : low ≤ least (marks_of case.topology part after)
    over = least-bound low (marks_of case.topology part after) end
        (marks_in-each low part (intervals_of case.topology) after
        (λ i b at of. round-reach case run low marks i b runs (rows-in_order case.topology history) end long at
        (above-safe case run low b (subst (IsAboveFrom case run low) (sym of) above))))

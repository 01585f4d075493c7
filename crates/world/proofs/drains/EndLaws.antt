-- Where nothing is unacknowledged, no timer is due and no line is left, no timer is set, and no work is left.
use Rattle.std.proofs.Common.{◌≡◌, ℕ, zero, suc, ◌+◌, ◌<◌, ◌≤◌, Bool, true, false, List, [], ◌∷◌, length, refl, sym, ◌∙◌, ap, subst, arith, inl, inr}
use Rattle.std.specs.Prelude.{◌⊎◌, Contains, MatchBool}
use Rattle.std.specs.List.{AllByRecursion, range_with_len}
use Rattle.std.specs.Option.{option_map_or}
use Rattle.std.proofs.lemmas.Bool.{ltb-true, ltb-false, cases_lt}
use Rattle.std.proofs.lemmas.Option.{slice_get_past}
use Rattle.list_lemmas.proofs.Places.{range-each}
use Rattle.mw_types.specs.declared.TheConstants.{MAX_STAMP, END}
use Rattle.mw_types.specs.declared.identity.RowName.{RowName}
use Rattle.mw_types.specs.declared.timer.Timer.{Timer}
use Rattle.mw_types.specs.declared.delivery.Delivery.{Delivery}
use Rattle.mw_types.specs.declared.entry.Entry.{Entry}
use Rattle.injector.specs.Sources.{SourceLine}
use Rattle.topology.specs.Shapes.{Shape, parts_of, injectors_of, feeds_of}
use Rattle.row_parts.specs.Contents.{Contents, found_delivery}
use Rattle.run_history.specs.Cases.{CaseShape, is_injector, source_of}
use Rattle.run_history.specs.Runs.{Run, run_of, row_of}
use Rattle.run_history.specs.Watermarks.{cursor_of, source_mark, low_watermark}
use Rattle.run_history.specs.Legal.{IsLegal}
use Rattle.run_history.specs.Finished.{all_pending, all_timers, has_line, injectors_left, IsFinished}
use Rattle.run_history.specs.Inputs.{IsRunnable}
use Rattle.list_lemmas.proofs.Lists.{none_some, each-weaker}
use Rattle.history_laws.specs.Ids.{IsSentBy}
use Rattle.history_laws.proofs.FeedLaws.{feeds-before}
use Rattle.history_laws.proofs.LowLaws.{AreRowsInOrder, rows-in_order, LowFrom, from-low}
use Rattle.history_laws.proofs.PendingLaws.{legal-sent}
use Rattle.history_laws.proofs.StampLaws.{AreInTime, InTime, legal-in_time, row_of-in_time}
use Rattle.history_laws.proofs.UnfinishedLaws.{filter-nil}
use Rattle.history_laws.proofs.WorkLaws.{DueFrom, WaitsFrom, IsWorkFrom, FeedsFrom}
use Rattle.world.specs.drains.Drains.{IsDue, HasInjected}
use Rattle.world.proofs.Firsts.{none-row_of, nil-rows}

-- nothing waits where nothing is pending
none-waits : (shape : Shape) (run : Run) → all_pending run ≡ [] → (ds : List Delivery) → AllByRecursion (IsSentBy shape run) ds → ds ≡ []
none-waits shape run none [] each = refl
none-waits shape run none (d ∷ ds) each =
    let by = each.0 in absurd (none_some d (sym (ap (found_delivery d.id) (none-row_of shape run by.sender none)) ∙ by.pending))

-- where no line is left an injector's file has stated the end
none-left : (case : CaseShape) (run : Run) (part : ℕ) → injectors_left case run ≡ [] → is_injector case.topology part ≡ true
    → source_mark case run part ≡ END
none-left case run part none is =
    let there = ltb-true part (injectors_of case.topology) is in
    let past = ltb-false (cursor_of case run part) (length (source_of case part))
    (range-each (λ p. has_line case run p ≡ false) 0 (injectors_of case.topology) part
    (filter-nil (has_line case run) (range_with_len 0 (injectors_of case.topology)) none) (omega arith) (omega (arith, there))) in
    ap (λ o. option_map_or (λ (l : SourceLine). l.stated) o END) (slice_get_past (source_of case part) (cursor_of case run part) past)

-- no timer is set in a part
abbrev pub IsQuiet : Shape → Run → ℕ → Type 0
IsQuiet shape run part = (name : RowName) → name.part ≡ part → (row_of shape run name).timers ≡ []

module _ (case : CaseShape) (run : Run) (rules : IsRunnable case) (none : run.unhandled ≡ []) (left : injectors_left case run ≡ []) where
  -- where nothing waits any bound of the timers of a part is one of its work
  timers-work : (x part : ℕ) → ((name : RowName) → name.part ≡ part → AllByRecursion (DueFrom x) (row_of case.topology run name).timers)
      → IsWorkFrom case.topology run x part
  timers-work x part timers = record { waiting = subst (AllByRecursion (WaitsFrom x part)) (sym none) tt; timers = timers }

  -- a bound of the work of a part, before which no part has a timer, is one of its low watermark
  quiet-low : (x depth part : ℕ) → x ≤ END → ((f : ℕ) → f < part → IsQuiet case.topology run f) → IsWorkFrom case.topology run x part
      → LowFrom case run x depth part
  quiet-low x zero part end quiet work = work
  quiet-low x (suc depth) part end quiet work = (
    work,
    each-weaker (λ f. f < part) (FeedsFrom case run x (LowFrom case run x depth))
        (λ f less. feed f (is_injector case.topology f) refl
        (quiet-low x depth f end (λ g before. quiet g (omega (arith, before, less)))
        (timers-work x f (λ name of. subst (AllByRecursion (DueFrom x)) (sym (quiet f less name of)) tt))))
        (feeds_of case.topology part) (feeds-before case.topology part rules.topology),
  )
    where
      feed : (f : ℕ) (b : Bool) → is_injector case.topology f ≡ b → LowFrom case run x depth f
          → MatchBool b (x ≤ source_mark case run f) (LowFrom case run x depth f)
      feed f true is low = let stated = none-left case run f left is in omega (arith, stated, end)
      feed f false is low = low

  -- where no timer is due, a part before which no part has a timer has a low watermark that is not before the end
  quiet-end : (part : ℕ) → AreRowsInOrder run → ((row : RowName) (timer : Timer) → IsDue case run row timer → ⊥)
      → ((f : ℕ) → f < part → IsQuiet case.topology run f) → END ≤ low_watermark case run part
  quiet-end part order none_due quiet = elim (cases_lt low END) [
    | inl less ↦
        let past : low + 1 ≤ low = from-low case run (low + 1) (parts_of case.topology) part order (omega (arith, less))
        (quiet-low (low + 1) (parts_of case.topology) part (omega (arith, less)) quiet
        (timers-work (low + 1) part (λ name of. later name of (row_of case.topology run name).timers (λ t set. set)))) in
        absurd (omega (arith, past))
    | inr le ↦ le
  ]
    where
      low : ℕ
      low = low_watermark case run part

      -- each timer of the part is due after it
      later : (name : RowName) → name.part ≡ part → (ts : List Timer)
          → ((t : Timer) → Contains ts t → Contains (row_of case.topology run name).timers t) → AllByRecursion (DueFrom (low + 1)) ts
      later name of [] set = tt
      later name of (t ∷ ts) set = (
        (λ _. after (cases_lt low t.time)),
        later name of ts (λ u has. set u (suc has.0, omega (arith, has.1), has.2)),
      )
        where
          after : (low < t.time) ⊎ (t.time ≤ low) → low + 1 ≤ t.time
          after (inl less) = omega (arith, less)
          after (inr le) = absurd (none_due name t (record {
            set = set t (0, omega arith, refl);
            due = subst (λ p. t.time ≤ low_watermark case run p) (sym of) le;
          }))

  -- no timer is set in any part, where none is due
  quiet-part : (part : ℕ) → AreRowsInOrder run → AreInTime run → ((row : RowName) (timer : Timer) → IsDue case run row timer → ⊥)
      → ((f : ℕ) → f < part → IsQuiet case.topology run f) → IsQuiet case.topology run part
  quiet-part part order in_time none_due quiet name of = by_timers (row_of case.topology run name).timers refl
    where
      end : END ≤ low_watermark case run part
      end = quiet-end part order none_due quiet

      by_timers : (ts : List Timer) → (row_of case.topology run name).timers ≡ ts → (row_of case.topology run name).timers ≡ []
      by_timers [] is = is
      by_timers (t ∷ ts) is =
          let time : t.time ≤ MAX_STAMP = (subst InTime is (row_of-in_time case.topology run name in_time)).0 in
          absurd (none_due name t (record {
            set = subst (λ l. Contains l t) (sym is) (0, omega arith, refl);
            due = subst (λ p. t.time ≤ low_watermark case run p) (sym of) (omega (arith, time, end));
          }))

  -- so none is set in the parts below a bound
  quiet-below : (bound : ℕ) → AreRowsInOrder run → AreInTime run → ((row : RowName) (timer : Timer) → IsDue case run row timer → ⊥)
      → (part : ℕ) → part < bound → IsQuiet case.topology run part
  quiet-below zero order in_time none_due part less = absurd (omega (arith, less))
  quiet-below (suc n) order in_time none_due part less = quiet-part part order in_time none_due
      (λ f before. quiet-below n order in_time none_due f (omega (arith, before, less)))

-- no work is left once a drain has nothing more to acknowledge, to fire and to inject
pub injected-finished : (case : CaseShape) (from : ℕ) (history : List Entry) → IsRunnable case → IsLegal case history
    → HasInjected case from history → IsFinished case (run_of case.topology history)
injected-finished case from history runs legal done =
    λ i. length (none_pending i) + length (none_set i) + length (done.none_left i)
  where
    run : Run
    run = run_of case.topology history

    none_pending : all_pending run ≡ []
    none_pending = done.earlier.earlier.none_pending

    none_set : all_timers run ≡ []
    none_set =
        let order = rows-in_order case.topology history in
        nil-rows (λ (c : Contents). c.timers) case.topology run order (λ name. quiet-below case run runs
        (none-waits case.topology run none_pending run.unhandled (legal-sent case history legal).each) done.none_left
        (suc name.part) order (legal-in_time case history runs legal) done.earlier.none_due name.part (omega arith) name refl)

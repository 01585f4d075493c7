-- At the end the stream of a count has what the part gives plainly of all that it read.
use Rattle.std.proofs.Common.{◌≡◌, ℕ, ◌<◌, ◌==◌, ◌&&◌, Bool, true, false, cond, List, [], ◌∷◌, length, filter, Option, Some, None, refl, sym, ◌∙◌, ap, arith}
use Rattle.std.specs.Prelude.{find}
use Rattle.std.proofs.lemmas.Bool.{eq-eqb}
use Rattle.mw_types.specs.declared.TheConstants.{MAX_STAMP}
use Rattle.mw_types.specs.declared.identity.RowName.{RowName}
use Rattle.mw_types.specs.declared.kind.Kind.TheVariants as kinds
use Rattle.mw_types.specs.declared.state.Window.{Window}
use Rattle.mw_types.specs.declared.record.Record.{Record}
use Rattle.mw_types.specs.declared.entry.Entry.{Entry}
use Rattle.topology.specs.Shapes.{Shape, kind_of}
use Rattle.row_parts.specs.Contents.{Contents}
use Rattle.run_history.specs.Cases.{CaseShape}
use Rattle.run_history.specs.Inputs.{IsRunnable}
use Rattle.run_history.specs.Runs.{run_of, row_of}
use Rattle.run_history.specs.Legal.{IsLegal, IsDone}
use Rattle.history_laws.proofs.RowSteps.{row_of-each}
use Rattle.list_lemmas.proofs.Lists.{none_some}
use Rattle.list_lemmas.proofs.Filters.{by_keys}
use Rattle.list_lemmas.proofs.Totals.{HaveSameTotals, totals-permuted}
use Rattle.plain_answer.specs.Deeds.{Deed, fired_at, taken_into, open_window, deeds_of}
use Rattle.plain_answer.specs.Plain.{Keyed, plain_of}
use Rattle.plain_answer.specs.Stories.{done_of, out_of}
use Rattle.plain_answer.proofs.Closing.{at_place, count_at, counted_at, closed, key-itself, legal-closed}
use Rattle.plain_answer.proofs.Members.{out_at}
use Rattle.plain_answer.proofs.Opening.{window-open}
use Rattle.plain_answer.proofs.PlainCounts.{into, plain-at}
use Rattle.plain_answer.proofs.Taking.{reads_done, taken-reads}
use Rattle.plain_answer.proofs.Timing.{no-window}

-- where no window is open, each that has something fired
closed-done : (size : ℕ) (key : List ℕ) (end : ℕ) (deeds : List Deed) → open_window size end deeds ≡ None
    → closed size key end deeds ≡ counted_at key end (taken_into size end deeds)
closed-done size key end deeds none = by_fires (fired_at end deeds == 0) none
  where
    window : Window
    window = record { end = end; count = taken_into size end deeds }

    by_takes : (c : Bool) → ◌≡◌ {A = Option Window} (cond c None (Some window)) None
        → ◌≡◌ {A = List Record} [] (cond c [] (count_at key end (taken_into size end deeds) ∷ []))
    by_takes true e = refl
    by_takes false e = absurd (none_some window (sym e))

    by_fires : (b : Bool) → ◌≡◌ {A = Option Window} (cond b (cond (taken_into size end deeds == 0) None (Some window)) None) None
        → cond b [] (counted_at key end (taken_into size end deeds)) ≡ counted_at key end (taken_into size end deeds)
    by_fires true e = by_takes (taken_into size end deeds == 0) e
    by_fires false e = refl

module _ (case : CaseShape) (part size : ℕ) (runs : IsRunnable case) (kind : kind_of case.topology part ≡ Some (kinds.Count size))
    (h : List Entry) (legal : IsLegal case h) (done : IsDone case (run_of case.topology h)) (short : length h < MAX_STAMP) where
  abbrev shape : Shape
  shape = case.topology

  -- no window is open
  none-open : (name : RowName) → kind_of shape name.part ≡ Some (kinds.Count size) → (end : ℕ)
      → open_window size end (deeds_of shape name h) ≡ None
  none-open name of end =
      let timers : (row_of shape (run_of shape h) name).timers ≡ [] =
      row_of-each shape (run_of shape h) name (λ (c : Contents). c.timers ≡ []) done.fired refl in
      sym (window-open case name size runs of h legal short end)
      ∙ ap (find (λ (w : Window). w.end == end)) (no-window case name size of h legal timers)

  -- the stream of a count, at the end
  pub count-plain : (ms : List Keyed) → HaveSameTotals (reads_done part (done_of shape h)) ms
      → HaveSameTotals (out_at part (out_of shape h)) (plain_of (kinds.Count size) ms)
  count-plain ms reads =
      totals-permuted (out_at part (out_of shape h)) (plain_of (kinds.Count size) ms)
      (by_keys at_place (λ (r : Record). (r.key, r.stamp)) own (length (out_at part (out_of shape h))) (out_at part (out_of shape h))
      (plain_of (kinds.Count size) ms) (omega arith) same)
    where
      own : (r : Record) → at_place (r.key, r.stamp) r ≡ true
      own r = (λ i. key-itself r.key i && (r.stamp == r.stamp)) ∙ eq-eqb r.stamp r.stamp refl

      same : (place : List ℕ × ℕ) → filter (at_place place) (out_at part (out_of shape h))
          ≡ filter (at_place place) (plain_of (kinds.Count size) ms)
      same (key, end) =
          let name : RowName = record { part = part; key = key } in
          legal-closed case name size end runs kind h legal short
          ∙ closed-done size key end (deeds_of shape name h) (none-open name kind end)
          ∙ ap (counted_at key end) (taken-reads case part size key end runs kind h legal ∙ reads (into size key end))
          ∙ sym (plain-at size key end ms)

-- Own work never gets older, where nothing above it is older: what one more entry makes of a bound of it.
use Rattle.std.proofs.Common.{◌≡◌, ℕ, ◌≤◌, Bool, true, List, [], ◌∷◌, refl, sym, ◌∙◌, ap, subst, arith}
use Rattle.std.specs.Prelude.{⊤, Some, not}
use Rattle.std.specs.List.{AllByRecursion}
use Rattle.std.proofs.lemmas.List.Elements.{All-contains, All-from_recursion}
use Rattle.list_lemmas.proofs.Places.{each-at}
use Rattle.mw_types.specs.declared.identity.RecordId.{RecordId}
use Rattle.mw_types.specs.declared.identity.RowName.{RowName}
use Rattle.mw_types.specs.declared.record.Record.{Record}
use Rattle.mw_types.specs.declared.record.Production.{Production}
use Rattle.mw_types.specs.declared.delivery.Delivery.{Delivery}
use Rattle.mw_types.specs.declared.entry.Entry.{Entry}
use Rattle.mw_types.specs.declared.entry.Entry.TheVariants.{Claim, Inject, Handle, Fire, Ack, Purge}
use Rattle.mw_types.specs.Outcomes.{EffectsView}
use Rattle.topology.specs.Shapes.{Shape, consumers_of, feeds_of}
use Rattle.computations.specs.Handlers.{Cause, OfRecord, OfTimer, stamp_of, is_late_cause}
use Rattle.computations.specs.Leaving.{IsTimerAfter}
use Rattle.row_parts.specs.Contents.{Contents, same_id, found_delivery}
use Rattle.run_history.specs.Cases.{CaseShape, is_injector}
use Rattle.run_history.specs.Made.{row_written, late_cause, deliveries_of, deliveries_made}
use Rattle.run_history.specs.Runs.{Run, row_of, followed, changed}
use Rattle.run_history.specs.Watermarks.{source_mark}
use Rattle.run_history.specs.Legal.{MayFollow}
use Rattle.run_history.specs.Inputs.{IsRunnable}
use Rattle.history_laws.specs.Ids.{IsSentBy}
use Rattle.list_lemmas.proofs.Lists.{some_same, each-append, each-all, each-weaker, each-filter, find-each}
use Rattle.history_laws.proofs.Made.{deliveries_made-each}
use Rattle.history_laws.proofs.IdLaws.{AreIds}
use Rattle.history_laws.proofs.PendingLaws.{AreSent}
use Rattle.history_laws.proofs.RowSteps.{row_of-step}
use Rattle.history_laws.proofs.StampLaws.{AreInTime, caused-timers, caused-productions}
use Rattle.history_laws.proofs.Caused.{IsCaused, StandsBefore, caused-handle, caused-fire, caused-sent}
use Rattle.history_laws.proofs.WorkLaws.{DueFrom, set_again-from, productions-from, injected-from, source_mark-followed}

-- a delivery, where it is not late, has at least this timestamp
abbrev pub PendsFrom : ℕ → Delivery → Type 0
PendsFrom x d = not d.item.late ≡ true → x ≤ d.item.stamp

-- a row has no older work that is not late
pub record IsRowFrom (x : ℕ) (row : Contents) : Type 0 where
  pub timers : AllByRecursion (DueFrom x) row.timers
  pub pending : AllByRecursion (PendsFrom x) row.pending

-- some rows of a part have no older work, and where the part is an injector its file states no earlier watermark
pub record IsOwnFrom (case : CaseShape) (run : Run) (x part : ℕ) (Has : RowName → Type 0) : Type 0 where
  pub rows : (name : RowName) → Has name → IsRowFrom x (row_of case.topology run name)
  pub mark : is_injector case.topology part ≡ true → x ≤ source_mark case run part

-- the rows of a part
abbrev pub OfPart : ℕ → RowName → Type 0
OfPart part name = name.part ≡ part

-- a part has no older work
abbrev pub IsPartFrom : CaseShape → Run → ℕ → ℕ → Type 0
IsPartFrom case run x part = IsOwnFrom case run x part (OfPart part)

-- a delivery that waits for a part is no older than a bound of the work of what feeds the part
pub waits-from : (case : CaseShape) (run : Run) (x : ℕ) (id : RecordId) (d : Delivery) → AreSent case.topology run
    → AllByRecursion (IsPartFrom case run x) (feeds_of case.topology d.to.part) → found_delivery id run.unhandled ≡ Some d → PendsFrom x d
waits-from case run x id d sent feeds waits =
    let by = find-each (IsSentBy case.topology run) (λ (e : Delivery). same_id e.id id) run.unhandled d sent.each waits in
    let work : IsPartFrom case run x by.sender.part =
    All-contains (IsPartFrom case run x) (feeds_of case.topology d.to.part) by.sender.part
    (All-from_recursion (IsPartFrom case run x) (feeds_of case.topology d.to.part) feeds) by.feeds in
    find-each (PendsFrom x) (λ (e : Delivery). same_id e.id d.id) (row_of case.topology run by.sender).pending d
    (work.rows by.sender refl).pending by.pending

-- deliveries of productions that go on from a bound, where they are not late
made-own : (shape : Shape) (part : ℕ) (productions : List Production) (late : Bool) (commit x : ℕ)
    → (not late ≡ true → AllByRecursion (λ (p : Production). x ≤ p.stamp) productions)
    → AllByRecursion (PendsFrom x) (deliveries_made shape part productions late commit)
made-own shape part productions late commit x from =
    deliveries_made-each shape part productions late commit (λ s. ⊤) (λ (p : Production). not late ≡ true → x ≤ p.stamp)
    (λ (to : RowName) (item : Record). not item.late ≡ true → x ≤ item.stamp)
    (λ s p _ q e. q e) (each-all (λ s. ⊤) (λ s. tt) (consumers_of shape part)) (each productions from)
  where
    each : (ps : List Production) → (not late ≡ true → AllByRecursion (λ (p : Production). x ≤ p.stamp) ps)
        → AllByRecursion (λ (p : Production). not late ≡ true → x ≤ p.stamp) ps
    each [] from = tt
    each (p ∷ ps) from = ((λ on_time. (from on_time).0), each ps (λ on_time. (from on_time).1))

module _ (case : CaseShape) (history : List Entry) (run : Run) (x part : ℕ) (runs : IsRunnable case) (ids : AreIds history run)
    (sent : AreSent case.topology run) (in_time : AreInTime run)
    (feeds : AllByRecursion (IsPartFrom case run x) (feeds_of case.topology part)) where
  -- what stands before a row of the part, where it is not late, is no older than the bound
  standing-own : (name : RowName) (cause : Cause) → name.part ≡ part → AllByRecursion (DueFrom x) (row_of case.topology run name).timers
      → StandsBefore case run name cause → not (is_late_cause cause) ≡ true → x ≤ stamp_of cause
  standing-own name (OfRecord item) of timers (id, d, waits, to, same) =
      subst (λ (i : Record). not i.late ≡ true → x ≤ i.stamp) same
      (waits-from case run x id d sent
      (subst (λ n. AllByRecursion (IsPartFrom case run x) (feeds_of case.topology n))
      (sym (ap (λ (r : RowName). r.part) to ∙ of)) feeds) waits)
  standing-own name (OfTimer timer) of timers first =
      each-at (DueFrom x) (row_of case.topology run name).timers 0 timer timers first

  module _ (entry : Entry) (name : RowName) (cause : Cause) (effects : EffectsView) (caused : IsCaused case run entry name cause effects)
      (of : name.part ≡ part) (row : IsRowFrom x (row_of case.topology run name)) where
    -- what a cause makes in a row of the part is no older than the bound
    caused-own : AllByRecursion (PendsFrom x) (deliveries_of case.topology run.made run.next entry)
    caused-own = caused-sent case run entry name cause effects caused (PendsFrom x)
        (made-own case.topology name.part effects.productions (late_cause run.made entry) run.next x
        (λ on_time. productions-from x cause effects.productions
        (standing-own name cause of row.timers caused.stands (sym (ap not (caused.late history ids)) ∙ on_time))
        (caused-productions case run entry name cause effects in_time caused runs)))

    -- and what it leaves of the row has no older work
    caused-changed_own : (new : List Delivery) → AllByRecursion (PendsFrom x) new
        → IsRowFrom x (changed entry new (row_of case.topology run name))
    caused-changed_own new each = record {
      timers = caused.timers (DueFrom x) (set_again-from x) new (row_of case.topology run name)
          (each-weaker (IsTimerAfter cause) (DueFrom x)
          (λ t (after : IsTimerAfter cause t) on_time.
          let later = after.after in
          let from = standing-own name cause of row.timers caused.stands (sym (ap not after.as_late) ∙ on_time) in
          omega (arith, later, from))
          effects.timers (caused-timers case run entry name cause effects in_time caused runs)) row.timers;
      pending = subst (AllByRecursion (PendsFrom x)) (sym (caused.pending new (row_of case.topology run name)))
          (each-append (PendsFrom x) (row_of case.topology run name).pending new row.pending each);
    }

  -- what an entry makes is no older than the bound, where it is on a row of the part that has no older work
  sent-own : (entry : Entry) (name : RowName) → MayFollow case run entry → row_written entry ≡ Some name → name.part ≡ part
      → IsRowFrom x (row_of case.topology run name)
      → (is_injector case.topology part ≡ true → x ≤ source_mark case run part)
      → AllByRecursion (PendsFrom x) (deliveries_of case.topology run.made run.next entry)
  sent-own (Inject seq other line item) name may written of row mark =
      let same : other ≡ part = ap (λ (n : RowName). n.part) (some_same (record { part = other; key = [] }) name written) ∙ of in
      made-own case.topology other (record { key = item.key; stamp = item.stamp; value = item.value } ∷ []) item.late run.next x
      (λ on_time.
      let stated : x ≤ source_mark case run other = subst (λ n. x ≤ source_mark case run n) (sym same)
      (mark (subst (λ n. is_injector case.topology n ≡ true) same may.injector)) in
      let later = injected-from case run seq other line item runs may on_time in
      (omega (arith, stated, later), tt))
  sent-own (Handle seq row_name id effects) name may written of row mark =
      caused-own _ name _ effects (caused-handle case run seq row_name id effects name may written) of row
  sent-own (Fire seq row_name timer fire_mark effects) name may written of row mark =
      caused-own _ name _ effects (caused-fire case run seq row_name timer fire_mark effects name may written) of row
  sent-own _ name may written of row mark = tt

  -- what an entry leaves of its row has no older work
  changed-own : (entry : Entry) (name : RowName) → MayFollow case run entry → row_written entry ≡ Some name → name.part ≡ part
      → IsRowFrom x (row_of case.topology run name)
      → AllByRecursion (PendsFrom x) (deliveries_of case.topology run.made run.next entry)
      → IsRowFrom x (changed entry (deliveries_of case.topology run.made run.next entry) (row_of case.topology run name))
  changed-own (Claim worker interval) name may written of row new = row
  changed-own (Inject seq other line item) name may written of row new = record {
    timers = row.timers;
    pending = each-append (PendsFrom x) (row_of case.topology run name).pending _ row.pending new;
  }
  changed-own (Handle seq row_name id effects) name may written of row new =
      caused-changed_own _ name _ effects (caused-handle case run seq row_name id effects name may written) of row _ new
  changed-own (Fire seq row_name timer fire_mark effects) name may written of row new =
      caused-changed_own _ name _ effects (caused-fire case run seq row_name timer fire_mark effects name may written) of row _ new
  changed-own (Ack seq row_name id) name may written of row new = record {
    timers = row.timers;
    pending = each-filter (PendsFrom x) (λ (d : Delivery). not (same_id d.id id)) (row_of case.topology run name).pending row.pending;
  }
  changed-own (Purge seq row_name floor) name may written of row new = record { timers = row.timers; pending = row.pending }

  -- a row of the part that has no older work has none after one more entry
  row-own : (entry : Entry) (name : RowName) → MayFollow case run entry → name.part ≡ part → IsRowFrom x (row_of case.topology run name)
      → (is_injector case.topology part ≡ true → x ≤ source_mark case run part)
      → IsRowFrom x (row_of case.topology (followed case.topology run entry) name)
  row-own entry name may of row mark = row_of-step case.topology run entry name (IsRowFrom x) row
      (λ written. let after = changed-own entry name may written of row (sent-own entry name may written of row mark) in
      record { timers = after.timers; pending = after.pending })

  -- rows of the part that have no older work have none after one more entry, where what feeds the part has none
  pub IsOwnFrom-followed : (entry : Entry) (Has : RowName → Type 0) → MayFollow case run entry
      → ((name : RowName) → Has name → name.part ≡ part)
      → IsOwnFrom case run x part Has → IsOwnFrom case (followed case.topology run entry) x part Has
  IsOwnFrom-followed entry Has may of_part own = record {
    rows = λ name has. row-own entry name may (of_part name has) (own.rows name has) own.mark;
    mark = λ is. let before = own.mark is in let rises = source_mark-followed case run entry part runs may is in
        omega (arith, before, rises);
  }

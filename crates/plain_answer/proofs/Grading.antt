-- A stamp grows by at most a step with each part.
use Rattle.std.proofs.Common.{◌≡◌, ℕ, ◌+◌, ◌^◌, ◌<◌, ◌≤◌, Bool, false, not, List, [], ◌∷◌, Some, refl, sym, subst, arith}
use Rattle.std.specs.Prelude.{Contains}
use Rattle.std.specs.List.{AllByRecursion}
use Rattle.std.proofs.lemmas.Bool.{ltb-true}
use Rattle.std.proofs.lemmas.List.Elements.{All-contains, All-from_recursion}
use Rattle.mw_types.specs.declared.TheConstants.{MAX_STAMP}
use Rattle.mw_types.specs.declared.identity.RecordId.{RecordId}
use Rattle.mw_types.specs.declared.identity.RowName.{RowName}
use Rattle.mw_types.specs.declared.record.Production.{Production}
use Rattle.mw_types.specs.declared.timer.Timer.{Timer}
use Rattle.mw_types.specs.declared.delivery.Delivery.{Delivery}
use Rattle.mw_types.specs.declared.entry.Entry.{Entry}
use Rattle.mw_types.specs.declared.entry.Entry.TheVariants.{Inject, Handle, Fire}
use Rattle.mw_types.specs.Kinds.{IsKind}
use Rattle.mw_types.specs.Outcomes.{EffectsView}
use Rattle.topology.specs.declared.subscription.Subscription.{Subscription}
use Rattle.topology.specs.Shapes.{Shape, parts_of, injectors_of, consumers_of, feeds_of}
use Rattle.topology.specs.Rules.{IsTopology}
use Rattle.row_parts.specs.Contents.{Contents, found_delivery, same_id}
use Rattle.computations.specs.Handlers.{Cause, stamp_of, is_record, OfRecord, OfTimer}
use Rattle.computations.specs.Leaving.{IsNear, IsTimerAfter, IsProductionAfter}
use Rattle.run_history.specs.Cases.{CaseShape, source_of}
use Rattle.run_history.specs.Made.{row_written, deliveries_of, deliveries_made, late_cause}
use Rattle.run_history.specs.Runs.{Run, run_of, row_of, followed, changed, still_unhandled}
use Rattle.run_history.specs.Legal.{MayFollow, IsLegal}
use Rattle.run_history.specs.Inputs.{IsRunnable}
use Rattle.run_history.specs.Finished.{handles}
use Rattle.list_lemmas.proofs.Lists.{each-append, each-weaker, each-filter, find-each}
use Rattle.history_laws.proofs.Along.{along_history}
use Rattle.history_laws.proofs.Caused.{IsCaused, of_standing, caused-handle, caused-fire, caused-there, caused-sent}
use Rattle.history_laws.proofs.FeedLaws.{consumers-fed, feeds-before, kind-ranged}
use Rattle.history_laws.proofs.IdLaws.{still_unhandled-filter}
use Rattle.history_laws.proofs.Made.{deliveries_made-each}
use Rattle.history_laws.proofs.RowSteps.{row_of-step}
use Rattle.history_laws.proofs.StampLaws.{injected-in_time, source_of-source}
use Rattle.plain_answer.specs.Grades.{grade}

-- ---- what is graded

-- a delivery is within its part's grade
abbrev pub IsGraded : Delivery → Type 0
IsGraded d = d.item.stamp ≤ grade d.to.part

-- a timer of a part is due within a step of the part's grade
abbrev pub IsDueBy : ℕ → Timer → Type 0
IsDueBy part t = t.time ≤ grade part + 2 ^ 40

-- deliveries and timers are within their parts' grades
pub record AreGraded (shape : Shape) (run : Run) : Type 0 where
  pub made : AllByRecursion IsGraded run.made
  pub waiting : AllByRecursion IsGraded run.unhandled
  pub timers : (name : RowName) → AllByRecursion (IsDueBy name.part) (row_of shape run name).timers

-- what a part produces within a step is within the grades of its consumers
sent-graded : (shape : Shape) (part : ℕ) (productions : List Production) (late : Bool) (commit : ℕ) → IsTopology shape
    → part < parts_of shape
    → AllByRecursion (λ (p : Production). p.stamp ≤ grade part + 2 ^ 40) productions
    → AllByRecursion IsGraded (deliveries_made shape part productions late commit)
sent-graded shape part productions late commit rules there near =
    deliveries_made-each shape part productions late commit (λ (s : Subscription). part < s.to)
    (λ (p : Production). p.stamp ≤ grade part + 2 ^ 40)
    (λ to item. item.stamp ≤ grade to.part) (λ s p above low. omega (arith, above, low))
    (each-weaker (λ (s : Subscription). Contains (feeds_of shape s.to) part) (λ (s : Subscription). part < s.to)
    (λ (s : Subscription) has. All-contains (λ f. f < s.to) (feeds_of shape s.to) part
    (All-from_recursion (λ f. f < s.to) (feeds_of shape s.to) (feeds-before shape s.to rules)) has)
    (consumers_of shape part) (consumers-fed shape part there)) near

-- ---- what a cause brings about

-- a record is within the grade of its part, and a timer within a step of it
abbrev IsGradedCause : ℕ → Cause → Type 0
IsGradedCause part (OfRecord item) = item.stamp ≤ grade part
IsGradedCause part (OfTimer timer) = timer.time ≤ grade part + 2 ^ 40

-- such a cause is in time
graded-in_time : (shape : Shape) (part : ℕ) (cause : Cause) → IsTopology shape → part < parts_of shape
    → IsGradedCause part cause
    → stamp_of cause ≤ MAX_STAMP
graded-in_time shape part (OfRecord item) rules there low =
    omega (arith, there, low, rules.few_injectors, rules.few_computations)
graded-in_time shape part (OfTimer timer) rules there low =
    omega (arith, there, low, rules.few_injectors, rules.few_computations)

-- what is near it is within a step of the grade
near-graded : (part : ℕ) (cause : Cause) (stamp : ℕ) → IsGradedCause part cause → IsNear cause stamp
    → stamp ≤ grade part + 2 ^ 40
near-graded part (OfRecord item) stamp low near = omega (arith, low, near)
near-graded part (OfTimer timer) stamp low near = omega (arith, low, near)

-- and so are the timers that it sets, which are of a record
set-graded : (part : ℕ) (cause : Cause) (set : List Timer) → IsGradedCause part cause
    → (is_record cause ≡ false → set ≡ [])
    → AllByRecursion (IsTimerAfter cause) set → AllByRecursion (IsDueBy part) set
set-graded part (OfRecord item) set low none after = each-weaker (IsTimerAfter (OfRecord item)) (IsDueBy part)
    (λ t (is : IsTimerAfter (OfRecord item) t). let near = is.near in omega (arith, low, near)) set after
set-graded part (OfTimer timer) set low none after = subst (AllByRecursion (IsDueBy part)) (sym (none refl)) tt

module _ (case : CaseShape) (runs : IsRunnable case) (run : Run) (entry : Entry) (name : RowName) (cause : Cause)
    (effects : EffectsView)
    (graded : AreGraded case.topology run) (caused : IsCaused case run entry name cause effects) where
  -- a cause is graded
  caused-graded : IsGradedCause name.part cause
  caused-graded = of_standing case run name cause IsGraded (IsDueBy name.part) (IsGradedCause name.part) graded.waiting
      (graded.timers name) (λ d to low. subst (λ (r : RowName). d.item.stamp ≤ grade r.part) to low) (λ t due. due)
      caused.stands

  -- its part is there
  there : name.part < parts_of case.topology
  there = caused-there case run entry name cause effects caused

  -- the kind of its part is in range
  ranged : IsKind caused.outcome.kind
  ranged = kind-ranged case.topology name.part caused.outcome.kind runs.topology caused.outcome.of_part

  -- it is in time
  in_time : stamp_of cause ≤ MAX_STAMP
  in_time = graded-in_time case.topology name.part cause runs.topology there caused-graded

  -- what it makes is graded
  caused-sent_graded : AllByRecursion IsGraded (deliveries_of case.topology run.made run.next entry)
  caused-sent_graded = caused-sent case run entry name cause effects caused IsGraded
      (sent-graded case.topology name.part effects.productions (late_cause run.made entry) run.next runs.topology there
      (each-weaker (IsProductionAfter cause) (λ (p : Production). p.stamp ≤ grade name.part + 2 ^ 40)
      (λ p (is : IsProductionAfter cause p). near-graded name.part cause p.stamp caused-graded is.near)
      effects.productions
      (caused.outcome.leaves.productions.each ranged in_time)))

  -- and so are the timers of its row
  caused-due : (sent : List Delivery)
      → AllByRecursion (IsDueBy name.part) (changed entry sent (row_of case.topology run name)).timers
  caused-due sent = caused.timers (IsDueBy name.part) (λ t u tied p q. q) sent (row_of case.topology run name)
      (set-graded name.part cause effects.timers caused-graded caused.outcome.leaves.timers.none
      (caused.outcome.leaves.timers.each ranged in_time)) (graded.timers name)

-- ---- along a history

module _ (case : CaseShape) (runs : IsRunnable case) where
  abbrev shape : Shape
  shape = case.topology

  -- what an entry brings about
  entry-near : (run : Run) (entry : Entry) → AreGraded shape run → MayFollow case run entry
      → AllByRecursion IsGraded (deliveries_of shape run.made run.next entry)
  entry-near run (Inject seq part line item) graded may =
      let input = injected-in_time (source_of case part) line item (source_of-source case part runs) may.of_line in
      let within : part < injectors_of shape = ltb-true part (injectors_of shape) may.injector in
      sent-graded shape part (record { key = item.key; stamp = item.stamp; value = item.value } ∷ []) item.late run.next runs.topology
      (omega (arith, within)) (omega (arith, input), tt)
  entry-near run (Handle seq row id effects) graded may =
      caused-sent_graded case runs run _ row _ effects graded (caused-handle case run seq row id effects row may refl)
  entry-near run (Fire seq row timer mark effects) graded may =
      caused-sent_graded case runs run _ row _ effects graded
      (caused-fire case run seq row timer mark effects row may refl)
  entry-near run _ graded may = tt

  -- the timers that an entry leaves in its row
  timers-near : (run : Run) (entry : Entry) (sent : List Delivery) (name : RowName) → AreGraded shape run → MayFollow case run entry
      → row_written entry ≡ Some name
      → AllByRecursion (IsDueBy name.part) (changed entry sent (row_of shape run name)).timers
  timers-near run (Handle seq row id effects) sent name graded may here =
      caused-due case runs run _ name _ effects graded (caused-handle case run seq row id effects name may here) sent
  timers-near run (Fire seq row timer mark effects) sent name graded may here =
      caused-due case runs run _ name _ effects graded
      (caused-fire case run seq row timer mark effects name may here) sent
  timers-near run _ sent name graded may here = graded.timers name

  -- one more entry keeps it so
  pub next-graded : (done : List Entry) (run : Run) (entry : Entry) → AreGraded shape run → MayFollow case run entry
      → AreGraded shape (followed shape run entry)
  next-graded done run entry graded may =
      let sent = entry-near run entry graded may in record {
        made = each-append IsGraded run.made _ graded.made sent;
        waiting = each-append IsGraded (still_unhandled entry run.unhandled) _
            (subst (AllByRecursion IsGraded) (sym (still_unhandled-filter entry run.unhandled))
            (each-filter IsGraded (λ (d : Delivery). not (handles d.id entry)) run.unhandled graded.waiting)) sent;
        timers = λ name. row_of-step shape run entry name (λ (c : Contents). AllByRecursion (IsDueBy name.part) c.timers)
            (graded.timers name)
            (λ written. timers-near run entry (deliveries_of shape run.made run.next entry) name graded may written);
      }

  -- after each legal history
  pub graded-all : (history : List Entry) → IsLegal case history → AreGraded shape (run_of shape history)
  graded-all history legal = along_history case (λ done run. AreGraded shape run) next-graded
      (record { made = tt; waiting = tt; timers = λ name. tt }) history legal

-- the same, for a caller with a case
pub legal-graded : (case : CaseShape) (history : List Entry) → IsRunnable case → IsLegal case history
    → AreGraded case.topology (run_of case.topology history)
legal-graded case history runs legal = graded-all case runs history legal

-- what waits for a part is below the greatest timestamp
pub waits-small : (case : CaseShape) (run : Run) (name : RowName) (id : RecordId) (d : Delivery) → IsRunnable case
    → AreGraded case.topology run → name.part < parts_of case.topology → found_delivery id run.unhandled ≡ Some d
    → d.to ≡ name
    → d.item.stamp < MAX_STAMP
waits-small case run name id d runs graded there waits to_row =
    let low : d.item.stamp ≤ grade name.part = subst (λ (r : RowName). d.item.stamp ≤ grade r.part) to_row
    (find-each IsGraded (λ (e : Delivery). same_id e.id id) run.unhandled d graded.waiting waits) in
    omega (arith, low, there, runs.topology.few_injectors, runs.topology.few_computations)

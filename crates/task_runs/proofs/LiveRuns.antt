-- How a run goes on whose results are written at once.
use Rattle.std.proofs.Common.{◌≡◌, ◌≤◌, ◌<◌, ◌∙◌, drop, get_or, ℕ, Bool, true, false, List, length, Option, Some, None, IfSome, refl, sym, ap, subst, true≢false, arith}
use Rattle.std.specs.Prelude.{Result, Ok, Err, IfErr, IsSome, OnErr, OnOk, ◌==◌, ◌+◌}
use Rattle.std.proofs.lemmas.Bool.{ne_eqb}
use Rattle.std.proofs.lemmas.List.{drop_more}
use Rattle.std.specs.Option.{is_some}
use Rattle.mw_types.specs.declared.entry.Entry.{Entry}
use Rattle.mw_types.proofs.CauseLaws.{Rose-before}
use Rattle.mw_ports.specs.declared.sink.SinkFault.{SinkFault}
use Rattle.topology.specs.Shapes.{Shape}
use Rattle.run_history.specs.Cases.{CaseShape}
use Rattle.run_history.specs.Fences.{Begins}
use Rattle.book.specs.Books.{BookView}
use Rattle.node.specs.declared.outcome.NodeFault.{NodeFault}
use Rattle.node.specs.declared.outcome.NodeFault.TheVariants as faults
use Rattle.node.specs.declared.outcome.Outcome.{Outcome}
use Rattle.world.specs.scripts.Acts.{world_after}
use Rattle.world.specs.scripts.Keeping.{AppendsAtMostOne}
use Rattle.plans.specs.declared.step.Step.{Step}
use Rattle.world.specs.scripts.ScriptRuns.{IsRunning}
use Rattle.world.specs.scripts.Stepping.{HasActed}
use Rattle.world.specs.scripts.WorldStates.{WorldState, world_of}
use Rattle.world.proofs.RunLaws.{faulted-history, run-begun, run-more}
use Rattle.world.specs.drains.Turns.{HasFailed, HasGone, WhereTold, with_own}
use Rattle.world.specs.drains.Drains.{HasEnded, IsDraining, IsNextEntry}
use Rattle.world.specs.drains.DrainTurns.{DrainView, HasDrained, IsGoingOn}
use Rattle.world.proofs.DrainTurnLaws.{going-failed, going-full}
use Rattle.world.proofs.WholeDrains.{draining-push}
use Rattle.world.proofs.GoLaws.{gone-not, gone-step}
use Rattle.live_outlet.specs.Outlets.{IsPumpedFrom, OutletView}
use Rattle.live_outlet.proofs.Pumping.{pumped-grown}
use Rattle.task_runs.specs.declared.live.LiveFault.{LiveFault}
use Rattle.task_runs.specs.declared.live.LiveFault.TheVariants as lives
use Rattle.task_runs.specs.Lives.{IsCutBehind, IsPumpedTo, LivesOn, PumpsOn, StepsOn, TurnsOn}
use Rattle.task_runs.specs.Inside.{HasLiveCause, HasRunCause, IsLiveBehind, IsStepFault, IsTurnFault, StopsLive, StopsStep}
use Rattle.task_runs.proofs.Living.{once-or-more}

-- a fact of a refusal
pub on_err-map : {T E P Q : Type 0} (result : Result T E) → (P → Q) → OnErr result P → OnErr result Q
on_err-map (Ok x) f is = tt
on_err-map (Err why) f is = f is

-- two facts of Ok
pub on_ok-both : {T E : Type 0} (P Q : Type 0) (result : Result T E) → OnOk result P → OnOk result Q → OnOk result (P × Q)
on_ok-both P Q (Ok x) p q = (p, q)
on_ok-both P Q (Err why) p q = tt

-- what holds of a fault holds of an answer that is this fault
pub err-is : {T : Type 0} (r : Result T LiveFault) (fault : LiveFault) (P : LiveFault → Type 0) → IfErr r (λ f. f ≡ fault) → P fault
    → IfErr r P
err-is (Ok x) fault P is holds = tt
err-is (Err f) fault P is holds = subst P (sym is) holds

-- why a run was stopped
abbrev why_of : NodeFault → LiveFault → NodeFault
why_of none (lives.Run why) = why
why_of none (lives.Sink why) = none

-- whether a fault is the sink's
abbrev is_sink : LiveFault → Bool
is_sink (lives.Run why) = false
is_sink (lives.Sink why) = true

-- ---- causes

-- a fault of what was done last has its cause in the whole
pub cause-before : (old mid new : BookView) (a b c : ℕ) (fault : LiveFault) → old.faults ≤ mid.faults → a ≤ b
    → HasLiveCause mid new b c fault → HasLiveCause old new a c fault
cause-before old mid new a b c (lives.Run why) keeper out is = record {
  keeper = λ e. Rose-before old.faults mid.faults new.faults keeper (is.keeper e);
  full = is.full;
  damaged = is.damaged;
}
cause-before old mid new a b c (lives.Sink why) keeper out is = λ e. Rose-before a b c out (is e)

-- so it is of an answer
pub causes-before : {T : Type 0} (old mid new : BookView) (a b c : ℕ) (result : Result T LiveFault) → old.faults ≤ mid.faults → a ≤ b
    → IfErr result (HasLiveCause mid new b c) → IfErr result (HasLiveCause old new a c)
causes-before old mid new a b c (Ok x) keeper out is = tt
causes-before old mid new a b c (Err fault) keeper out is = cause-before old mid new a b c fault keeper out is

-- a turn that failed has its cause
pub turn-cause : (old new : BookView) (why : NodeFault) → HasFailed old new why → HasRunCause old new why
turn-cause old new why failed = record { keeper = failed.keeper; full = failed.full; damaged = failed.damaged }

-- ---- a turn of a drain

-- the history before a turn begins the one after it
pub turn-begins : (from : ℕ) (old new : BookView) (more : Bool) → HasDrained from old new more → Begins old.history new.history
turn-begins from old new more drained = (gone-step old old new drained.own (gone-not old) drained.stepped).grown

-- an outlet that was pumped from a beginning was so of the whole
pub pumped-further : (shape : Shape) (front history : List Entry) (o : OutletView) → Begins front history
    → IsPumpedFrom shape o front → IsPumpedFrom shape o history
pumped-further shape front history o begins is =
    subst (IsPumpedFrom shape o) begins.1 (pumped-grown shape front begins.0 o is)

-- what is left of a history that stayed
pub behind-still : (shape : Shape) (front old new : List Entry) (was o : OutletView) (some grown : Option (List ℕ)) (why : NodeFault)
    → new ≡ old
    → ((once : Bool) (text : Option (List ℕ)) → IsPumpedTo shape front once was text some → IsPumpedTo shape old once o text grown)
    → StopsLive (lives.Run why) shape front new was some grown
behind-still shape front old new was o some grown why same goes = λ once text is.
    (subst (λ (h : List Entry). IsPumpedTo shape h once o text grown) (sym same) (goes once text is)).results.so_far

-- or of one whose results were cut off
pub behind-cut : (shape : Shape) (front old new : List Entry) (was o : OutletView) (some grown cut : Option (List ℕ)) (why : SinkFault)
    → Begins old new
    → ((once : Bool) (text : Option (List ℕ)) → IsPumpedTo shape front once was text some → IsPumpedTo shape old once o text grown)
    → IsCutBehind shape new o grown cut → StopsLive (lives.Sink why) shape front new was some cut
behind-cut shape front old new was o some grown cut why begins goes stops = λ once text is.
    stops old text begins (once-or-more shape old once o text grown (goes once text is))

-- ---- a script

-- after a step there was one
pub not-first : (n : ℕ) → (n + 1 == 0) ≡ false
not-first n = ne_eqb (n + 1) 0 (λ e. omega (arith, e))

-- one more step of a script was done
pub step-more : (start old new : WorldState) (all : List Step) (at : ℕ) (d : Step) (outcome : Outcome)
    → IsRunning start old (drop at all) all → at < length all
    → new.book.case ≡ old.book.case → new.routes ≡ old.routes → new.book.limit ≡ old.book.limit
    → is_some new.book.rows ≡ is_some old.book.rows → old.book.faults ≤ new.book.faults
    → AppendsAtMostOne (world_of old) (world_of new) → HasActed (get_or all at d) old new outcome
    → IsRunning start new (drop (at + 1) all) all
step-more start old new all at d outcome running below case routes limit tells faults one acted =
    run-more start old new (get_or all at d) (drop (at + 1) all) all outcome
    (subst (λ (left : List Step). IsRunning start old left all) (drop_more all at d below) running) case routes limit tells faults one acted

-- so it was where its results could not be written, or it was not, and left the history
pub step-begun : (start old new : WorldState) (all : List Step) (at : ℕ) (d : Step) (fault : LiveFault)
    → IsRunning start old (drop at all) all → at < length all
    → new.book.case ≡ old.book.case → new.routes ≡ old.routes → new.book.limit ≡ old.book.limit
    → is_some new.book.rows ≡ is_some old.book.rows → old.book.faults ≤ new.book.faults
    → AppendsAtMostOne (world_of old) (world_of new) → IsStepFault (get_or all at d) old new fault → IsSome start.book.rows
    → Begins new.book.history (world_after start.book.case (world_of start) all).history
step-begun start old new all at d (lives.Run why) running below case routes limit tells faults one failed told =
    run-begun start old new (drop at all) all running (faulted-history (get_or all at d) old new failed) told
step-begun start old new all at d (lives.Sink why) running below case routes limit tells faults one done told =
    run-begun start new new (drop (at + 1) all) all
    (step-more start old new all at d done.0 running below case routes limit tells faults one done.1) refl told

-- a step that was done, and its results
pub pumped-step : (case other : CaseShape) (front history : List Entry) (n count : ℕ) (old new : OutletView)
    (text some grown : Option (List ℕ)) → other ≡ case → Begins front history → length front ≡ count
    → StepsOn other.topology history count old new some grown
    → IsPumpedTo case.topology front (n == 0) old text some → IsPumpedTo case.topology history (n + 1 == 0) new text grown
pumped-step case other front history n count old new text some grown same begins long steps is =
    subst (λ (b : Bool). IsPumpedTo case.topology history b new text grown) (sym (not-first n))
    (subst (λ (k : CaseShape). IsPumpedTo k.topology history false new text grown) same
    (steps front text begins long
    (subst (λ (k : CaseShape). IsPumpedTo k.topology front false old text some) (sym same)
    (once-or-more case.topology front (n == 0) old text some is))))

-- or a fault
pub stopped-step : (case other : CaseShape) (front history : List Entry) (n : ℕ) (old : OutletView)
    (text some grown : Option (List ℕ)) (fault : LiveFault) → other ≡ case
    → StopsStep fault other.topology front history old some grown
    → IsPumpedTo case.topology front (n == 0) old text some → IsLiveBehind fault case.topology history text grown
stopped-step case other front history n old text some grown fault same stops is =
    subst (λ (k : CaseShape). IsLiveBehind fault k.topology history text grown) same
    (stops text (subst (λ (k : CaseShape). IsPumpedTo k.topology front false old text some) (sym same)
    (once-or-more case.topology front (n == 0) old text some is)))

-- ---- a turn of a drain

-- what a pump behind a turn keeps
pub pumped-turn : (case other : CaseShape) (start front history : List Entry) (first old new : OutletView)
    (begun some grown : Option (List ℕ)) → other ≡ case → Begins front history → PumpsOn other.topology history old new some grown
    → ((once : Bool) (text : Option (List ℕ)) → IsPumpedTo case.topology start once first text begun
    → IsPumpedTo case.topology front once old text some)
    → (once : Bool) (text : Option (List ℕ)) → IsPumpedTo case.topology start once first text begun
    → IsPumpedTo case.topology history once new text grown
pumped-turn case other start front history first old new begun some grown same begins pumps goes once text is =
    subst (λ (k : CaseShape). IsPumpedTo k.topology history once new text grown) same
    (pumps front once text begins
    (subst (λ (k : CaseShape). IsPumpedTo k.topology front once old text some) (sym same) (goes once text is)))

-- one turn after others
pub turns-on : (case other : CaseShape) (start front history : List Entry) (first old new : OutletView)
    (begun some grown : Option (List ℕ)) → other ≡ case
    → TurnsOn case.topology start front first old begun some → TurnsOn other.topology front history old new some grown
    → TurnsOn case.topology start history first new begun grown
turns-on case other start front history first old new begun some grown same goes turn = λ once text is.
    subst (λ (k : CaseShape). TurnsOn k.topology front history old new some grown) same turn once text (goes once text is)

-- where all turns were done, all results are written
pub turn-ended : (shape : Shape) (start history : List Entry) (first new : OutletView) (begun grown : Option (List ℕ))
    → TurnsOn shape start history first new begun grown → LivesOn shape start history first begun grown
turn-ended shape start history first new begun grown turns = λ once text is. (turns once text is).results

-- a turn that a fault ended, after others
pub stops-behind : (case other : CaseShape) (start front history : List Entry) (first old : OutletView)
    (begun some grown : Option (List ℕ)) (fault : LiveFault) → other ≡ case
    → TurnsOn case.topology start front first old begun some → StopsLive fault other.topology front history old some grown
    → StopsLive fault case.topology start history first begun grown
stops-behind case other start front history first old begun some grown fault same goes stops = λ once text is.
    subst (λ (k : CaseShape). StopsLive fault k.topology front history old some grown) same stops once text (goes once text is)

-- ---- a drain that a fault ended

-- its history has grown
pub fault-gone : (start old new : BookView) (from : ℕ) (fault : LiveFault) → HasGone start old → IsTurnFault from old new fault
    → HasGone start new
fault-gone start old new from (lives.Run why) gone is = gone-step start old new None gone is.0.stepped
fault-gone start old new from (lives.Sink why) gone is = gone-step start old new is.1.own gone is.1.stepped

-- as a drain does
pub fault-goes : (start old new : BookView) (from : ℕ) (was : DrainView) (fault : LiveFault) → IsGoingOn start old from was
    → IsTurnFault was.from old new fault
    → WhereTold start (IsDraining start.case from start.history → IsDraining start.case from new.history)
fault-goes start old new from was (lives.Run why) on is = going-failed start old new from was why on is.0
fault-goes start old new from was (lives.Sink why) on is = λ told draining.
    subst (IsDraining start.case from) (sym is.1.stepped.appended)
    (by_own is.1.own (is.1.next (on.gone.tells ∙ told)) (on.goes told draining))
  where
    by_own : (own : Option Entry) → IfSome own (IsNextEntry old.case was.from old.history)
        → IsDraining start.case from old.history → IsDraining start.case from (with_own own old.history)
    by_own None next draining = draining
    by_own (Some entry) next draining =
        draining-push start.case from old.history entry draining
        (subst (λ (c : CaseShape). IsNextEntry c from old.history entry) on.gone.case
        (subst (λ n. IsNextEntry old.case n old.history entry) on.same next))

-- and where the history is full, before its end
pub fault-short : (start old new : BookView) (from : ℕ) (was : DrainView) (fault : LiveFault) → IsGoingOn start old from was
    → IsTurnFault was.from old new fault → fault ≡ lives.Run faults.HistoryFull
    → WhereTold start (HasEnded start.case from new.history → ⊥)
fault-short start old new from was (lives.Run why) on is full =
    going-full start old new from was why on is.0 is.1 (ap (why_of why) full)
fault-short start old new from was (lives.Sink why) on is full = absurd (true≢false (ap is_sink full))

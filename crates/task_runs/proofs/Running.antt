-- What a book that was worked off leaves, as a run.
use Rattle.std.proofs.Common.{◌≡◌, ◌∙◌, ◌≤◌, ◌<◌, ◌+◌, ◌++◌, ℕ, List, [], ◌∷◌, length, Option, Some, None, IfSome, refl, sym, ap, subst, inl, inr, true≢false, arith}
use Rattle.std.specs.Option.{is_some}
use Rattle.std.proofs.lemmas.List.{append-nil, length-append}
use Rattle.mw_types.specs.declared.entry.Entry.{Entry}
use Rattle.mw_types.specs.declared.identity.RowName.{RowName}
use Rattle.row_keeper.specs.Rows.{Rows}
use Rattle.run_history.specs.Cases.{CaseShape}
use Rattle.run_history.specs.Runs.{run_of}
use Rattle.run_history.specs.Legal.{IsLegal}
use Rattle.run_history.specs.Finished.{IsFinished}
use Rattle.run_history.specs.Inputs.{IsRunnable}
use Rattle.run_history.specs.Stored.{stored_rows}
use Rattle.book.specs.Books.{BookView, core_of}
use Rattle.book.specs.Claims.{IsDamagedRow}
use Rattle.book.specs.DeskReasons.{IsDamageOf}
use Rattle.book.specs.Lawful.{HoldsRowsOf, IsLawful}
use Rattle.book.specs.OwnDesks.{own_view, telling}
use Rattle.node.specs.Answers.{refusal_of}
use Rattle.node.specs.declared.outcome.NodeFault.{NodeFault}
use Rattle.node.specs.declared.outcome.NodeFault.TheVariants as faults
use Rattle.plans.specs.declared.step.Step.{Step}
use Rattle.world.specs.drains.Drains.{HasInjected, IsDrained, IsDraining}
use Rattle.world.specs.Replays.{GoesOn, IsReplayed, IsWholeReplay}
use Rattle.world.specs.scripts.Acts.{scripted_history}
use Rattle.history_laws.specs.Writes.{IsLegalAndFenced}
use Rattle.run_history.specs.Fences.{Begins}
use Rattle.topology.specs.Rules.{IsTopology, interval_count}
use Rattle.topology.specs.Folding.{RoutesView}
use Rattle.task_runs.specs.declared.task.Task.{Task}
use Rattle.task_runs.specs.declared.task.Before.{Before}
use Rattle.task_runs.specs.declared.task.Before.TheVariants.{Steps, Rounds}
use Rattle.task_runs.specs.Histories.{GoesAs, IsAllOf, IsReadAfter, IsShortOf, IsShortOfReplay}
use Rattle.task_runs.specs.Answers.{Left, IsKeptRun, IsRun, IsWholeRun}

-- the rows of an empty history are none
none_stored : (case : CaseShape) (history : List Entry) (rows : Rows) → history ≡ [] → HoldsRowsOf case history rows → rows ≡ []
none_stored case history rows empty held = held.stored ∙ ap (λ h. stored_rows (run_of case.topology h)) empty

-- so are those of a keeper that a contract can see
pub none_kept : (case : CaseShape) (history : List Entry) (found : Option Rows) → history ≡ [] → IfSome found (HoldsRowsOf case history)
    → IfSome found (λ rows. rows ≡ [])
none_kept case history None empty held = tt
none_kept case history (Some rows) empty held = none_stored case history rows empty held

-- where both histories are empty the rows are the same
pub same_where_empty : (one other : CaseShape) (before after : List Entry) (old new : Option Rows) → is_some new ≡ is_some old
    → before ≡ [] → after ≡ [] → IfSome old (HoldsRowsOf one before) → IfSome new (HoldsRowsOf other after) → new ≡ old
same_where_empty one other before after None None tells begun ended held kept = refl
same_where_empty one other before after None (Some rows) tells begun ended held kept = absurd (true≢false tells)
same_where_empty one other before after (Some rows) None tells begun ended held kept = absurd (true≢false (sym tells))
same_where_empty one other before after (Some old) (Some new) tells begun ended held kept =
    ap Some (none_stored other after new ended kept ∙ sym (none_stored one before old begun held))

-- what is so over the routes and the case of a world is so over those of its task
pub over_task : (r s : RoutesView) (k c : CaseShape) (P : RoutesView → CaseShape → Type 0) → r ≡ s → k ≡ c → P r k → P s c
over_task r s k c P routes case is = subst (P s) case (subst (λ (w : RoutesView). P w k) routes is)

-- what is so where rows were seen is so where they are seen, as is what holds of them
pub seen_again : {A : Type 0} {P Q : Rows → Type 0} (old new : Option Rows) → is_some new ≡ is_some old
    → ((rows : Rows) → A → P rows → Q rows) → IfSome old (λ _. A) → IfSome new P → IfSome new Q
seen_again old None tells f a p = tt
seen_again None (Some rows) tells f a p = absurd (true≢false tells)
seen_again (Some held) (Some rows) tells f a p = f rows a p

-- rows that a book has are those of a run
kept_run : (task : Task) (history : List Entry) (rows : Rows) → GoesAs task.routes task.case task.before history
    → HoldsRowsOf task.case history rows → IsKeptRun task history rows
kept_run task history rows goes held = record { legal = held.legal; goes = goes; stored = held.stored }

-- what is so where rows were seen is so where they are seen
pub seen_on : (A : Type 0) (old new : Option Rows) → is_some new ≡ is_some old → IfSome old (λ _. A) → IfSome new (λ _. A)
seen_on A old None tells is = tt
seen_on A None (Some rows) tells is = absurd (true≢false tells)
seen_on A (Some held) (Some rows) tells is = is

-- a book that goes as its task does has a run, where the keeper had no rows before
pub run_of_history : (task : Task) (began : Option Rows) (new : BookView) (text : Option (List ℕ) × Option (List ℕ))
    → IfSome began (λ rows. rows ≡ []) → new.case ≡ task.case → IsLawful new.case (core_of new)
    → IfSome new.rows (λ _. GoesAs task.routes task.case task.before new.history)
    → IsRun task (record { rows = (began, new.rows); text = text; history = new.history })
run_of_history task began new text empty same after goes =
    let lawful : IsLawful task.case (core_of new) = subst (λ c. IsLawful c (core_of new)) same after in
    record {
      began_empty = empty;
      fenced = lawful.fenced;
      kept = seen_again new.rows new.rows refl (λ rows g h. kept_run task new.history rows g h) goes lawful.held;
    }

-- a book that began with nothing and went on as the steps and a drain do has a run
pub run_of_book : (task : Task) (old new : BookView) (text : Option (List ℕ) × Option (List ℕ))
    → old.case ≡ task.case → new.case ≡ old.case → IsLawful old.case (core_of old) → IsLawful new.case (core_of new) → old.history ≡ []
    → is_some new.rows ≡ is_some old.rows → IfSome old.rows (λ _. GoesAs task.routes task.case task.before new.history)
    → IsRun task (record { rows = (old.rows, new.rows); text = text; history = new.history })
run_of_book task old new text mine same before after empty tells goes =
    run_of_history task old.rows new text (none_kept old.case old.history old.rows empty before.held) (same ∙ mine) after
    (seen_on (GoesAs task.routes task.case task.before new.history) old.rows new.rows tells goes)

-- a whole history has come to the end of its drain
whole_injected : (routes : RoutesView) (case : CaseShape) (before : Before) (history : List Entry) → IsAllOf routes case before history
    → (from : ℕ) × HasInjected case from history
whole_injected routes case (Steps steps) history whole = (length (scripted_history routes case steps), whole.drained.ended.earlier)
whole_injected routes case (Rounds workers rounds actions) history whole = (length whole.front, whole.drained.ended.earlier)

-- a run that went to the drain's end is a whole one
pub whole_run : (task : Task) (old : Option Rows) (left : Left) → IsRun task left → IsRunnable task.case
    → ((c : CaseShape) (n : ℕ) (h : List Entry) → IsRunnable c → IsLegal c h → HasInjected c n h → IsFinished c (run_of c.topology h))
    → is_some left.rows.1 ≡ is_some old → IfSome old (λ _. IsAllOf task.routes task.case task.before left.history) → IsWholeRun task left
whole_run task old left run runnable law tells whole = record {
  run = run;
  whole = seen_again old left.rows.1 tells (λ rows w k. w) whole run.kept;
  finished = seen_again old left.rows.1 tells
      (λ rows w k. let at = whole_injected task.routes task.case task.before left.history w in
      law task.case at.0 left.history runnable k.legal at.1) whole run.kept;
}

-- a run that is not the whole is not, where rows are seen after
pub more_seen : (A : Type 0) (old new : Option Rows) → is_some new ≡ is_some old → IfSome old (λ _. A → ⊥) → IfSome new (λ _. A → ⊥)
more_seen A old new tells more = seen_on (A → ⊥) old new tells more

-- a history that is drained so far, and is not the whole, is shorter than the whole
pub shorter : (case : CaseShape) (front history whole : List Entry)
    → ((c : CaseShape) (f one all : List Entry) → IsDraining c (length f) (f ++ one) → IsLegalAndFenced c (f ++ one)
    → IsDrained c (length f) (f ++ all) → IsLegalAndFenced c (f ++ all) → Begins (f ++ one) (f ++ all))
    → GoesOn case front history → IsLegalAndFenced case history → Begins front whole → IsDrained case (length front) whole
    → IsLegalAndFenced case whole → (whole ≡ history → ⊥) → length history < length whole
shorter case front history whole law goes mine begins drained other apart =
    let draining = subst (IsDraining case (length front)) (sym goes.begins.1) goes.draining in
    let ended = subst (IsDrained case (length front)) (sym begins.1) drained in
    let way : Begins (front ++ goes.begins.0) (front ++ begins.0) = law case front goes.begins.0 begins.0 draining
    (subst (IsLegalAndFenced case) (sym goes.begins.1) mine) ended (subst (IsLegalAndFenced case) (sym begins.1) other) in
    by_rest way.0 (sym begins.1 ∙ sym way.1 ∙ ap (λ h. h ++ way.0) goes.begins.1)
  where
    by_rest : (rest : List Entry) → whole ≡ history ++ rest → length history < length whole
    by_rest [] is = absurd (apart (is ∙ append-nil history))
    by_rest (e ∷ es) is = omega (arith, ap length is, length-append history (e ∷ es))

-- a replay that is not the whole has more to come
pub short_of : (routes : RoutesView) (case : CaseShape) (steps : List Step) (history : List Entry) → IsTopology case.topology
    → ((c : CaseShape) (f one all : List Entry) → IsDraining c (length f) (f ++ one) → IsLegalAndFenced c (f ++ one)
    → IsDrained c (length f) (f ++ all) → IsLegalAndFenced c (f ++ all) → Begins (f ++ one) (f ++ all))
    → IsReplayed routes case steps history → IsLegalAndFenced case history
    → (IsWholeReplay routes case steps history → ⊥) → IsShortOfReplay routes case steps history
short_of routes case steps history rules law replayed mine more = record {
  more = more;
  longer = λ whole is other. elim replayed [
    | inl begins ↦ let claimed : length (scripted_history routes case steps) + interval_count case.topology ≤ length whole =
        is.drained.ended.earlier.earlier.earlier.claimed in
        omega (arith, ap length begins.1, length-append history begins.0, claimed, rules.some_injector)
    | inr goes ↦ shorter case (scripted_history routes case steps) history whole law goes mine is.begins is.drained other
        (λ same. more (subst (IsWholeReplay routes case steps) same is))
  ];
}

-- so it is of a run, where rows are seen
pub run_short : (task : Task) (left : Left) (steps : List Step) → task.before ≡ Steps steps → IsRun task left
    → IsTopology task.case.topology
    → ((c : CaseShape) (f one all : List Entry) → IsDraining c (length f) (f ++ one) → IsLegalAndFenced c (f ++ one)
    → IsDrained c (length f) (f ++ all) → IsLegalAndFenced c (f ++ all) → Begins (f ++ one) (f ++ all))
    → IfSome left.rows.1 (λ _. IsWholeReplay task.routes task.case steps left.history → ⊥)
    → IfSome left.rows.1 (λ _. IsShortOf task.routes task.case task.before left.history)
run_short task left steps same run rules law more = by_rows left.rows.1 run.kept more
  where
    by_rows : (rows : Option Rows) → IfSome rows (IsKeptRun task left.history)
        → IfSome rows (λ _. IsWholeReplay task.routes task.case steps left.history → ⊥)
        → IfSome rows (λ _. IsShortOf task.routes task.case task.before left.history)
    by_rows None kept unended = tt
    by_rows (Some rows) kept unended = subst (λ (b : Before). IsShortOf task.routes task.case b left.history) (sym same)
        (short_of task.routes task.case steps left.history rules law
        (subst (λ (b : Before). GoesAs task.routes task.case b left.history) same kept.goes)
        (record { legal = kept.legal; fenced = run.fenced }) unended)

-- what a desk does not tell a contract does not see
pub untold_of : {X : Type 0} (told : Option X) → IfSome (telling told) (λ _. ⊥) → IfSome told (λ _. ⊥)
untold_of None is = tt
untold_of (Some x) is = is

-- a row at which a drain stopped is damaged
damaged_of : (book : BookView) (case : CaseShape) (fault : NodeFault) (name : RowName) (bytes : List ℕ) → book.case ≡ case
    → IsDamageOf (own_view book) (refusal_of fault) → fault ≡ faults.RowDamaged name bytes
    → IsDamagedRow case book.rows (length book.history) name bytes
damaged_of book case fault name bytes same is named =
    let at : IsDamagedRow book.case (telling book.rows) (length book.history) name bytes =
    subst (λ f. IsDamageOf (own_view book) (refusal_of f)) named is in
    subst (λ c. IsDamagedRow c book.rows (length book.history) name bytes) same
    (record { no_row = at.no_row; untold = untold_of book.rows at.untold })

-- a row that was read when the history had all its entries
read_last : (before : Before) (history : List Entry) → IsReadAfter before (length history) history
read_last (Steps steps) history = refl
read_last (Rounds workers rounds actions) history = omega (arith)

-- so it is said of the history that is left
pub damaged_at : (task : Task) (book : BookView) (fault : NodeFault) (name : RowName) (bytes : List ℕ) → book.case ≡ task.case
    → IsDamageOf (own_view book) (refusal_of fault) → fault ≡ faults.RowDamaged name bytes
    → (count : ℕ) × IsReadAfter task.before count book.history × IsDamagedRow task.case book.rows count name bytes
damaged_at task book fault name bytes same is named =
    (length book.history, read_last task.before book.history, damaged_of book task.case fault name bytes same is named)

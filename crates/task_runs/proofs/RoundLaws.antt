-- What rounds of workers leave, and the drain behind them.
use Rattle.std.proofs.Common.{◌≡◌, ◌∙◌, ◌≤◌, ◌+◌, ◌++◌, ℕ, List, [], ◌∷◌, length, Option, Some, None, IfNone, IfSome, refl, sym, ap, subst, inr, true≢false, arith}
use Rattle.std.specs.Option.{is_some}
use Rattle.std.proofs.lemmas.List.{append-nil, append_assoc}
use Rattle.mw_types.specs.Causes.{Rose}
use Rattle.mw_types.specs.declared.entry.Entry.{Entry}
use Rattle.mw_types.specs.declared.identity.RowName.{RowName}
use Rattle.topology.specs.Rules.{IsTopology, interval_count}
use Rattle.topology.specs.Folding.{RoutesView}
use Rattle.row_keeper.specs.Rows.{Rows}
use Rattle.run_history.specs.Cases.{CaseShape}
use Rattle.run_history.specs.Fences.{Begins}
use Rattle.history_laws.specs.Writes.{IsLegalAndFenced}
use Rattle.book.specs.Books.{BookView, core_of}
use Rattle.book.specs.Claims.{IsDamagedRow}
use Rattle.book.specs.Lawful.{HoldsRowsOf, IsLawful}
use Rattle.book.specs.OwnDesks.{telling}
use Rattle.node.specs.Answers.{refusal_of}
use Rattle.node.specs.declared.outcome.NodeFault.{NodeFault}
use Rattle.node.specs.declared.outcome.NodeFault.TheVariants as faults
use Rattle.plans.specs.declared.action.Action.{Action}
use Rattle.workers.specs.Rounds.{HasInjectedAll, IsDamageAt, claims_in, first_claims, rounds_room}
use Rattle.world.specs.drains.Drains.{HasEnded, IsDrained, IsDraining}
use Rattle.world.specs.Replays.{GoesOn}
use Rattle.task_runs.specs.declared.task.Before.{Before}
use Rattle.task_runs.specs.declared.task.Before.TheVariants.{Steps, Rounds}
use Rattle.task_runs.specs.declared.task.Task.{Task}
use Rattle.task_runs.specs.Histories.{GoesAs, IsAllOf, IsFirstClaimed, IsReadAfter, IsShortOf, IsShortOfRounds}
use Rattle.task_runs.specs.Inside.{AreRounds, AreRoundsOf, IsDamageIn, LeavesBegun}
use Rattle.task_runs.specs.declared.status.Status.{Status}
use Rattle.task_runs.proofs.Leaving.{same_end}
use Rattle.task_runs.proofs.Running.{seen_again, seen_on, shorter, untold_of}

-- ---- what rounds say

-- what follows from two facts is so where there is nothing
none_both : {X A B C : Type 0} (found : Option X) → (A → B → C) → IfNone found A → IfNone found B → IfNone found C
none_both None f a b = f a b
none_both (Some x) f a b = tt

-- what follows from a fact is so where something is told
pub on_told : {A B : Type 0} (found : Option Rows) → (A → B) → IfSome found (λ _. A) → IfSome found (λ _. B)
on_told None f a = tt
on_told (Some rows) f a = f a

-- what is so is so where something is told
pub told_always : {A : Type 0} (found : Option Rows) → A → IfSome found (λ _. A)
told_always None a = tt
told_always (Some rows) a = a

-- a count that rose and has not fallen since rose in all
pub rose_after : (a b c : ℕ) → Rose a b → b ≤ c → Rose a c
rose_after a b c rose le = omega (arith, le, rose)

-- rows that are none before and after are the same
pub same_none : (old new : Option Rows) → is_some new ≡ is_some old → IfSome old (λ rows. rows ≡ []) → IfSome new (λ rows. rows ≡ [])
    → new ≡ old
same_none None None tells had has = refl
same_none None (Some rows) tells had has = absurd (true≢false tells)
same_none (Some rows) None tells had has = absurd (true≢false (sym tells))
same_none (Some before) (Some rows) tells had has = ap Some (has ∙ sym had)

-- a plan without a length has no action
no_action : (actions : List Action) → length actions ≡ 0 → actions ≡ []
no_action [] is = refl
no_action (action ∷ actions) is = grind (arith, is)

-- what rounds say of a new book
pub are_rounds : (case : CaseShape) (workers rounds : ℕ) (actions : List Action) (old new : Option Rows) (fault : Option NodeFault)
    (before history : List Entry)
    → is_some new ≡ is_some old → before ≡ []
    → length history ≤ length before + rounds_room workers rounds (length actions)
    → (before ≡ [] → IsFirstClaimed case workers history)
    → (before ≡ [] → IfNone fault (Begins (first_claims case workers) history))
    → (before ≡ [] → actions ≡ [] → IfNone fault (claims_in history ≡ first_claims case workers))
    → IfSome old (λ _. before ≡ [] → actions ≡ [] → IfNone fault (HasInjectedAll case rounds history))
    → AreRounds case workers rounds (length actions) new fault history
are_rounds case workers rounds actions old new fault before history tells empty room first claimed plain injected = record {
  room = omega (arith, room, ap length empty);
  first = first empty;
  claimed = claimed empty;
  plain = on_told new
      (λ (all : before ≡ [] → actions ≡ [] → IfNone fault (HasInjectedAll case rounds history)) (is : length actions ≡ 0).
      none_both fault (λ c i. record { claims = c; injected = i }) (plain empty (no_action actions is))
      (all empty (no_action actions is)))
      (seen_on (before ≡ [] → actions ≡ [] → IfNone fault (HasInjectedAll case rounds history)) old new tells injected);
}

-- ---- how the history goes

-- a beginning of a beginning
pub begins_through : (one two three : List Entry) → Begins one two → Begins two three → Begins one three
begins_through one two three a b = (a.0 ++ b.0, sym (append_assoc one a.0 b.0) ∙ ap (λ l. l ++ b.0) a.1 ∙ b.1)

-- what rounds have left that a fault ended goes as rounds do
pub rounds_stopped : (routes : RoutesView) (case : CaseShape) (before : Before) (told : Option Rows) (fault : Option NodeFault)
    (history : List Entry)
    → IsDraining case (length history) history → AreRoundsOf case before told fault history → GoesAs routes case before history
rounds_stopped routes case (Steps steps) told fault history draining is = absurd is
rounds_stopped routes case (Rounds workers rounds actions) told fault history draining is = record {
  front = history;
  room = is.room;
  goes_on = record { begins = ([], append-nil history); draining = draining };
  first = is.first;
}

-- so does what goes on from them as a drain does
pub rounds_behind : (routes : RoutesView) (case : CaseShape) (before : Before) (told : Option Rows) (front history : List Entry)
    → Begins front history → IsDraining case (length front) history → AreRoundsOf case before told None front
    → GoesAs routes case before history
rounds_behind routes case (Steps steps) told front history begins draining is = absurd is
rounds_behind routes case (Rounds workers rounds actions) told front history begins draining is = record {
  front = front;
  room = is.room;
  goes_on = record { begins = begins; draining = draining };
  first = inr (begins_through (first_claims case workers) front history is.claimed begins);
}

-- where the drain came to its end it is the whole
pub rounds_whole : (routes : RoutesView) (case : CaseShape) (before : Before) (told : Option Rows) (front history : List Entry)
    → Begins front history → IfSome told (λ _. IsDraining case (length front) history)
    → IfSome told (λ _. HasEnded case (length front) history)
    → AreRoundsOf case before told None front → IfSome told (λ _. IsAllOf routes case before history)
rounds_whole routes case before None front history begins draining ended is = tt
rounds_whole routes case (Steps steps) (Some rows) front history begins draining ended is = absurd is
rounds_whole routes case (Rounds workers rounds actions) (Some rows) front history begins draining ended is = record {
  front = front;
  room = is.room;
  begins = begins;
  drained = record { draining = draining; ended = ended };
  claimed = begins_through (first_claims case workers) front history is.claimed begins;
  plain = is.plain;
}

-- a history that goes on from rounds and is not at its drain's end has more to come
short_rounds : (case : CaseShape) (workers rounds actions : ℕ) (front history : List Entry)
    → length front ≤ rounds_room workers rounds actions → GoesOn case front history
    → (HasEnded case (length front) history → ⊥) → IsLegalAndFenced case history
    → ((c : CaseShape) (f one all : List Entry) → IsDraining c (length f) (f ++ one) → IsLegalAndFenced c (f ++ one)
    → IsDrained c (length f) (f ++ all) → IsLegalAndFenced c (f ++ all) → Begins (f ++ one) (f ++ all))
    → IsShortOfRounds case workers rounds actions history
short_rounds case workers rounds actions front history room goes more mine law = record {
  front = front;
  room = room;
  goes_on = goes;
  more = more;
  longer = λ whole begins drained other. shorter case front history whole law goes mine begins drained other
      (λ same. more (subst (HasEnded case (length front)) same drained.ended));
}

-- so it is of what rounds left that a fault ended, since a drain has intervals to claim
pub rounds_full : (routes : RoutesView) (case : CaseShape) (before : Before) (told : Option Rows) (fault : Option NodeFault)
    (history : List Entry)
    → IsTopology case.topology → IsDraining case (length history) history → IsLegalAndFenced case history
    → ((c : CaseShape) (f one all : List Entry) → IsDraining c (length f) (f ++ one) → IsLegalAndFenced c (f ++ one)
    → IsDrained c (length f) (f ++ all) → IsLegalAndFenced c (f ++ all) → Begins (f ++ one) (f ++ all))
    → AreRoundsOf case before told fault history → IsShortOf routes case before history
rounds_full routes case (Steps steps) told fault history rules draining mine law is = absurd is
rounds_full routes case (Rounds workers rounds actions) told fault history rules draining mine law is =
    short_rounds case workers rounds (length actions) history history is.room
    (record { begins = ([], append-nil history); draining = draining })
    (λ ended. let claimed : length history + interval_count case.topology ≤ length history =
    ended.earlier.earlier.earlier.claimed in
    omega (arith, claimed, rules.some_injector)) mine law

-- and of what goes on from rounds
pub rounds_short : (routes : RoutesView) (case : CaseShape) (before : Before) (told : Option Rows) (front history : List Entry)
    → Begins front history → IsDraining case (length front) history → (HasEnded case (length front) history → ⊥)
    → IsLegalAndFenced case history
    → ((c : CaseShape) (f one all : List Entry) → IsDraining c (length f) (f ++ one) → IsLegalAndFenced c (f ++ one)
    → IsDrained c (length f) (f ++ all) → IsLegalAndFenced c (f ++ all) → Begins (f ++ one) (f ++ all))
    → AreRoundsOf case before told None front → IsShortOf routes case before history
rounds_short routes case (Steps steps) told front history begins draining more mine law is = absurd is
rounds_short routes case (Rounds workers rounds actions) told front history begins draining more mine law is =
    short_rounds case workers rounds (length actions) front history is.room (record { begins = begins; draining = draining })
    more mine law

-- ---- a book

-- a book that was drained behind rounds goes so, where its rows are seen
pub drained_goes : (task : Task) (old new : BookView) → old.case ≡ task.case → is_some new.rows ≡ is_some old.rows
    → Begins old.history new.history → IfSome old.rows (λ _. IsDraining old.case (length old.history) new.history)
    → AreRoundsOf task.case task.before old.rows None old.history
    → IfSome new.rows (λ _. GoesAs task.routes task.case task.before new.history)
drained_goes task old new same tells begins draining are =
    seen_on (GoesAs task.routes task.case task.before new.history) old.rows new.rows tells
    (on_told old.rows (λ (d : IsDraining old.case (length old.history) new.history).
    rounds_behind task.routes task.case task.before old.rows old.history new.history begins
    (subst (λ c. IsDraining c (length old.history) new.history) same d) are) draining)

-- a book that was drained to the end is whole
pub drained_whole : (task : Task) (old new : BookView) → old.case ≡ task.case
    → Begins old.history new.history → IfSome old.rows (λ _. IsDraining old.case (length old.history) new.history)
    → IfSome old.rows (λ _. HasEnded old.case (length old.history) new.history)
    → AreRoundsOf task.case task.before old.rows None old.history
    → IfSome old.rows (λ _. IsAllOf task.routes task.case task.before new.history)
drained_whole task old new same begins draining ended are =
    rounds_whole task.routes task.case task.before old.rows old.history new.history begins
    (on_told old.rows (λ (d : IsDraining old.case (length old.history) new.history).
    subst (λ c. IsDraining c (length old.history) new.history) same d) draining)
    (on_told old.rows (λ (e : HasEnded old.case (length old.history) new.history).
    subst (λ c. HasEnded c (length old.history) new.history) same e) ended) are

-- what a lawful book has is legal and fenced, where its rows are seen
lawful_fenced : (task : Task) (book : BookView) (rows : Rows) → IsLawful task.case (core_of book)
    → HoldsRowsOf task.case book.history rows → IsLegalAndFenced task.case book.history
lawful_fenced task book rows lawful held = record { legal = held.legal; fenced = lawful.fenced }

-- a book whose drain stopped before its end has more to come
pub drained_short : (task : Task) (old new : BookView) → old.case ≡ task.case → new.case ≡ old.case
    → IsLawful new.case (core_of new) → is_some new.rows ≡ is_some old.rows
    → Begins old.history new.history → IfSome old.rows (λ _. IsDraining old.case (length old.history) new.history)
    → ((c : CaseShape) (f one all : List Entry) → IsDraining c (length f) (f ++ one) → IsLegalAndFenced c (f ++ one)
    → IsDrained c (length f) (f ++ all) → IsLegalAndFenced c (f ++ all) → Begins (f ++ one) (f ++ all))
    → AreRoundsOf task.case task.before old.rows None old.history
    → IfSome old.rows (λ _. HasEnded old.case (length old.history) new.history → ⊥)
    → IfSome new.rows (λ _. IsShortOf task.routes task.case task.before new.history)
drained_short task old new mine same after tells begins draining law are more =
    let lawful : IsLawful task.case (core_of new) = subst (λ c. IsLawful c (core_of new)) (same ∙ mine) after in
    by_rows old.rows new.rows tells draining more lawful.held
  where
    by_rows : (had has : Option Rows) → is_some has ≡ is_some had
        → IfSome had (λ _. IsDraining old.case (length old.history) new.history)
        → IfSome had (λ _. HasEnded old.case (length old.history) new.history → ⊥)
        → IfSome has (HoldsRowsOf task.case new.history)
        → IfSome has (λ _. IsShortOf task.routes task.case task.before new.history)
    by_rows had None told d m held = tt
    by_rows None (Some rows) told d m held = absurd (true≢false told)
    by_rows (Some before) (Some rows) told d m held =
        rounds_short task.routes task.case task.before old.rows old.history new.history begins
        (subst (λ c. IsDraining c (length old.history) new.history) mine d)
        (λ e. m (subst (λ c. HasEnded c (length old.history) new.history) (sym mine) e))
        (lawful_fenced task new rows (subst (λ c. IsLawful c (core_of new)) (same ∙ mine) after) held) law are

-- so has a book whose rounds a fault ended
pub stopped_short : (task : Task) (book : BookView) (fault : Option NodeFault) → book.case ≡ task.case
    → IsLawful book.case (core_of book) → IsTopology task.case.topology → IsDraining task.case (length book.history) book.history
    → ((c : CaseShape) (f one all : List Entry) → IsDraining c (length f) (f ++ one) → IsLegalAndFenced c (f ++ one)
    → IsDrained c (length f) (f ++ all) → IsLegalAndFenced c (f ++ all) → Begins (f ++ one) (f ++ all))
    → AreRoundsOf task.case task.before book.rows fault book.history
    → IfSome book.rows (λ _. IsShortOf task.routes task.case task.before book.history)
stopped_short task book fault mine after rules draining law are =
    let lawful : IsLawful task.case (core_of book) = subst (λ c. IsLawful c (core_of book)) mine after in
    seen_again book.rows book.rows refl
    (λ rows a held. rounds_full task.routes task.case task.before book.rows fault book.history rules draining
    (lawful_fenced task book rows lawful held) law a) (told_always book.rows are) lawful.held

-- what is left of a run is left as well where the rows and the history are said in other words
pub left_as : (task : Task) (rows other : Option Rows) (text : Option (List ℕ) × Option (List ℕ)) (history more : List Entry)
    (s : Status) → other ≡ rows → more ≡ history → LeavesBegun task rows text history s → LeavesBegun task other text more s
left_as task rows other text history more s told same is =
    λ began empty. same_end task began rows other text history more s told same (is began empty)

-- ---- damage

-- what is told is told to who may see it
telling_same : (old new : Option Rows) → is_some new ≡ is_some old → telling old ≡ telling new
telling_same None None tells = refl
telling_same None (Some rows) tells = absurd (true≢false tells)
telling_same (Some rows) None tells = absurd (true≢false (sym tells))
telling_same (Some before) (Some rows) tells = refl

-- damage that rounds say is said of the rows after
pub damage_seen : (one other : CaseShape) (old new : Option Rows) (fault : Option NodeFault) (history : List Entry) → one ≡ other
    → is_some new ≡ is_some old
    → IfSome fault (λ why. (count : ℕ) × (count ≤ length history) × IsDamageAt one (telling old) count (refusal_of why))
    → IfSome fault (IsDamageIn other new history)
damage_seen one other old new None history same tells is = tt
damage_seen one other old new (Some why) history same tells is = (
  is.0,
  is.1,
  subst (λ t. IsDamageAt other t is.0 (refusal_of why)) (telling_same old new tells)
      (subst (λ (k : CaseShape). IsDamageAt k (telling old) is.0 (refusal_of why)) same is.2),
)

-- a row that was read within the rounds
read_within : (case : CaseShape) (before : Before) (told : Option Rows) (fault : Option NodeFault) (count : ℕ) (history : List Entry)
    → AreRoundsOf case before told fault history → count ≤ length history → IsReadAfter before count history
read_within case (Steps steps) told fault count history is within = absurd is
read_within case (Rounds workers rounds actions) told fault count history is within = within

-- what a fault of rounds says of a damaged row
pub damaged_within : (task : Task) (rows : Option Rows) (found : Option NodeFault) (fault : NodeFault) (history : List Entry)
    (name : RowName) (bytes : List ℕ)
    → AreRoundsOf task.case task.before rows found history → IsDamageIn task.case rows history fault
    → fault ≡ faults.RowDamaged name bytes
    → (count : ℕ) × IsReadAfter task.before count history × IsDamagedRow task.case rows count name bytes
damaged_within task rows found fault history name bytes are is named =
    let at : IsDamagedRow task.case (telling rows) is.0 name bytes =
    subst (λ f. IsDamageAt task.case (telling rows) is.0 (refusal_of f)) named is.2 in (
      is.0,
      read_within task.case task.before rows found is.0 history are is.1,
      record { no_row = at.no_row; untold = untold_of rows at.untold },
    )

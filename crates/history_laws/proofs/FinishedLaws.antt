-- A record that is handled is finished in the row that handled it, so a record that was made and is not finished waits.
use Rattle.std.proofs.Common.{◌≡◌, ℕ, ◌≤◌, Bool, true, false, cond, List, [], ◌∷◌, ◌++◌, refl, sym, ◌∙◌, ap, subst, arith}
use Rattle.std.specs.Prelude.{⊤, Option, Some, None, IsSome, filter, not, nat_lt, nat_le, ◌||◌}
use Rattle.std.specs.List.{AllByRecursion, list_any}
use Rattle.std.specs.Ordering.{match_ordering}
use Rattle.std.specs.declared.cmp.Ordering.TheVariants.{Less, Equal, Greater}
use Rattle.std.proofs.lemmas.Bool.{ltb-true, ltb-false, le-leb, both_ways}
use Rattle.std.proofs.lemmas.List.Folds.{list_any-append}
use Rattle.std.proofs.lemmas.Map.Lookups.{exact_unsigned}
use Rattle.list_lemmas.proofs.Tests.{or_true}
use Rattle.mw_types.specs.declared.identity.RecordId.{RecordId}
use Rattle.mw_types.specs.declared.identity.RowName.{RowName}
use Rattle.mw_types.specs.declared.delivery.Delivery.{Delivery}
use Rattle.mw_types.specs.declared.entry.Entry.{Entry}
use Rattle.mw_types.specs.declared.entry.Entry.TheVariants.{Claim, Inject, Handle, Fire, Ack, Purge}
use Rattle.mw_types.specs.Orders.{id_cmp}
use Rattle.topology.specs.Shapes.{Shape}
use Rattle.row_parts.specs.Contents.{Contents, same_id, with_id, ids_from, is_finished, found_delivery}
use Rattle.run_history.specs.Cases.{CaseShape}
use Rattle.run_history.specs.Made.{row_written, deliveries_of}
use Rattle.run_history.specs.Runs.{Run, run_of, row_of, followed, changed, noted}
use Rattle.run_history.specs.Legal.{MayFollow, IsLegal, floor_of}
use Rattle.run_history.specs.Finished.{handles, is_handled}
use Rattle.history_laws.specs.Ids.{is_left}
use Rattle.list_lemmas.proofs.Lists.{some_same, each-append, each-weaker, find-none, find-kept, filter-passes, each-filter}
use Rattle.history_laws.proofs.Along.{along_history}
use Rattle.history_laws.proofs.IdLaws.{same_id-true, same_id-itself, AreIds, WasMade, legal-ids, legal-tells, is_handled-push}
use Rattle.history_laws.proofs.FloorLaws.{floor_of-followed}
use Rattle.history_laws.proofs.PendingLaws.{waiting-above}
use Rattle.history_laws.proofs.RowSteps.{row_of-step, row_of-here, both_Equal}

-- two tests of which one passes, where the other is known
or_cases : (a b : Bool) → (a || b) ≡ true → a ≡ false → b ≡ true
or_cases true b e f = cc
or_cases false b e f = e

-- ids that tie are the same
pub same_from_tie : (a b : RecordId) → id_cmp a b ≡ Equal → a ≡ b
same_from_tie a b e =
    let k = both_Equal _ _ e in
    let p = exact_unsigned a.commit b.commit k.0 in
    let q = exact_unsigned a.index b.index k.1 in
    λ i. record { commit = p i; index = q i }

-- an id that is noted is among the ids, and so is each that was
with_id-has : (id new : RecordId) (ids : List RecordId) → (same_id id new || list_any (same_id id) ids) ≡ true
    → list_any (same_id id) (with_id new ids) ≡ true
with_id-has id new [] has = has
with_id-has id new (x ∷ xs) has =
    elim (id_cmp new x) as (λ r. id_cmp new x ≡ r → list_any (same_id id)
    (match_ordering r (new ∷ x ∷ xs) (x ∷ xs) (x ∷ with_id new xs)) ≡ true) [
      | Less ↦ λ e. has
      | Equal ↦ λ e. by_test (same_id id x) (ap (same_id id) (same_from_tie new x e)) has
      | Greater ↦ λ e. elim (same_id id x) as (λ b. (same_id id new || (b || list_any (same_id id) xs)) ≡ true
          → (b || list_any (same_id id) (with_id new xs)) ≡ true) [
            | true ↦ λ h. refl
            | false ↦ λ h. with_id-has id new xs h
          ] has
    ] refl
  where
    by_test : (b : Bool) → same_id id new ≡ b → (same_id id new || (b || list_any (same_id id) xs)) ≡ true
        → (b || list_any (same_id id) xs) ≡ true
    by_test true e h = refl
    by_test false e h = or_cases (same_id id new) (list_any (same_id id) xs) h e

-- an id at or above the floor stays where those below it go
ids_from-has : (floor : ℕ) (id : RecordId) (ids : List RecordId) → nat_le floor id.commit ≡ true → list_any (same_id id) ids ≡ true
    → list_any (same_id id) (ids_from floor ids) ≡ true
ids_from-has floor id [] above has = has
ids_from-has floor id (x ∷ xs) above has =
    elim (same_id id x) as (λ b. same_id id x ≡ b → (b || list_any (same_id id) xs) ≡ true
    → list_any (same_id id) (cond (nat_le floor x.commit) (x ∷ ids_from floor xs) (ids_from floor xs)) ≡ true) [
      | true ↦ λ e h. ap (λ b. list_any (same_id id) (cond b (x ∷ ids_from floor xs) (ids_from floor xs)))
          (subst (λ (i : RecordId). nat_le floor i.commit ≡ true) (same_id-true id x e) above)
          ∙ ap (λ b. b || list_any (same_id id) (ids_from floor xs)) e
      | false ↦ λ e h. elim (nat_le floor x.commit) as
          (λ b. list_any (same_id id) (cond b (x ∷ ids_from floor xs) (ids_from floor xs)) ≡ true) [
            | true ↦ ap (λ b. b || list_any (same_id id) (ids_from floor xs)) e ∙ ids_from-has floor id xs above h
            | false ↦ ids_from-has floor id xs above h
          ]
    ] refl has

-- an id that is noted is finished
noted-finished : (id : RecordId) (row : Contents) → (nat_lt id.commit row.floor || list_any (same_id id) (noted id row)) ≡ true
noted-finished id row = elim (nat_lt id.commit row.floor) as
    (λ b. (b || list_any (same_id id) (cond b row.seen (with_id id row.seen))) ≡ true) [
      | true ↦ refl
      | false ↦ with_id-has id id row.seen (ap (λ b. b || list_any (same_id id) row.seen) (same_id-itself id))
    ]

-- an id that is finished stays so where another is noted
noted-keeps : (id new : RecordId) (row : Contents) → is_finished id row ≡ true
    → (nat_lt id.commit row.floor || list_any (same_id id) (noted new row)) ≡ true
noted-keeps id new row done = elim (nat_lt id.commit row.floor) as
    (λ b. (b || list_any (same_id id) row.seen) ≡ true → (b || list_any (same_id id) (noted new row)) ≡ true) [
      | true ↦ λ d. refl
      | false ↦ λ d. elim (nat_lt new.commit row.floor) as (λ b. list_any (same_id id) (cond b row.seen (with_id new row.seen)) ≡ true) [
        | true ↦ d
        | false ↦ with_id-has id new row.seen (ap (λ b. same_id id new || b) d ∙ or_true (same_id id new))
      ]
    ] done

-- an id that is finished stays so where the floor rises
purged-keeps : (id : RecordId) (floor : ℕ) (row : Contents) → row.floor ≤ floor → is_finished id row ≡ true
    → (nat_lt id.commit floor || list_any (same_id id) (ids_from floor row.seen)) ≡ true
purged-keeps id floor row rises done = elim (nat_lt id.commit floor) as
    (λ b. nat_lt id.commit floor ≡ b → (b || list_any (same_id id) (ids_from floor row.seen)) ≡ true) [
      | true ↦ λ e. refl
      | false ↦ λ e. let above = ltb-false id.commit floor e in
          ids_from-has floor id row.seen (le-leb floor id.commit above) (seen above (nat_lt id.commit row.floor) refl done)
    ] refl
  where
    seen : floor ≤ id.commit → (b : Bool) → nat_lt id.commit row.floor ≡ b → (b || list_any (same_id id) row.seen) ≡ true
        → list_any (same_id id) row.seen ≡ true
    seen above true e d = let below = ltb-true id.commit row.floor e in absurd (omega (arith, below, above, rises))
    seen above false e d = d

-- what an entry leaves of its row keeps each id that was finished there
changed-finished : (case : CaseShape) (run : Run) (entry : Entry) (sent : List Delivery) (name : RowName) (id : RecordId)
    → MayFollow case run entry
    → row_written entry ≡ Some name → is_finished id (row_of case.topology run name) ≡ true
    → is_finished id (changed entry sent (row_of case.topology run name)) ≡ true
changed-finished case run (Handle seq row new effects) sent name id may written done = noted-keeps id new
    (row_of case.topology run name) done
changed-finished case run (Purge seq row floor) sent name id may written done =
    let rises = may.rises in
    let same : row ≡ name = some_same row name written in
    purged-keeps id floor (row_of case.topology run name)
    (subst (λ (n : RowName). (row_of case.topology run n).floor ≤ floor) same (omega (arith, rises))) done
changed-finished case run _ sent name id may written done = done

-- an id that is finished in a row stays so
pub is_finished-followed : (case : CaseShape) (run : Run) (entry : Entry) (name : RowName) (id : RecordId) → MayFollow case run entry
    → is_finished id (row_of case.topology run name) ≡ true
    → is_finished id (row_of case.topology (followed case.topology run entry) name) ≡ true
is_finished-followed case run entry name id may done =
    row_of-step case.topology run entry name (λ (c : Contents). is_finished id c ≡ true) done
    (λ written. changed-finished case run entry (deliveries_of case.topology run.made run.next entry) name id may written done)

-- what an entry handled is finished in the row that it is on
abbrev pub IsDoneBy : Shape → Run → Entry → Type 0
IsDoneBy shape run (Handle seq row id effects) = is_finished id (row_of shape run row) ≡ true
IsDoneBy shape run entry = ⊤

-- and stays so
IsDoneBy-followed : (case : CaseShape) (run : Run) (entry : Entry) (old : Entry) → MayFollow case run entry
    → IsDoneBy case.topology run old → IsDoneBy case.topology (followed case.topology run entry) old
IsDoneBy-followed case run entry (Handle seq row id effects) may done = is_finished-followed case run entry row id may done
IsDoneBy-followed case run entry _ may done = tt

-- what an entry handles is finished after it
done_by_itself : (shape : Shape) (run : Run) (entry : Entry) → IsDoneBy shape (followed shape run entry) entry
done_by_itself shape run (Handle seq row id effects) =
    ap (is_finished id) (row_of-here shape run (Handle seq row id effects) row refl) ∙ noted-finished id (row_of shape run row)
done_by_itself shape run _ = tt

-- after a legal history each handled record is finished in the row that handled it
pub legal-done : (case : CaseShape) (history : List Entry) → IsLegal case history
    → AllByRecursion (IsDoneBy case.topology (run_of case.topology history)) history
legal-done case = along_history case (λ done run. AllByRecursion (IsDoneBy case.topology run) done)
    (λ done run entry each may. each-append (IsDoneBy case.topology (followed case.topology run entry)) done (entry ∷ [])
    (each-weaker (IsDoneBy case.topology run) (IsDoneBy case.topology (followed case.topology run entry))
    (λ old by. IsDoneBy-followed case run entry old may by) done each)
    (done_by_itself case.topology run entry, tt)) tt

-- a delivery that some entry handled is finished in the row to which it goes
finished_where_handled : (shape : Shape) (run : Run) (d : Delivery) (entries : List Entry) → found_delivery d.id run.made ≡ Some d
    → AllByRecursion (WasMade run.made) entries → AllByRecursion (IsDoneBy shape run) entries → is_handled d.id entries ≡ true
    → is_finished d.id (row_of shape run d.to) ≡ true
finished_where_handled shape run d [] made was done handled = absurd (cc)
finished_where_handled shape run d (e ∷ es) made was done handled =
    elim (handles d.id e) as (λ b. handles d.id e ≡ b → (b || is_handled d.id es) ≡ true
    → is_finished d.id (row_of shape run d.to) ≡ true) [
      | true ↦ λ by h. here e by was.0 done.0
      | false ↦ λ by h. finished_where_handled shape run d es made was.1 done.1 h
    ] refl handled
  where
    here : (entry : Entry) → handles d.id entry ≡ true → WasMade run.made entry → IsDoneBy shape run entry
        → is_finished d.id (row_of shape run d.to) ≡ true
    here (Handle seq row id effects) by was done =
        let same : d.id ≡ id = same_id-true d.id id by in
        let one : was.0 ≡ d = some_same was.0 d (sym was.1 ∙ ap (λ (i : RecordId). found_delivery i run.made) (sym same) ∙ made) in
        let to : row ≡ d.to = sym was.2 ∙ ap (λ (e : Delivery). e.to) one in
        subst (λ (i : RecordId). is_finished i (row_of shape run d.to) ≡ true) (sym same)
        (subst (λ (r : RowName). is_finished id (row_of shape run r) ≡ true) to done)
    here _ by was done = cc

-- a delivery that was made, and that is not finished in the row to which it goes, waits
pub waits-unless_finished : (case : CaseShape) (history : List Entry) (d : Delivery) → IsLegal case history
    → found_delivery d.id (run_of case.topology history).made ≡ Some d
    → is_finished d.id (row_of case.topology (run_of case.topology history) d.to) ≡ false
    → found_delivery d.id (run_of case.topology history).unhandled ≡ Some d
waits-unless_finished case history d legal made unfinished =
    let run = run_of case.topology history in
    let ids = legal-ids case history legal in
    subst (λ (l : List Delivery). found_delivery d.id l ≡ Some d) (sym ids.waiting)
    (find-kept (λ (e : Delivery). same_id e.id d.id) (is_left history) run.made d made
    (elim (is_handled d.id history) as (λ b. is_handled d.id history ≡ b → not b ≡ true) [
      | true ↦ λ e. absurd (both_ways _ unfinished
          (finished_where_handled case.topology run d history made ids.handled (legal-done case history legal) e))
      | false ↦ λ e. refl
    ] refl))

-- nothing waits under an id that is handled
pub handled-waits_not : (case : CaseShape) (history : List Entry) (id : RecordId) → IsLegal case history → is_handled id history ≡ true
    → found_delivery id (run_of case.topology history).unhandled ≡ None
handled-waits_not case history id legal handled =
    let run = run_of case.topology history in
    subst (λ (l : List Delivery). found_delivery id l ≡ None) (sym (legal-ids case history legal).waiting)
    (find-none (λ (e : Delivery). same_id e.id id) (filter (is_left history) run.made)
    (each-weaker (λ (e : Delivery). is_left history e ≡ true) (λ (e : Delivery). same_id e.id id ≡ false) other
    (filter (is_left history) run.made)
    (filter-passes (is_left history) run.made)))
  where
    other : (e : Delivery) → is_left history e ≡ true → same_id e.id id ≡ false
    other e left = elim (same_id e.id id) as (λ t. same_id e.id id ≡ t → t ≡ false) [
      | false ↦ λ _. refl
      | true ↦ λ same. let done : is_handled e.id history ≡ true = subst (λ (i : RecordId). is_handled i history ≡ true)
          (sym (same_id-true e.id id same)) handled in
          let kept : not (is_handled e.id history) ≡ false = ap not done in absurd (both_ways _ kept left)
    ] refl

-- ---- from a beginning of a history to the whole

-- a record that is handled in a history is handled in each longer one
pub is_handled-more : (id : RecordId) (front rest : List Entry) → is_handled id front ≡ true → is_handled id (front ++ rest) ≡ true
is_handled-more id front rest handled = list_any-append (handles id) front rest ∙ ap (λ b. b || list_any (handles id) rest) handled

-- ---- what is finished is handled

-- no row's floor is above the floor of the run, and each id that a row has seen is handled
pub record AreFloorsKept (case : CaseShape) (history : List Entry) (run : Run) : Type 0 where
  pub floors : (name : RowName) → (row_of case.topology run name).floor ≤ floor_of run
  pub seen : (name : RowName) → AllByRecursion (λ (id : RecordId). is_handled id history ≡ true) (row_of case.topology run name).seen

-- what holds of each id and of one more holds of each with that one
with_id-each : (P : RecordId → Type 0) (new : RecordId) (ids : List RecordId) → P new → AllByRecursion P ids
    → AllByRecursion P (with_id new ids)
with_id-each P new [] here each = (here, tt)
with_id-each P new (x ∷ xs) here each =
    elim (id_cmp new x) as (λ r. AllByRecursion P (match_ordering r (new ∷ x ∷ xs) (x ∷ xs) (x ∷ with_id new xs))) [
      | Less ↦ (here, each)
      | Equal ↦ each
      | Greater ↦ (each.0, with_id-each P new xs here each.1)
    ]

-- the ids that an entry leaves in its row are handled
changed-seen : (history : List Entry) (entry : Entry) (sent : List Delivery) (row : Contents)
    → AllByRecursion (λ (id : RecordId). is_handled id history ≡ true) row.seen
    → AllByRecursion (λ (id : RecordId). is_handled id (history ++ entry ∷ []) ≡ true) (changed entry sent row).seen
changed-seen history entry sent row each = by_kind entry
  where
    old : (e : Entry) → AllByRecursion (λ (id : RecordId). is_handled id (history ++ e ∷ []) ≡ true) row.seen
    old e = each-weaker (λ (id : RecordId). is_handled id history ≡ true) (λ (id : RecordId). is_handled id (history ++ e ∷ []) ≡ true)
        (λ id handled. is_handled-more id history (e ∷ []) handled) row.seen each

    by_kind : (e : Entry) → AllByRecursion (λ (id : RecordId). is_handled id (history ++ e ∷ []) ≡ true) (changed e sent row).seen
    by_kind (Claim worker interval) = old (Claim worker interval)
    by_kind (Inject seq part line item) = old (Inject seq part line item)
    by_kind (Handle seq name id effects) = elim (nat_lt id.commit row.floor) as
        (λ b. AllByRecursion (λ (i : RecordId). is_handled i (history ++ Handle seq name id effects ∷ []) ≡ true)
        (cond b row.seen (with_id id row.seen))) [
          | true ↦ old (Handle seq name id effects)
          | false ↦ with_id-each (λ (i : RecordId). is_handled i (history ++ Handle seq name id effects ∷ []) ≡ true) id row.seen
              (is_handled-push id history (Handle seq name id effects)
              ∙ ap (λ b. is_handled id history || (b || false)) (same_id-itself id) ∙ or_true (is_handled id history))
              (old (Handle seq name id effects))
        ]
    by_kind (Fire seq name timer mark effects) = old (Fire seq name timer mark effects)
    by_kind (Ack seq name id) = old (Ack seq name id)
    by_kind (Purge seq name floor) = each-filter (λ (id : RecordId). is_handled id (history ++ Purge seq name floor ∷ []) ≡ true)
        (λ (id : RecordId). nat_le floor id.commit) row.seen (old (Purge seq name floor))

-- the floor that an entry leaves in its row is not above that of the run
changed-floor : (case : CaseShape) (run : Run) (entry : Entry) (sent : List Delivery) (row : Contents) → MayFollow case run entry
    → row.floor ≤ floor_of run
    → (changed entry sent row).floor ≤ floor_of run
changed-floor case run (Purge seq name floor) sent row may old = may.finished
changed-floor case run _ sent row may old = old

-- one more entry keeps floors below that of the run
AreFloorsKept-followed : (case : CaseShape) (history : List Entry) (run : Run) (entry : Entry) → AreFloorsKept case history run
    → MayFollow case run entry
    → AreFloorsKept case (history ++ entry ∷ []) (followed case.topology run entry)
AreFloorsKept-followed case history run entry kept may = record {
  floors = λ name.
      let rises : floor_of run ≤ floor_of (followed case.topology run entry) = floor_of-followed case.topology run entry in
      let now = row_of-step case.topology run entry name (λ (c : Contents). c.floor ≤ floor_of run) (kept.floors name)
      (λ written. changed-floor case run entry (deliveries_of case.topology run.made run.next entry) (row_of case.topology run name) may
      (kept.floors name)) in
      omega (arith, rises, now);
  seen = λ name. row_of-step case.topology run entry name
      (λ (c : Contents). AllByRecursion (λ (id : RecordId). is_handled id (history ++ entry ∷ []) ≡ true) c.seen)
      (each-weaker (λ (id : RecordId). is_handled id history ≡ true) (λ (id : RecordId). is_handled id (history ++ entry ∷ []) ≡ true)
      (λ id handled. is_handled-more id history (entry ∷ []) handled) (row_of case.topology run name).seen (kept.seen name))
      (λ written. changed-seen history entry (deliveries_of case.topology run.made run.next entry) (row_of case.topology run name)
      (kept.seen name));
}

-- after each legal history no row's floor is above that of the run, and what a row has seen is handled
pub legal-floors : (case : CaseShape) (history : List Entry) → IsLegal case history
    → AreFloorsKept case history (run_of case.topology history)
legal-floors case = along_history case (AreFloorsKept case) (λ done run entry kept may. AreFloorsKept-followed case done run entry kept may)
    (record { floors = λ name. omega arith; seen = λ name. tt })

-- an id among those of which each has a fact has it
seen-each : (P : RecordId → Type 0) (id : RecordId) (ids : List RecordId) → AllByRecursion P ids → list_any (same_id id) ids ≡ true → P id
seen-each P id [] each has = absurd (cc)
seen-each P id (x ∷ xs) each has =
    elim (same_id id x) as (λ b. same_id id x ≡ b → (b || list_any (same_id id) xs) ≡ true → P id) [
      | true ↦ λ e h. subst P (sym (same_id-true id x e)) each.0
      | false ↦ λ e h. seen-each P id xs each.1 h
    ] refl has

-- a delivery that was made is finished in the row to which it goes exactly where it is handled
pub finished-handled : (case : CaseShape) (history : List Entry) (d : Delivery) → IsLegal case history
    → found_delivery d.id (run_of case.topology history).made ≡ Some d
    → is_finished d.id (row_of case.topology (run_of case.topology history) d.to) ≡ is_handled d.id history
finished-handled case history d legal made = elim (is_handled d.id history) as
    (λ b. is_handled d.id history ≡ b → is_finished d.id row ≡ b) [
      | true ↦ λ e. finished_where_handled case.topology run d history made ids.handled (legal-done case history legal) e
      | false ↦ λ e. by_test (is_finished d.id row) refl e
    ] refl
  where
    run : Run
    run = run_of case.topology history

    row : Contents
    row = row_of case.topology run d.to

    ids : AreIds history run
    ids = legal-ids case history legal

    kept : AreFloorsKept case history run
    kept = legal-floors case history legal

    waits : is_handled d.id history ≡ false → found_delivery d.id run.unhandled ≡ Some d
    waits e = subst (λ (l : List Delivery). found_delivery d.id l ≡ Some d) (sym ids.waiting)
        (find-kept (λ (e : Delivery). same_id e.id d.id) (is_left history) run.made d made (ap not e))

    above : is_handled d.id history ≡ false → floor_of run ≤ d.id.commit
    above e = waiting-above case history d legal (waits e)

    by_seen : (b : Bool) → nat_lt d.id.commit row.floor ≡ b → (b || list_any (same_id d.id) row.seen) ≡ true
        → is_handled d.id history ≡ false → ⊥
    by_seen true below done e =
        let less = ltb-true d.id.commit row.floor below in
        let under = kept.floors d.to in
        let over = above e in absurd (omega (arith, less, under, over))
    by_seen false below done e = both_ways (is_handled d.id history) e
        (seen-each (λ (id : RecordId). is_handled id history ≡ true) d.id row.seen (kept.seen d.to) done)

    by_test : (b : Bool) → is_finished d.id row ≡ b → is_handled d.id history ≡ false → b ≡ false
    by_test true done e = absurd (by_seen (nat_lt d.id.commit row.floor) refl done e)
    by_test false done e = refl

-- an id under which nothing was made is finished in no row, unless it is below the floor
pub unmade-unfinished : (case : CaseShape) (history : List Entry) (id : RecordId) (name : RowName) → IsLegal case history
    → found_delivery id (run_of case.topology history).made ≡ None → floor_of (run_of case.topology history) ≤ id.commit
    → is_finished id (row_of case.topology (run_of case.topology history) name) ≡ false
unmade-unfinished case history id name legal unmade above = by_test (is_finished id row) refl
  where
    row : Contents
    row = row_of case.topology (run_of case.topology history) name

    kept : AreFloorsKept case history (run_of case.topology history)
    kept = legal-floors case history legal

    none : (o : Option Delivery) → IsSome o → o ≡ None → ⊥
    none None is e = absurd (cc)
    none (Some d) is e = cc

    by_seen : (b : Bool) → nat_lt id.commit row.floor ≡ b → (b || list_any (same_id id) row.seen) ≡ true → ⊥
    by_seen true below done =
        let less = ltb-true id.commit row.floor below in
        let under = kept.floors name in absurd (omega (arith, less, under, above))
    by_seen false below done =
        let handled = seen-each (λ (i : RecordId). is_handled i history ≡ true) id row.seen (kept.seen name) done in
        none (found_delivery id (run_of case.topology history).made) ((legal-tells case history legal).handled id handled) unmade

    by_test : (b : Bool) → is_finished id row ≡ b → b ≡ false
    by_test true done = absurd (by_seen (nat_lt id.commit row.floor) refl done)
    by_test false done = refl

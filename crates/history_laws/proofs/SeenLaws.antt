-- What may follow a beginning that has seen the last claim of an interval may follow the whole history.
use Rattle.std.proofs.Common.{◌≡◌, ◌≢◌, ℕ, ◌<◌, Bool, true, false, List, [], ◌∷◌, ◌++◌, length, take, drop, fold, refl, sym, ◌∙◌, ap, subst, arith, append_assoc, length-append}
use Rattle.std.specs.Prelude.{Option, Some, None, IsSome, IsNone, filter, not, ◌||◌, slice_get}
use Rattle.std.specs.Option.{option_map}
use Rattle.std.specs.List.{AllByRecursion}
use Rattle.std.proofs.lemmas.List.{append-nil, take-append-drop}
use Rattle.std.proofs.lemmas.List.Folds.{list_any-append}
use Rattle.std.proofs.lemmas.List.Elements.{recursion_from_All}
use Rattle.list_lemmas.proofs.Places.{each-behind}
use Rattle.mw_types.specs.declared.identity.RecordId.{RecordId}
use Rattle.mw_types.specs.declared.identity.RowName.{RowName}
use Rattle.mw_types.specs.declared.delivery.Delivery.{Delivery}
use Rattle.mw_types.specs.declared.entry.Entry.{Entry}
use Rattle.mw_types.specs.declared.entry.Entry.TheVariants.{Claim, Inject, Handle, Fire, Ack, Purge}
use Rattle.topology.specs.Shapes.{Shape}
use Rattle.computations.specs.Handlers.{OfRecord, OfTimer}
use Rattle.row_parts.specs.Contents.{Contents, same_id, cursor_in, found_delivery}
use Rattle.run_history.specs.Cases.{CaseShape}
use Rattle.run_history.specs.Made.{row_written, deliveries_of}
use Rattle.run_history.specs.Runs.{Run, run_of, row_of, followed}
use Rattle.run_history.specs.Legal.{MayFollow, MayClaim, IsLegal, outcome_of}
use Rattle.run_history.proofs.RunLaws.{IsLegal-push}
use Rattle.run_history.specs.Fences.{interval_of, sequencer_of, last_claim, IsFenced, HasSeen, HasSeenAll, IsWriteUnder}
use Rattle.run_history.specs.Finished.{handles, is_handled}
use Rattle.history_laws.specs.Ids.{is_left}
use Rattle.run_history.specs.Inputs.{IsRunnable}
use Rattle.history_laws.specs.Writes.{IsSeenWrite, IsLegalAndFenced}
use Rattle.list_lemmas.proofs.Lists.{some_same, find-each, find-kept, find-more, find-passes, filter-passes}
use Rattle.history_laws.proofs.Along.{run_of-append, AreLegal-apart}
use Rattle.history_laws.proofs.FloorLaws.{floor_of-rises}
use Rattle.history_laws.proofs.IdLaws.{same_id-true, WasMade, legal-ids, waits_as_made}
use Rattle.history_laws.proofs.FinishedLaws.{is_handled-more, handled-waits_not}
use Rattle.history_laws.proofs.Caused.{caused-there, caused-fire}
use Rattle.history_laws.proofs.FenceLaws.{claim-within, row_in-seen, row_of-seen}
use Rattle.run_history.proofs.Claims.{last_claim-front}
use Rattle.run_history.proofs.Fenced.{carried, IsFenced-push, IsFenced-begins, claim-under, entry-under}
use Rattle.history_laws.proofs.LowLaws.{low_watermark-rises}
use Rattle.history_laws.proofs.SentLaws.{pending-handled}

-- ---- from a beginning to the whole

-- what was made stays made
made-fold : (shape : Shape) (rest : List Entry) (run : Run)
    → (more : List Delivery) × ((fold (followed shape) run rest).made ≡ run.made ++ more)
made-fold shape [] run = ([], sym (append-nil run.made))
made-fold shape (e ∷ es) run =
    let sent = deliveries_of shape run.made run.next e in
    let later = made-fold shape es (followed shape run e) in (sent ++ later.0, later.1 ∙ append_assoc run.made sent later.0)

-- a delivery that was made in a beginning was made in the whole
pub found-more : (shape : Shape) (front rest : List Entry) (id : RecordId) (d : Delivery)
    → found_delivery id (run_of shape front).made ≡ Some d
    → found_delivery id (run_of shape (front ++ rest)).made ≡ Some d
found-more shape front rest id d found =
    let more = made-fold shape rest (run_of shape front) in
    ap (λ (r : Run). found_delivery id r.made) (run_of-append shape front rest)
    ∙ ap (found_delivery id) more.1
    ∙ find-more (λ (e : Delivery). same_id e.id id) (run_of shape front).made more.0 d found

-- an entry is on no row of the interval
abbrev pub Spares : Shape → ℕ → Entry → Type 0
Spares shape interval entry = (name : RowName) → row_written entry ≡ Some name → interval_of shape name ≡ Some interval → ⊥

-- after a beginning that has seen the last claim of an interval no entry is on a row of the interval
spares-rest : (shape : Shape) (interval s : ℕ) (rest front : List Entry) → IsFenced shape (front ++ rest)
    → last_claim interval (front ++ rest) ≡ Some s
    → s < length front → AllByRecursion (λ e. sequencer_of e ≢ Some s) rest → AllByRecursion (Spares shape interval) rest
spares-rest shape interval s [] front fenced last within none = tt
spares-rest shape interval s (e ∷ es) front fenced last within none =
    let again : (front ++ e ∷ []) ++ es ≡ front ++ e ∷ es = append_assoc front (e ∷ []) es in (
      (λ name written lies. none.0 (carried shape front e name interval s (fenced front e (es, again)) written lies
          (last_claim-front interval s front (e ∷ es) last within))),
      spares-rest shape interval s es (front ++ e ∷ []) (subst (IsFenced shape) (sym again) fenced) (ap (last_claim interval) again ∙ last)
          (omega (arith, within, length-append front (e ∷ []))) none.1,
    )

-- and so by the beginning as it has seen the claim
pub spares-seen : (shape : Shape) (interval seq : ℕ) (front rest : List Entry) → IsFenced shape (front ++ rest)
    → HasSeen interval seq front rest
    → AllByRecursion (Spares shape interval) rest
spares-seen shape interval seq front rest fenced seen =
    spares-rest shape interval seq rest front fenced seen.last (claim-within interval seq front rest seen.all)
    (recursion_from_All (λ (e : Entry). sequencer_of e ≢ Some seq) rest seen.all.own)

-- entries that spare an interval handle no delivery to one of its rows
handles-none : (shape : Shape) (interval : ℕ) (made : List Delivery) (d : Delivery) (entries : List Entry)
    → found_delivery d.id made ≡ Some d
    → interval_of shape d.to ≡ Some interval → AllByRecursion (WasMade made) entries → AllByRecursion (Spares shape interval) entries
    → is_handled d.id entries ≡ false
handles-none shape interval made d [] found lies was spared = refl
handles-none shape interval made d (e ∷ es) found lies was spared =
    ap (λ b. b || is_handled d.id es) (here e was.0 spared.0) ∙ handles-none shape interval made d es found lies was.1 spared.1
  where
    here : (entry : Entry) → WasMade made entry → Spares shape interval entry → handles d.id entry ≡ false
    here (Claim worker i) was spared = refl
    here (Inject seq part line item) was spared = refl
    here (Handle seq row id effects) was spared = elim (same_id d.id id) as (λ t. same_id d.id id ≡ t → t ≡ false) [
      | false ↦ λ _. refl
      | true ↦ λ same.
          let one : was.0 ≡ d = some_same was.0 d (sym was.1
          ∙ ap (λ (i : RecordId). found_delivery i made) (sym (same_id-true d.id id same)) ∙ found) in
          let to : d.to ≡ row = ap (λ (e : Delivery). e.to) (sym one) ∙ was.2 in
          absurd (spared row refl (ap (interval_of shape) (sym to) ∙ lies))
    ] refl
    here (Fire seq row timer mark effects) was spared = refl
    here (Ack seq row id) was spared = refl
    here (Purge seq row floor) was spared = refl

-- a delivery to a row of the interval that waits after the beginning waits after the whole
pub waits-seen : (case : CaseShape) (front rest : List Entry) (interval seq : ℕ) (id : RecordId) (d : Delivery)
    → IsLegal case (front ++ rest)
    → IsFenced case.topology (front ++ rest) → HasSeen interval seq front rest → interval_of case.topology d.to ≡ Some interval
    → found_delivery id (run_of case.topology front).unhandled ≡ Some d
    → found_delivery id (run_of case.topology (front ++ rest)).unhandled ≡ Some d
waits-seen case front rest interval seq id d legal fenced seen lies waits =
    let shape = case.topology in
    let before = legal-ids case front (AreLegal-apart case front rest Rattle.run_history.specs.Runs.empty_run legal).0 in
    let after = legal-ids case (front ++ rest) legal in
    let made = (run_of shape (front ++ rest)).made in
    let was_made : found_delivery id (run_of shape front).made ≡ Some d = waits_as_made front (run_of shape front) id d before waits in
    let found : found_delivery id made ≡ Some d = found-more shape front rest id d was_made in
    let own : d.id ≡ id = same_id-true d.id id (find-passes (λ (e : Delivery). same_id e.id id) made d found) in
    let left : is_left front d ≡ true = find-each (λ (e : Delivery). is_left front e ≡ true) (λ (e : Delivery). same_id e.id id)
    (filter (is_left front) (run_of shape front).made) d
    (filter-passes (is_left front) (run_of shape front).made)
    (subst (λ (l : List Delivery). found_delivery id l ≡ Some d) before.waiting waits) in
    let none : is_handled d.id rest ≡ false = handles-none shape interval made d rest
    (ap (λ (i : RecordId). found_delivery i made) own ∙ found) lies
    (each-behind (WasMade made) front rest after.handled) (spares-seen shape interval seq front rest fenced seen) in
    subst (λ (l : List Delivery). found_delivery id l ≡ Some d) (sym after.waiting)
    (find-kept (λ (e : Delivery). same_id e.id id) (is_left (front ++ rest)) made d found
    (ap not (list_any-append (handles d.id) front rest ∙ ap (λ b. is_handled d.id front || b) none) ∙ still (is_handled d.id front) left))
  where
    still : (b : Bool) → not b ≡ true → not (b || false) ≡ true
    still true e = cc
    still false e = refl

-- ---- what may follow

-- what may follow a beginning that has seen the last claim of the interval of an entry's row may follow the whole
pub MayFollow-seen : (case : CaseShape) (front rest : List Entry) (interval seq : ℕ) (entry : Entry) → IsRunnable case
    → IsLegal case (front ++ rest)
    → IsFenced case.topology (front ++ rest) → HasSeen interval seq front rest → IsWriteUnder case.topology interval seq entry
    → MayFollow case (run_of case.topology front) entry → MayFollow case (run_of case.topology (front ++ rest)) entry
MayFollow-seen case front rest interval seq entry runs legal fenced seen under may = by_kind entry under may
  where
    shape : Shape
    shape = case.topology

    -- the row of the entry is the same
    row-same : (name : RowName) → interval_of shape name ≡ Some interval
        → row_of shape (run_of shape (front ++ rest)) name ≡ row_of shape (run_of shape front) name
    row-same name lies = row_of-seen shape interval seq front rest fenced seen name lies

    -- the interval of the row that an entry is on
    lies-in : (row name : RowName) → Some row ≡ Some name → interval_of shape name ≡ Some interval → interval_of shape row ≡ Some interval
    lies-in row name same lies = ap (interval_of shape) (some_same row name same) ∙ lies

    some-none : (o : Option Delivery) → IsNone o → o ≡ None
    some-none None is = refl
    some-none (Some d) is = absurd (cc)

    by_kind : (entry : Entry) → IsWriteUnder shape interval seq entry → MayFollow case (run_of shape front) entry
        → MayFollow case (run_of shape (front ++ rest)) entry
    by_kind (Claim worker claimed) under may = may
    by_kind (Inject carried part line item) under may =
        let name : RowName = record { part = part; key = [] } in record {
          injector = may.injector;
          next_line = may.next_line ∙ sym (ap (λ (c : Contents). cursor_in c.state)
              (row-same name (lies-in name under.name under.on_row under.of_interval)));
          of_line = may.of_line;
        }
    by_kind (Handle carried row id effects) under may =
        let lies : interval_of shape row ≡ Some interval = lies-in row under.name under.on_row under.of_interval in record {
          delivery = may.delivery;
          waits = waits-seen case front rest interval seq id may.delivery legal fenced seen
              (ap (interval_of shape) may.to_row ∙ lies) may.waits;
          to_row = may.to_row;
          does = ap (λ (c : Contents). outcome_of case row c (OfRecord may.delivery.item)) (row-same row lies) ∙ may.does;
        }
    by_kind (Fire carried row timer mark effects) under may =
        let lies : interval_of shape row ≡ Some interval = lies-in row under.name under.on_row under.of_interval in
        let there = caused-there case (run_of shape front) _ row _ effects
        (caused-fire case (run_of shape front) carried row timer mark effects row may refl) in
        let rises = low_watermark-rises case front rest row.part runs legal (omega (arith, there)) in
        let under_mark = may.under_watermark in record {
          least_timer = ap (λ (c : Contents). slice_get c.timers 0) (row-same row lies) ∙ may.least_timer;
          due = may.due;
          under_watermark = omega (arith, rises, under_mark);
          does = ap (λ (c : Contents). outcome_of case row c (OfTimer timer)) (row-same row lies) ∙ may.does;
        }
    by_kind (Ack carried row id) under may =
        let lies : interval_of shape row ≡ Some interval = lies-in row under.name under.on_row under.of_interval in record {
          pending = subst (λ (c : Contents). IsSome (found_delivery id c.pending)) (sym (row-same row lies)) may.pending;
          handled = still-handled row id lies may.pending (some-none (found_delivery id (run_of shape front).unhandled) may.handled);
        }
      where
        still-handled : (row : RowName) (id : RecordId) → interval_of shape row ≡ Some interval
            → IsSome (found_delivery id (row_of shape (run_of shape front) row).pending)
            → found_delivery id (run_of shape front).unhandled ≡ None → IsNone (found_delivery id (run_of shape (front ++ rest)).unhandled)
        still-handled row id lies pending none =
            let d = was-there (found_delivery id (row_of shape (run_of shape front) row).pending) pending in
            let before = (AreLegal-apart case front rest Rattle.run_history.specs.Runs.empty_run legal).0 in
            ap Rattle.std.specs.Option.is_some (handled-waits_not case (front ++ rest) id legal
            (is_handled-more id front rest (pending-handled case front row id d.0 before d.1 none)))
          where
            was-there : (o : Option Delivery) → IsSome o → (d : Delivery) × (o ≡ Some d)
            was-there None is = absurd (cc)
            was-there (Some d) is = (d, refl)
    by_kind (Purge carried row floor) under may =
        let lies : interval_of shape row ≡ Some interval = lies-in row under.name under.on_row under.of_interval in
        let rises = floor_of-rises shape front rest in
        let finished = may.finished in record {
          there = subst IsSome (sym (row_in-seen shape interval seq front rest fenced seen row lies)) may.there;
          rises = subst (λ (c : Contents). c.floor < floor) (sym (row-same row lies)) may.rises;
          finished = omega (arith, rises, finished);
        }

-- ---- one more write

-- a write that may follow a beginning that has seen the claim keeps the whole history legal
pub IsLegal-seen : (case : CaseShape) (front rest : List Entry) (interval seq : ℕ) (entry : Entry) → IsRunnable case
    → IsLegal case (front ++ rest)
    → IsFenced case.topology (front ++ rest) → HasSeen interval seq front rest → IsWriteUnder case.topology interval seq entry
    → MayFollow case (run_of case.topology front) entry → IsLegal case ((front ++ rest) ++ entry ∷ [])
IsLegal-seen case front rest interval seq entry runs legal fenced seen under may =
    IsLegal-push case (front ++ rest) entry legal (MayFollow-seen case front rest interval seq entry runs legal fenced seen under may)

-- and fenced
pub IsFenced-seen : (shape : Shape) (front rest : List Entry) (interval seq : ℕ) (entry : Entry)
    → IsFenced shape (front ++ rest) → HasSeen interval seq front rest → IsWriteUnder shape interval seq entry
    → IsFenced shape ((front ++ rest) ++ entry ∷ [])
IsFenced-seen shape front rest interval seq entry fenced seen under =
    IsFenced-push shape (front ++ rest) entry fenced
    (entry-under shape (front ++ rest) entry under.name interval seq under.on_row under.of_interval seen.last under.carries)

-- a write that was worked out on a beginning keeps the whole legal and fenced
pub IsLegalAndFenced-seen : (case : CaseShape) (front rest : List Entry) (interval seq : ℕ) (entry : Entry) → IsRunnable case
    → IsSeenWrite case front rest interval seq entry → IsLegalAndFenced case ((front ++ rest) ++ entry ∷ [])
IsLegalAndFenced-seen case front rest interval seq entry runs write = record {
  legal = IsLegal-seen case front rest interval seq entry runs write.history.legal write.history.fenced write.seen write.under write.may;
  fenced = IsFenced-seen case.topology front rest interval seq entry write.history.fenced write.seen write.under;
}

-- and so does a claim
pub IsLegalAndFenced-claim : (case : CaseShape) (history : List Entry) (worker interval : ℕ) → IsLegalAndFenced case history
    → MayClaim case worker interval
    → IsLegalAndFenced case (history ++ Claim worker interval ∷ [])
IsLegalAndFenced-claim case history worker interval lawful may = record {
  legal = IsLegal-push case history (Claim worker interval) lawful.legal may;
  fenced = IsFenced-push case.topology history (Claim worker interval) lawful.fenced (claim-under case.topology history worker interval);
}

-- a beginning of a legal and fenced history is legal and fenced
pub IsLegalAndFenced-front : (case : CaseShape) (front rest : List Entry) → IsLegalAndFenced case (front ++ rest)
    → IsLegalAndFenced case front
IsLegalAndFenced-front case front rest lawful = record {
  legal = (AreLegal-apart case front rest Rattle.run_history.specs.Runs.empty_run lawful.legal).0;
  fenced = IsFenced-begins case.topology front (front ++ rest) (rest, refl) lawful.fenced;
}

-- the history up to a number has seen the last claim, where it has seen all of a claim that is the last
pub HasSeen-take : (interval seq n : ℕ) (history : List Entry) → last_claim interval history ≡ Some seq
    → HasSeenAll interval seq (take n history) (drop n history) → HasSeen interval seq (take n history) (drop n history)
HasSeen-take interval seq n history last all = record {
  all = all;
  last = ap (last_claim interval) (take-append-drop n history) ∙ last;
}

-- How much work is left: what one more entry makes of it, and that a finished run is done.
use Rattle.std.proofs.Common.{◌≡◌, ◌≢◌, ℕ, zero, suc, ◌+◌, ◌<◌, ◌≤◌, Bool, true, false, cond, ◌&&◌, ◌==◌, List, [], ◌∷◌, ◌++◌, length, refl, sym, ◌∙◌, ap, subst, arith, inl, inr}
use Rattle.std.specs.Prelude.{Option, Some, None, filter, nat_lt}
use Rattle.std.specs.Option.{option_map_or}
use Rattle.std.specs.List.{AllByRecursion, flat_map, range_with_len}
use Rattle.std.proofs.lemmas.Bool.{ltb-true, ltb-false, lt-ltb, cases_lt, ne_eqb}
use Rattle.std.proofs.lemmas.Option.{slice_get_within}
use Rattle.list_lemmas.proofs.Places.{range-each}
use Rattle.mw_types.specs.declared.identity.RowName.{RowName}
use Rattle.mw_types.specs.declared.record.Record.{Record}
use Rattle.mw_types.specs.declared.kind.Kind.{Kind}
use Rattle.mw_types.specs.declared.state.State.{State}
use Rattle.mw_types.specs.declared.state.State.TheVariants as states
use Rattle.mw_types.specs.declared.delivery.Delivery.{Delivery}
use Rattle.mw_types.specs.declared.entry.Entry.{Entry}
use Rattle.mw_types.specs.declared.entry.Entry.TheVariants.{Inject, Handle, Fire}
use Rattle.topology.specs.Shapes.{kind_of, injectors_of}
use Rattle.row_parts.specs.Contents.{Contents, cursor_in, found_delivery}
use Rattle.run_history.specs.Cases.{CaseShape, is_injector, source_of}
use Rattle.run_history.specs.Made.{row_written, deliveries_of}
use Rattle.run_history.specs.Runs.{Run, run_of, row_of, followed, changed, advanced, empty_run}
use Rattle.run_history.specs.Watermarks.{cursor_of}
use Rattle.run_history.specs.Legal.{MayFollow, IsLegal, IsDone}
use Rattle.run_history.specs.Finished.{all_pending, all_timers, has_line, injectors_left, unfinished, IsFinished, row_has_line, work_in}
use Rattle.history_laws.specs.Ids.{IsSentBy}
use Rattle.list_lemmas.proofs.Lists.{none_some, some_same}
use Rattle.history_laws.proofs.Along.{along_history}
use Rattle.history_laws.proofs.FeedLaws.{injector-no_kind}
use Rattle.history_laws.proofs.PendingLaws.{legal-sent}
use Rattle.history_laws.proofs.Caused.{caused-handle, caused-fire, caused-no_injector}
use Rattle.history_laws.proofs.RowSteps.{row_of-step, row_of-each, row_of-elsewhere, made_row}
use Rattle.history_laws.proofs.LowLaws.{AreRowsInOrder}
use Rattle.history_laws.proofs.StoredLaws.{count-followed}
use Rattle.history_laws.proofs.StampLaws.{line_of}

-- ---- injectors

-- no row of an injector has injected more lines than the injector's file has
pub record AreCursorsWithin (case : CaseShape) (run : Run) : Type 0 where
  pub each : (name : RowName) → is_injector case.topology name.part ≡ true
      → cursor_in (row_of case.topology run name).state ≤ length (source_of case name.part)

-- a state that is one line further is at most one line further
pub advanced-within : (s : State) → cursor_in (advanced s) ≤ cursor_in s + 1
advanced-within (states.Injector cursor) = omega arith
advanced-within (states.Count late windows) = omega arith
advanced-within (states.Spike late held known) = omega arith
advanced-within (states.Pass late) = omega arith

-- a line that may be injected is within the file
line-within : (case : CaseShape) (run : Run) (seq part line : ℕ) (item : Record) → MayFollow case run (Inject seq part line item)
    → line < length (source_of case part)
line-within case run seq part line item may =
    let l = line_of (source_of case part) line item may.of_line in slice_get_within (source_of case part) line l.0 l.1

-- the cursor that an entry leaves in its row is within the file
changed-within : (case : CaseShape) (run : Run) (entry : Entry) (sent : List Delivery) (name : RowName) → MayFollow case run entry
    → is_injector case.topology name.part ≡ true
    → row_written entry ≡ Some name → cursor_in (row_of case.topology run name).state ≤ length (source_of case name.part)
    → cursor_in (changed entry sent (row_of case.topology run name)).state ≤ length (source_of case name.part)
changed-within case run (Inject seq other line item) sent name may is written old =
    subst (λ (n : RowName). cursor_in (advanced (row_of case.topology run n).state) ≤ length (source_of case n.part))
    (some_same (record { part = other; key = [] }) name written)
    (let within = line-within case run seq other line item may in
    let next = may.next_line in
    let step = advanced-within (row_of case.topology run (record { part = other; key = [] })).state in
    omega (arith, within, next, step))
changed-within case run (Handle seq row id effects) sent name may is written old =
    absurd (caused-no_injector case run _ name _ effects (caused-handle case run seq row id effects name may written) is)
changed-within case run (Fire seq row timer mark effects) sent name may is written old =
    absurd (caused-no_injector case run _ name _ effects (caused-fire case run seq row timer mark effects name may written) is)
changed-within case run _ sent name may is written old = old

-- after each legal history no row of an injector has injected more lines than the injector's file has
pub legal-within : (case : CaseShape) (history : List Entry) → IsLegal case history → AreCursorsWithin case (run_of case.topology history)
legal-within case = along_history case (λ done run. AreCursorsWithin case run)
    (λ done run entry within may. record {
      each = λ name is. row_of-step case.topology run entry name
          (λ (c : Contents). cursor_in c.state ≤ length (source_of case name.part)) (within.each name is)
          (λ written. changed-within case run entry (deliveries_of case.topology run.made run.next entry) name may is written
          (within.each name is));
    })
    (record { each = λ name is. start name is })
  where
    start : (name : RowName) → is_injector case.topology name.part ≡ true
        → cursor_in (row_of case.topology empty_run name).state ≤ length (source_of case name.part)
    start name is = let none : cursor_in (row_of case.topology empty_run name).state ≡ 0 = at_first
        (kind_of case.topology name.part) refl in omega (arith, none)
      where
        at_first : (o : Option Kind) → kind_of case.topology name.part ≡ o
            → cursor_in (option_map_or Rattle.computations.specs.Handlers.fresh_state o (states.Injector 0)) ≡ 0
        at_first None of = refl
        at_first (Some kind) of = absurd (injector-no_kind case.topology name.part kind is of)

-- ---- a finished run

-- lists of which nothing comes are empty each
pub flat_map-nil : {A X : Type 0} (f : A → List X) (rows : List A) → flat_map f rows ≡ [] → AllByRecursion (λ a. f a ≡ []) rows
flat_map-nil f [] none = tt
flat_map-nil {A} {X} f (a ∷ rows) none = let parts = both (f a) none in (parts.0, flat_map-nil f rows parts.1)
  where
    both : (xs : List X) → xs ++ flat_map f rows ≡ [] → (xs ≡ []) × (flat_map f rows ≡ [])
    both [] e = (refl, e)
    both (x ∷ xs) e = cc

-- a list of no length is empty
pub no_length : {X : Type 0} (xs : List X) → length xs ≡ 0 → xs ≡ []
no_length [] none = refl
no_length (x ∷ xs) none = absurd (omega (arith, none))

-- where a filter leaves nothing, nothing passes
pub filter-nil : {X : Type 0} (test : X → Bool) (xs : List X) → filter test xs ≡ [] → AllByRecursion (λ x. test x ≡ false) xs
filter-nil test [] none = tt
filter-nil test (x ∷ xs) none =
    elim (test x) as (λ b. test x ≡ b → cond b (x ∷ filter test xs) (filter test xs) ≡ [] → AllByRecursion (λ y. test y ≡ false) (x ∷ xs)) [
      | true ↦ λ e f. cc
      | false ↦ λ e f. (e, filter-nil test xs f)
    ] refl none

-- a finished run is done
pub finished-done : (case : CaseShape) (history : List Entry) → IsLegal case history → IsFinished case (run_of case.topology history)
    → IsDone case (run_of case.topology history)
finished-done case history legal finished = record {
  injected = λ part less.
      let within = (legal-within case history legal).each (record { part = part; key = [] })
      (lt-ltb part (injectors_of case.topology) less) in
      let past = ltb-false (cursor_of case run part) (length (source_of case part))
      (range-each (λ part. has_line case run part ≡ false) 0 (injectors_of case.topology) part
      (filter-nil (has_line case run) (range_with_len 0 (injectors_of case.topology))
      (no_length (injectors_left case run) (omega (arith, finished)))) (omega arith) (omega (arith, less))) in
      omega (arith, within, past);
  handled = none_waits run.unhandled (legal-sent case history legal).each;
  fired = flat_map-nil (λ (r : RowName × Contents). r.1.timers) run.rows (no_length (all_timers run) (omega (arith, finished)));
}
  where
    run : Run
    run = run_of case.topology history

    none_pending : AllByRecursion (λ (r : RowName × Contents). r.1.pending ≡ []) run.rows
    none_pending = flat_map-nil (λ (r : RowName × Contents). r.1.pending) run.rows (no_length (all_pending run) (omega (arith, finished)))

    none_waits : (ds : List Delivery) → AllByRecursion (IsSentBy case.topology run) ds → ds ≡ []
    none_waits [] each = refl
    none_waits (d ∷ ds) each =
        let by = each.0 in
        let none : (row_of case.topology run by.sender).pending ≡ [] = row_of-each case.topology run by.sender
        (λ (c : Contents). c.pending ≡ []) none_pending refl in
        absurd (none_some d (sym (ap (found_delivery d.id) none) ∙ by.pending))

-- ---- one more entry

-- how many pass, by tests that agree on a range
range-agree : (p q : ℕ → Bool) (a n : ℕ) → ((m : ℕ) → a ≤ m → m < a + n → p m ≡ q m)
    → filter p (range_with_len a n) ≡ filter q (range_with_len a n)
range-agree p q a zero same = refl
range-agree p q a (suc n) same =
    ap (λ b. cond b (a ∷ filter p (range_with_len (a + 1) n)) (filter p (range_with_len (a + 1) n))) (same a (omega arith) (omega arith))
    ∙ ap (λ l. cond (q a) (a ∷ l) l) (range-agree p q (a + 1) n (λ m from to. same m (omega (arith, from)) (omega (arith, to))))

-- one where a test passes, and else none
abbrev one_if : Bool → ℕ
one_if b = cond b 1 0

-- how many pass, with one more in front
length-filter-cons : {X : Type 0} (p : X → Bool) (x : X) (xs : List X) → length (filter p (x ∷ xs)) ≡ one_if (p x) + length (filter p xs)
length-filter-cons p x xs = elim (p x) as (λ b. length (cond b (x ∷ filter p xs) (filter p xs)) ≡ one_if b + length
    (filter p xs)) [ true ↦ omega arith | false ↦ omega arith ]

-- how many pass, by tests that agree on a range but at one number
range-but_one : (p q : ℕ → Bool) (a n k : ℕ) → ((m : ℕ) → m ≢ k → p m ≡ q m) → a ≤ k → k < a + n
    → length (filter q (range_with_len a n)) + one_if (p k) ≡ length (filter p (range_with_len a n)) + one_if (q k)
range-but_one p q a zero k same from to = absurd (omega (arith, from, to))
range-but_one p q a (suc n) k same from to = elim (cases_lt a k) [
  | inl less ↦
      let agree : p a ≡ q a = same a (λ e. omega (arith, e, less)) in
      let ones : one_if (p a) ≡ one_if (q a) = ap one_if agree in
      omega (
        arith,
        ones,
        range-but_one p q (a + 1) n k same (omega (arith, less)) (omega (arith, to)),
        length-filter-cons p a (range_with_len (a + 1) n),
        length-filter-cons q a (range_with_len (a + 1) n),
      )
  | inr le ↦
      let here : a ≡ k = omega (arith, from, le) in
      let rest : length (filter p (range_with_len (a + 1) n)) ≡ length (filter q (range_with_len (a + 1) n)) =
      ap length (range-agree p q (a + 1) n (λ m above below. same m (λ e. omega (arith, e, above, here)))) in
      let one_p : one_if (p a) ≡ one_if (p k) = ap (λ m. one_if (p m)) here in
      let one_q : one_if (q a) ≡ one_if (q k) = ap (λ m. one_if (q m)) here in
      omega (
        arith,
        rest,
        one_p,
        one_q,
        length-filter-cons p a (range_with_len (a + 1) n),
        length-filter-cons q a
            (range_with_len (a + 1) n),
      )
]

-- an injector of another row has its lines left as before
has_line-elsewhere : (case : CaseShape) (run : Run) (entry : Entry) (part : ℕ)
    → (row_written entry ≡ Some (record { part = part; key = [] }) → ⊥)
    → has_line case run part ≡ has_line case (followed case.topology run entry) part
has_line-elsewhere case run entry part apart =
    ap (λ (c : Contents). nat_lt (cursor_in c.state) (length (source_of case part)))
    (sym (row_of-elsewhere case.topology run entry (record { part = part; key = [] }) apart))

-- the row of a part and a key
abbrev at_key : ℕ → List ℕ → RowName
at_key part key = record { part = part; key = key }

-- the injectors that have a line left, by the row that an entry is on
lines-followed : (case : CaseShape) (run : Run) (entry : Entry) (name : RowName) → row_written entry ≡ Some name
    → length (injectors_left case (followed case.topology run entry)) + one_if (row_has_line case name (row_of case.topology run name))
    ≡ length (injectors_left case run) + one_if (row_has_line case name (row_of case.topology (followed case.topology run entry) name))
lines-followed case run entry name written = by_key name.key name.part written
  where
    after : Run
    after = followed case.topology run entry

    lines : ℕ
    lines = injectors_of case.topology

    same_lines : ((m : ℕ) → m < lines → row_written entry ≡ Some (record { part = m; key = [] }) → ⊥)
        → length (injectors_left case run) ≡ length (injectors_left case after)
    same_lines apart = ap length (range-agree (has_line case run) (has_line case after) 0 lines
        (λ m from to. has_line-elsewhere case run entry m (apart m (omega (arith, to)))))

    by_injector : (part : ℕ) (b : Bool) → nat_lt part lines ≡ b → row_written entry ≡ Some (record { part = part; key = [] })
        → length (injectors_left case after) + one_if (b && true && has_line case run part)
        ≡ length (injectors_left case run) + one_if (b && true && has_line case after part)
    by_injector part true is on = range-but_one (has_line case run) (has_line case after) 0 lines part
        (λ m other. has_line-elsewhere case run entry m
        (λ e. other (ap (λ (n : RowName). n.part)
        (some_same (record { part = m; key = [] }) (record { part = part; key = [] }) (sym e ∙ on)))))
        (omega arith) (let less = ltb-true part lines is in omega (arith, less))
    by_injector part false is on =
        let past = ltb-false part lines is in
        let same = same_lines (λ m less e.
        let one : m ≡ part = ap (λ (n : RowName). n.part)
        (some_same (record { part = m; key = [] }) (record { part = part; key = [] }) (sym e ∙ on)) in
        omega (arith, one, less, past)) in omega (arith, same)

    none : (b t c : Bool) → t ≡ false → (b && t && c) ≡ false
    none false t c is = refl
    none true false c is = refl
    none true true c is = cc

    some_key : (b : ℕ) (bs : List ℕ) → (length (b ∷ bs) == 0) ≡ false
    some_key b bs = ne_eqb (length (b ∷ bs)) 0 (λ e. omega (arith, e))

    other_key : (m part b : ℕ) (bs : List ℕ) → Some (at_key m []) ≡ Some (at_key part (b ∷ bs)) → ⊥
    other_key m part b bs e = unlike (ap (λ (n : RowName). length n.key) (some_same (at_key m []) (at_key part (b ∷ bs)) e))
      where
        unlike : 0 ≡ length (b ∷ bs) → ⊥
        unlike e = omega (arith, e)

    by_key : (key : List ℕ) (part : ℕ) → row_written entry ≡ Some (record { part = part; key = key })
        → length (injectors_left case after) + one_if
        (row_has_line case (record { part = part; key = key }) (row_of case.topology run (record { part = part; key = key })))
        ≡ length (injectors_left case run) + one_if
        (row_has_line case (record { part = part; key = key }) (row_of case.topology after (record { part = part; key = key })))
    by_key [] part on = by_injector part (nat_lt part lines) refl on
    by_key (b ∷ bs) part on =
        let same = same_lines (λ m less e. other_key m part b bs (sym e ∙ on)) in
        let old : one_if (row_has_line case (record { part = part; key = b ∷ bs })
        (row_of case.topology run (record { part = part; key = b ∷ bs }))) ≡ 0 =
        ap one_if (none (is_injector case.topology part) (length (b ∷ bs) == 0) _ (some_key b bs)) in
        let new : one_if (row_has_line case (record { part = part; key = b ∷ bs })
        (row_of case.topology after (record { part = part; key = b ∷ bs }))) ≡ 0 =
        ap one_if (none (is_injector case.topology part) (length (b ∷ bs) == 0) _ (some_key b bs)) in
        omega (arith, same, old, new)

-- an entry changes how much work is left by what it changes in its row
pub unfinished-followed : (case : CaseShape) (run : Run) (entry : Entry) (name : RowName) → AreRowsInOrder run
    → row_written entry ≡ Some name
    → unfinished case (followed case.topology run entry) + work_in case name (row_of case.topology run name)
    ≡ unfinished case run + work_in case name (row_of case.topology (followed case.topology run entry) name)
unfinished-followed case run entry name order written =
    let pending = count-followed case.topology run entry name (λ (c : Contents). c.pending) order written refl in
    let timers = count-followed case.topology run entry name (λ (c : Contents). c.timers) order written refl in
    let lines = lines-followed case run entry name written in
    omega (arith, pending, timers, lines)

-- an entry on no row leaves how much work is left
pub unfinished-kept : (case : CaseShape) (run : Run) (entry : Entry) → row_written entry ≡ None
    → unfinished case (followed case.topology run entry) ≡ unfinished case run
unfinished-kept case run entry none =
    let rows : (followed case.topology run entry).rows ≡ run.rows =
    ap (λ w. option_map_or (λ (n : RowName). Rattle.std.specs.BTreeMap.insert_entry Rattle.mw_types.specs.Orders.row_cmp run.rows n
    (made_row case.topology run entry n)) w run.rows) none in
    let pending : length (all_pending (followed case.topology run entry)) ≡ length (all_pending run) = ap
    (λ (r : List (RowName × Contents)). length (flat_map (λ (e : RowName × Contents). e.1.pending) r)) rows in
    let timers : length (all_timers (followed case.topology run entry)) ≡ length (all_timers run) = ap
    (λ (r : List (RowName × Contents)). length (flat_map (λ (e : RowName × Contents). e.1.timers) r)) rows in
    let lines : length (injectors_left case run) ≡ length (injectors_left case (followed case.topology run entry)) =
    ap length (range-agree (has_line case run) (has_line case (followed case.topology run entry)) 0 (injectors_of case.topology)
    (λ m from to. has_line-elsewhere case run entry m (λ e. none_some (record { part = m; key = [] }) (sym none ∙ e)))) in
    omega (arith, pending, timers, lines)

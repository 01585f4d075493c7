-- The four numbers of a finished history are the plain ones.
use Rattle.std.proofs.Common.{◌≡◌, ℕ, ◌+◌, ◌<◌, ◌≤◌, ◌==◌, Bool, true, false, List, [], ◌∷◌, ◌++◌, length, map, Some, refl, sym, ◌∙◌, ap, subst, arith, append_assoc, length-append}
use Rattle.std.specs.Prelude.{nat_lt, count_by, option_to_list}
use Rattle.std.specs.List.{AllByRecursion, enumerate_from}
use Rattle.std.proofs.lemmas.Bool.{ltb-false}
use Rattle.std.proofs.lemmas.Bool.Decides.{nat_tests}
use Rattle.mw_types.specs.declared.identity.RowName.{RowName}
use Rattle.mw_types.specs.declared.record.Record.{Record}
use Rattle.mw_types.specs.declared.record.Production.{Production}
use Rattle.mw_types.specs.declared.kind.Kind.{Kind}
use Rattle.mw_types.specs.declared.delivery.Delivery.{Delivery}
use Rattle.mw_types.specs.declared.entry.Entry.{Entry}
use Rattle.mw_types.specs.declared.entry.Entry.TheVariants.{Claim, Inject, Handle, Fire, Ack, Purge}
use Rattle.injector.specs.Sources.{Source, SourceLine}
use Rattle.topology.specs.Shapes.{Shape, ComputationShape, injectors_of, kind_of}
use Rattle.run_history.specs.Cases.{CaseShape, record_of}
use Rattle.run_history.specs.Inputs.{IsRunnable}
use Rattle.run_history.specs.Made.{late_cause, produced}
use Rattle.run_history.specs.Runs.{Run, run_of}
use Rattle.run_history.specs.Legal.{MayFollow, IsLegal, IsDone}
use Rattle.run_history.specs.Texts.{is_inject, is_handle, is_fire, is_late}
use Rattle.history_laws.proofs.Caused.{caused-handle, caused-fire, caused-no_injector}
use Rattle.history_laws.proofs.FeedLaws.{injector-no_kind}
use Rattle.history_laws.proofs.PendingLaws.{kind-there}
use Rattle.list_lemmas.proofs.Lists.{each-append}
use Rattle.list_lemmas.proofs.Totals.{total, when, total-sum_by, total-append, total-push, total-map, total-length, total-count_by, total-each, total-same, total-swap, HaveSameTotals}
use Rattle.plain_answer.specs.Plain.{Keyed, members_read, plain_streams, plain_members, fires_of, fired_of, handled_of, sources_of, injected_of, injected_count, late_count}
use Rattle.plain_answer.specs.Stories.{Member, member_of, handled_by, added_by, done_of, out_of, fires_on}
use Rattle.plain_answer.proofs.Parts.{IsPlain, stream_total, kind_of-place, reads-plain, injectors-known}
use Rattle.plain_answer.proofs.Stories.{done-push, out-push, along_legal}
use Rattle.plain_answer.proofs.Taking.{reads_done, reads_done-total}

-- ---- one of some computations

-- a part that is before all of them is none of them
none-placed : (p n : ℕ) (cs : List ComputationShape) → p < n
    → total (λ (c : ℕ × ComputationShape). when (p == c.0) 1) (enumerate_from n cs) ≡ 0
none-placed p n [] less = refl
none-placed p n (c ∷ cs) less =
    let other : (p == n) ≡ false = grind (arith, nat_tests) in
    let later : p < n + 1 = omega (arith, less) in
    omega (arith, ap (λ b. when b 1) other, none-placed p (n + 1) cs later)

-- and a part among them is one of them
one-placed : (p n : ℕ) (cs : List ComputationShape) → n ≤ p → p < n + length cs
    → total (λ (c : ℕ × ComputationShape). when (p == c.0) 1) (enumerate_from n cs) ≡ 1
one-placed p n [] from to = absurd (omega (arith, from, to))
one-placed p n (c ∷ cs) from to = elim (p == n) as
    (λ b. (p == n) ≡ b → when b 1 + total (λ (c : ℕ × ComputationShape). when (p == c.0) 1) (enumerate_from (n + 1) cs) ≡ 1) [
      | true ↦ λ e.
          let less : p < n + 1 = grind (arith, nat_tests) in
          omega (arith, none-placed p (n + 1) cs less)
      | false ↦ λ e.
          let more : n + 1 ≤ p = grind (arith, nat_tests) in
          let within : p < n + 1 + length cs = omega (arith, to) in
          omega (arith, one-placed p (n + 1) cs more within)
    ] refl

-- a computation of a kind is among them
kind-placed : (shape : Shape) (part : ℕ) (kind : Kind) → kind_of shape part ≡ Some kind
    → total (λ (c : ℕ × ComputationShape). when (part == c.0) 1) (enumerate_from (injectors_of shape) shape.computations) ≡ 1
kind-placed shape part kind of = one-placed part (injectors_of shape) shape.computations (behind (nat_lt part (injectors_of shape)) refl)
    (kind-there shape part kind of)
  where
    behind : (b : Bool) → nat_lt part (injectors_of shape) ≡ b → injectors_of shape ≤ part
    behind true e = absurd (injector-no_kind shape part kind e of)
    behind false e = ltb-false part (injectors_of shape) e

-- what holds of each number and kind holds of the numbered computations
each-placed : (shape : Shape) (P : ℕ × ComputationShape → Type 0)
    → ((n : ℕ) (c : ComputationShape) → kind_of shape n ≡ Some c.kind → P (n, c))
    → (front cs : List ComputationShape) → shape.computations ≡ front ++ cs
    → AllByRecursion P (enumerate_from (injectors_of shape + length front) cs)
each-placed shape P holds front [] all = tt
each-placed shape P holds front (c ∷ cs) all =
    let longer : injectors_of shape + length (front ++ c ∷ [])
    ≡ injectors_of shape + length front + 1 = omega (arith, length-append front (c ∷ [])) in (
      holds (injectors_of shape + length front) c (kind_of-place shape front c cs all),
      subst (λ n. AllByRecursion P (enumerate_from n cs)) longer
          (each-placed shape P holds (front ++ c ∷ []) cs (all ∙ sym (append_assoc front (c ∷ []) cs))),
    )

-- ---- records that are handled

-- as many entries handle as records were handled
handles-length : (case : CaseShape) (h : List Entry) → IsLegal case h → total (λ e. when (is_handle e) 1) h
    ≡ length (done_of case.topology h)
handles-length case = along_legal case (λ h. total (λ e. when (is_handle e) 1) h ≡ length (done_of case.topology h))
    (λ h entry legal may was.
    omega (
      arith,
      was,
      total-push (λ e. when (is_handle e) 1) h entry,
      one (run_of case.topology h) entry may,
      ap length (done-push case.topology h entry),
      length-append (done_of case.topology h) (handled_by (run_of case.topology h) entry),
    ))
    refl
  where
    one : (run : Run) (entry : Entry) → MayFollow case run entry → when (is_handle entry) 1 ≡ length (handled_by run entry)
    one run (Handle seq row id effects) may = sym (ap (λ o. length (option_to_list o)) may.waits)
    one run _ may = refl

-- what is handled goes to one computation
abbrev IsPlaced : Shape → Delivery → Type 0
IsPlaced shape d = total (λ (c : ℕ × ComputationShape). when (d.to.part == c.0) 1)
    (enumerate_from (injectors_of shape) shape.computations) ≡ 1

-- each that was handled
done-placed : (case : CaseShape) (h : List Entry) → IsLegal case h → AllByRecursion (IsPlaced case.topology) (done_of case.topology h)
done-placed case = along_legal case (λ h. AllByRecursion (IsPlaced case.topology) (done_of case.topology h))
    (λ h entry legal may was.
    subst (AllByRecursion (IsPlaced case.topology)) (sym (done-push case.topology h entry))
    (each-append (IsPlaced case.topology) (done_of case.topology h) (handled_by (run_of case.topology h) entry) was
    (new (run_of case.topology h) entry may)))
    tt
  where
    new : (run : Run) (entry : Entry) → MayFollow case run entry → AllByRecursion (IsPlaced case.topology) (handled_by run entry)
    new run (Handle seq row id effects) may =
        let outcome = (caused-handle case run seq row id effects row may refl).outcome in
        subst (λ o. AllByRecursion (IsPlaced case.topology) (option_to_list o)) (sym may.waits) (
          kind-placed case.topology may.delivery.to.part outcome.kind
              (ap (λ (r : RowName). kind_of case.topology r.part) may.to_row ∙ outcome.of_part),
          tt,
        )
    new run _ may = tt

-- ---- timers that fire

-- what makes the timers of a part of a kind plain
abbrev pub FiresPlainly : CaseShape → List Entry → Type 0
FiresPlainly case h = (part : ℕ) (kind : Kind) → kind_of case.topology part ≡ Some kind → (ms : List Keyed)
    → HaveSameTotals (reads_done part (done_of case.topology h)) ms → total (fires_on part) h ≡ fires_of kind ms

-- each fire is on one computation
fires-placed : (case : CaseShape) (h : List Entry) → IsLegal case h
    → total (λ e. when (is_fire e) 1) h
    ≡ total (λ e. total (λ (c : ℕ × ComputationShape). fires_on c.0 e)
    (enumerate_from (injectors_of case.topology) case.topology.computations)) h
fires-placed case = along_legal case
    (λ h. total (λ e. when (is_fire e) 1) h
    ≡ total (λ e. total (λ (c : ℕ × ComputationShape). fires_on c.0 e)
    (enumerate_from (injectors_of case.topology) case.topology.computations)) h)
    (λ h entry legal may was.
    omega (
      arith,
      was,
      total-push (λ e. when (is_fire e) 1) h entry,
      total-push (λ e. total (λ (c : ℕ × ComputationShape). fires_on c.0 e)
          (enumerate_from (injectors_of case.topology) case.topology.computations)) h entry,
      one (run_of case.topology h) entry may,
    ))
    refl
  where
    none : (cs : List (ℕ × ComputationShape)) → ◌≡◌ {A = ℕ} 0 (total (λ (c : ℕ × ComputationShape). 0) cs)
    none [] = refl
    none (c ∷ cs) = omega (arith, none cs)

    one : (run : Run) (entry : Entry) → MayFollow case run entry
        → when (is_fire entry) 1 ≡ total (λ (c : ℕ × ComputationShape). fires_on c.0 entry)
        (enumerate_from (injectors_of case.topology) case.topology.computations)
    one run (Fire seq row timer mark effects) may =
        let outcome = (caused-fire case run seq row timer mark effects row may refl).outcome in
        sym (kind-placed case.topology row.part outcome.kind outcome.of_part)
    one run _ may = none (enumerate_from (injectors_of case.topology) case.topology.computations)

-- ---- lines that are injected

-- a number of a record that is injected
abbrev of_injected : (Record → ℕ) → Entry → ℕ
of_injected f (Inject seq part line item) = f item
of_injected f _ = 0

-- what entries inject is what is in the streams of injectors
injected-total : (case : CaseShape) (f : Record → ℕ) (h : List Entry) → IsLegal case h
    → total (of_injected f) h ≡ total (λ (o : Member). when (nat_lt o.0 (injectors_of case.topology)) (f o.1)) (out_of case.topology h)
injected-total case f = along_legal case
    (λ h. total (of_injected f) h ≡ total (λ (o : Member). when (nat_lt o.0 (injectors_of case.topology)) (f o.1)) (out_of case.topology h))
    (λ h entry legal may was.
    let of : Member → ℕ = λ o. when (nat_lt o.0 (injectors_of case.topology)) (f o.1) in
    omega (
      arith,
      was,
      total-push (of_injected f) h entry,
      one (run_of case.topology h) entry may,
      ap (total of) (out-push case.topology h entry),
      total-append of (out_of case.topology h) (added_by (run_of case.topology h) entry),
    ))
    refl
  where
    -- a computation's productions are not injected
    produces : (part : ℕ) (late : Bool) (ps : List Production) → nat_lt part (injectors_of case.topology) ≡ false
        → ◌≡◌ {A = ℕ} 0 (total (λ (o : Member). when (nat_lt o.0 (injectors_of case.topology)) (f o.1)) (map (member_of part late) ps))
    produces part late [] behind = refl
    produces part late (p ∷ ps) behind =
        omega (arith, ap (λ b. when b (f (produced late p))) behind, produces part late ps behind)

    no-injector : (b : Bool) → (b ≡ true → ⊥) → b ≡ false
    no-injector true none = absurd (none refl)
    no-injector false none = refl

    one : (run : Run) (entry : Entry) → MayFollow case run entry
        → of_injected f entry ≡ total (λ (o : Member). when (nat_lt o.0 (injectors_of case.topology)) (f o.1)) (added_by run entry)
    one run (Inject seq part line item) may =
        let is : nat_lt part (injectors_of case.topology) ≡ true = may.injector in
        let none : f item ≡ f item + 0 = omega arith in
        none ∙ sym (ap (λ b. when b (f item) + 0) is)
    one run (Handle seq row id effects) may =
        produces row.part (late_cause run.made (Handle seq row id effects)) effects.productions
        (no-injector (nat_lt row.part (injectors_of case.topology)) (caused-no_injector case run _ row _ effects
        (caused-handle case run seq row id effects row may refl)))
    one run (Fire seq row timer mark effects) may =
        produces row.part timer.late effects.productions
        (no-injector (nat_lt row.part (injectors_of case.topology)) (caused-no_injector case run _ row _ effects
        (caused-fire case run seq row timer mark effects row may refl)))
    one run _ may = refl

-- a sum over the records of sources
pub sources-total : (f : Record → ℕ) (n : ℕ) (sources : List Source)
    → stream_total (λ (o : Member). f o.1) n (map injected_of sources) ≡ total (λ source. total f (injected_of source)) sources
sources-total f n [] = refl
sources-total f n (s ∷ ss) = ap (λ m. total f (injected_of s) + m) (sources-total f (n + 1) ss)

-- ---- all of them, at the end

module _ (case : CaseShape) (h : List Entry) (runs : IsRunnable case) (legal : IsLegal case h)
    (done : IsDone case (run_of case.topology h)) (plain : IsPlain case h) where
  abbrev shape : Shape
  shape = case.topology

  -- the computations by their numbers
  abbrev placed : List (ℕ × ComputationShape)
  placed = enumerate_from (injectors_of shape) shape.computations

  -- how many records were handled
  pub handled-plain : count_by is_handle h ≡ handled_of case
  handled-plain =
      sym (total-count_by is_handle h) ∙ handles-length case h legal ∙ sym (total-length (done_of shape h))
      ∙ sym (total-each (λ (d : Delivery). total (λ (c : ℕ × ComputationShape). when (d.to.part == c.0) 1) placed) (λ d. 1)
      (done_of shape h)
      (done-placed case h legal))
      ∙ total-swap (λ (d : Delivery) (c : ℕ × ComputationShape). when (d.to.part == c.0) 1) (done_of shape h) placed
      ∙ total-same (λ (c : ℕ × ComputationShape). total (λ (d : Delivery). when (d.to.part == c.0) 1) (done_of shape h))
      (λ (c : ℕ × ComputationShape). length (members_read shape (plain_streams case) c.0)) placed
      (λ c. sym (reads_done-total (λ m. 1) c.0 (done_of shape h)) ∙ reads-plain case h runs legal done plain c.0 (λ m. 1)
      ∙ total-length (members_read shape (plain_streams case) c.0))
      ∙ sym (total-map (λ (c : Kind × List Keyed). length c.1)
      (λ (c : ℕ × ComputationShape). (c.1.kind, members_read shape (plain_streams case) c.0)) placed)
      ∙ total-sum_by (λ (c : Kind × List Keyed). length c.1) (plain_members case)

  -- how many timers fired
  pub fired-plain : FiresPlainly case h → count_by is_fire h ≡ fired_of case
  fired-plain fires =
      sym (total-count_by is_fire h) ∙ fires-placed case h legal
      ∙ total-swap (λ e (c : ℕ × ComputationShape). fires_on c.0 e) h placed
      ∙ total-each (λ (c : ℕ × ComputationShape). total (fires_on c.0) h)
      (λ (c : ℕ × ComputationShape). fires_of c.1.kind (members_read shape (plain_streams case) c.0)) placed
      (subst (λ n. AllByRecursion (λ (c : ℕ × ComputationShape). total (fires_on c.0) h
      ≡ fires_of c.1.kind (members_read shape (plain_streams case) c.0))
      (enumerate_from n shape.computations)) none_before
      (each-placed shape (λ (c : ℕ × ComputationShape). total (fires_on c.0) h
      ≡ fires_of c.1.kind (members_read shape (plain_streams case) c.0))
      (λ n c of. fires n c.kind of (members_read shape (plain_streams case) n) (reads-plain case h runs legal done plain n))
      [] shape.computations refl))
      ∙ sym (total-map (λ (c : Kind × List Keyed). fires_of c.0 c.1)
      (λ (c : ℕ × ComputationShape). (c.1.kind, members_read shape (plain_streams case) c.0)) placed)
      ∙ total-sum_by (λ (c : Kind × List Keyed). fires_of c.0 c.1) (plain_members case)
    where
      none_before : injectors_of shape + 0 ≡ injectors_of shape
      none_before = omega arith

  -- how many records were injected
  pub injected-plain : count_by is_inject h ≡ injected_count case
  injected-plain =
      sym (total-count_by is_inject h)
      ∙ total-same (λ e. when (is_inject e) 1) (of_injected (λ r. 1)) h one
      ∙ injected-total case (λ r. 1) h legal
      ∙ injectors-known case h runs legal done plain (λ o. 1)
      ∙ sources-total (λ r. 1) 0 (sources_of case)
      ∙ total-same (λ source. total (λ (r : Record). 1) (injected_of source)) (λ (source : Source). length source) (sources_of case)
      (λ source. total-map (λ (r : Record). 1) (λ (l : SourceLine). record_of l.item) source ∙ total-length source)
      ∙ total-sum_by (λ (source : Source). length source) (sources_of case)
    where
      one : (e : Entry) → when (is_inject e) 1 ≡ of_injected (λ r. 1) e
      one (Claim worker interval) = refl
      one (Inject seq part line item) = refl
      one (Handle seq row id effects) = refl
      one (Fire seq row timer mark effects) = refl
      one (Ack seq row id) = refl
      one (Purge seq row floor) = refl

  -- how many of them were late
  pub late-plain : count_by is_late h ≡ late_count case
  late-plain =
      sym (total-count_by is_late h)
      ∙ total-same (λ e. when (is_late e) 1) (of_injected (λ r. when r.late 1)) h one
      ∙ injected-total case (λ r. when r.late 1) h legal
      ∙ injectors-known case h runs legal done plain (λ o. when o.1.late 1)
      ∙ sources-total (λ r. when r.late 1) 0 (sources_of case)
      ∙ total-same (λ source. total (λ (r : Record). when r.late 1) (injected_of source))
      (λ (source : Source). count_by (λ (l : SourceLine). l.item.late) source) (sources_of case)
      (λ source. total-map (λ (r : Record). when r.late 1) (λ (l : SourceLine). record_of l.item) source
      ∙ total-count_by (λ (l : SourceLine). l.item.late) source)
      ∙ total-sum_by (λ (source : Source). count_by (λ (l : SourceLine). l.item.late) source) (sources_of case)
    where
      one : (e : Entry) → when (is_late e) 1 ≡ of_injected (λ r. when r.late 1) e
      one (Claim worker interval) = refl
      one (Inject seq part line item) = refl
      one (Handle seq row id effects) = refl
      one (Fire seq row timer mark effects) = refl
      one (Ack seq row id) = refl
      one (Purge seq row floor) = refl

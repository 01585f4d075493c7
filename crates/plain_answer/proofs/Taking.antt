-- What rows of a part took is what they handled.
use Rattle.std.proofs.Common.{◌≡◌, ℕ, ◌+◌, ◌<◌, ◌≤◌, ◌==◌, ◌&&◌, not, Bool, true, false, cond, List, [], ◌∷◌, ◌++◌, map, sum_by, Some, refl, sym, ◌∙◌, ap, subst, arith}
use Rattle.std.specs.Prelude.{nat_eq, option_to_list}
use Rattle.std.specs.List.{AllByRecursion}
use Rattle.std.specs.BTreeMap.{is_at}
use Rattle.std.specs.Cmp.Lexicographic.{pointwise}
use Rattle.std.proofs.lemmas.Bool.{eq-eqb, both_ways}
use Rattle.std.proofs.lemmas.Bool.Decides.{nat_tests}
use Rattle.std.proofs.lemmas.List.Sums.{sum_by-append}
use Rattle.mw_types.specs.declared.identity.RowName.{RowName}
use Rattle.mw_types.specs.declared.kind.Kind.TheVariants as kinds
use Rattle.mw_types.specs.declared.delivery.Delivery.{Delivery}
use Rattle.mw_types.specs.declared.entry.Entry.{Entry}
use Rattle.mw_types.specs.declared.entry.Entry.TheVariants.{Handle, Fire}
use Rattle.mw_types.specs.Orders.{row_cmp}
use Rattle.topology.specs.Shapes.{Shape, kind_of, parts_of}
use Rattle.row_parts.specs.Contents.{same_id}
use Rattle.computations.specs.Handlers.{window_end}
use Rattle.run_history.specs.Cases.{CaseShape}
use Rattle.run_history.specs.Inputs.{IsRunnable}
use Rattle.run_history.specs.Runs.{Run, run_of}
use Rattle.run_history.specs.Legal.{MayFollow, IsLegal}
use Rattle.history_laws.proofs.FeedLaws.{kind-ranged}
use Rattle.history_laws.proofs.PendingLaws.{kind-there}
use Rattle.history_laws.proofs.RowSteps.{same_row}
use Rattle.list_lemmas.proofs.Lists.{each-append, each-weaker, find-each}
use Rattle.list_lemmas.proofs.Totals.{total, when, total-append, total-map, total-filter, total-each}
use Rattle.plain_answer.specs.Deeds.{Deed, took, fired, takes_into, taken_into, taken, deeds_in, deeds_of}
use Rattle.plain_answer.specs.Grades.{grade}
use Rattle.plain_answer.specs.Plain.{Keyed, plain_end}
use Rattle.plain_answer.specs.Stories.{handled_by, done_of}
use Rattle.plain_answer.proofs.Closing.{same-key, key-itself}
use Rattle.plain_answer.proofs.Counting.{tie}
use Rattle.plain_answer.proofs.Grading.{IsGraded, legal-graded}
use Rattle.plain_answer.proofs.Passing.{done_at}
use Rattle.plain_answer.proofs.PlainCounts.{into}
use Rattle.plain_answer.proofs.Stories.{deeds-push, done-push, along_legal}

-- a row's name, by its part and its key
pub is_at-both : (name row : RowName) → is_at (row_cmp name) row ≡ ((row.part == name.part) && pointwise nat_eq name.key row.key)
is_at-both name row = elim (is_at (row_cmp name) row) as
    (λ b. is_at (row_cmp name) row ≡ b → b ≡ ((row.part == name.part) && pointwise nat_eq name.key row.key)) [
      | true ↦ λ e.
          subst (λ (r : RowName). true ≡ ((r.part == name.part) && pointwise nat_eq name.key r.key)) (same_row name row e)
          (sym ((λ i. (eq-eqb name.part name.part refl i) && pointwise nat_eq name.key name.key) ∙ key-itself name.key))
      | false ↦ λ e. apart e (row.part == name.part) refl (pointwise nat_eq name.key row.key) refl
    ] refl
  where
    apart : is_at (row_cmp name) row ≡ false → (a : Bool) → (row.part == name.part) ≡ a → (b : Bool)
        → pointwise nat_eq name.key row.key ≡ b → false ≡ (a && b)
    apart e false one b other = refl
    apart e true one false other = refl
    apart e true one true other =
        let parts : row.part ≡ name.part = grind (arith, nat_tests) in
        let same : row ≡ name = λ i. record { part = parts i; key = sym (same-key name.key row.key other) i } in
        absurd (both_ways (is_at (row_cmp name) row) e (ap (is_at (row_cmp name)) same ∙ tie name))

-- what a delivery brings into a window of a row
abbrev brings : RowName → ℕ → ℕ → Delivery → ℕ
brings name size end d = when (is_at (row_cmp name) d.to) (takes_into size end (took d.item.stamp d.item.late))

-- what an entry does on a row is what it handles there
one : (case : CaseShape) (name : RowName) (size end : ℕ) (run : Run) (entry : Entry) → MayFollow case run entry
    → sum_by (takes_into size end) (deeds_in name run entry) ≡ total (brings name size end) (handled_by run entry)
one case name size end run (Handle seq row id effects) may =
    ap (λ o. sum_by (takes_into size end) (cond (is_at (row_cmp name) row) (taken o) [])) may.waits
    ∙ by_row (is_at (row_cmp name) row)
    ∙ ap (λ (r : RowName). when (is_at (row_cmp name) r) (takes_into size end
    (took may.delivery.item.stamp may.delivery.item.late)) + 0) (sym may.to_row)
    ∙ sym (ap (λ o. total (brings name size end) (option_to_list o)) may.waits)
  where
    by_row : (b : Bool) → sum_by (takes_into size end) (cond b (taken (Some may.delivery)) [])
        ≡ when b (takes_into size end (took may.delivery.item.stamp may.delivery.item.late)) + 0
    by_row true = omega arith
    by_row false = refl
one case name size end run (Fire seq row timer mark effects) may = by_row (is_at (row_cmp name) row) (timer.tag == 0)
  where
    by_row : (b c : Bool) → ◌≡◌ {A = ℕ} (sum_by (takes_into size end) (cond b (cond c (fired timer.time ∷ []) []) [])) 0
    by_row true true = refl
    by_row true false = refl
    by_row false c = refl
one case name size end run _ may = refl

-- what a row took is what was handled on it
pub taken-done : (case : CaseShape) (name : RowName) (size end : ℕ) (h : List Entry) → IsLegal case h
    → taken_into size end (deeds_of case.topology name h) ≡ total (brings name size end) (done_of case.topology h)
taken-done case name size end = along_legal case
    (λ h. taken_into size end (deeds_of case.topology name h) ≡ total (brings name size end) (done_of case.topology h))
    (λ h entry legal may was.
    let deeds : List Deed = deeds_of case.topology name h in
    let new : List Deed = deeds_in name (run_of case.topology h) entry in
    let core : taken_into size end (deeds ++ new)
    ≡ total (brings name size end) (done_of case.topology h ++ handled_by (run_of case.topology h) entry) =
    omega (
      arith,
      was,
      one case name size end (run_of case.topology h) entry may,
      sum_by-append (takes_into size end) deeds new,
      total-append (brings name size end) (done_of case.topology h) (handled_by (run_of case.topology h) entry),
    ) in
    ap (taken_into size end) (deeds-push case.topology name h entry) ∙ core
    ∙ ap (total (brings name size end)) (sym (done-push case.topology h entry)))
    refl

-- what was handled is within its part's grade
pub done-graded : (case : CaseShape) → IsRunnable case → (h : List Entry) → IsLegal case h
    → AllByRecursion IsGraded (done_of case.topology h)
done-graded case runs = along_legal case (λ h. AllByRecursion IsGraded (done_of case.topology h))
    (λ h entry legal may was.
    subst (AllByRecursion IsGraded) (sym (done-push case.topology h entry))
    (each-append IsGraded (done_of case.topology h) (handled_by (run_of case.topology h) entry) was (new h entry legal may)))
    tt
  where
    new : (h : List Entry) (entry : Entry) → IsLegal case h → MayFollow case (run_of case.topology h) entry
        → AllByRecursion IsGraded (handled_by (run_of case.topology h) entry)
    new h (Handle seq row id effects) legal may =
        subst (λ o. AllByRecursion IsGraded (option_to_list o)) (sym may.waits) (
          find-each IsGraded (λ (d : Delivery). same_id d.id id) (run_of case.topology h).unhandled may.delivery
              (legal-graded case h runs legal).waiting may.waits,
          tt,
        )
    new h _ legal may = tt

-- ---- what a part read

-- a delivery as a member that its row reads
abbrev pub member_read : Delivery → Keyed
member_read d = (d.to.key, d.item)

-- what rows of a part handled, each with the key of the row
abbrev pub reads_done : ℕ → List Delivery → List Keyed
reads_done part ds = map member_read (done_at part ds)

-- a sum over what rows of a part handled
pub reads_done-total : (g : Keyed → ℕ) (part : ℕ) (ds : List Delivery)
    → total g (reads_done part ds) ≡ total (λ (d : Delivery). when (d.to.part == part) (g (member_read d))) ds
reads_done-total g part ds = total-map g member_read (done_at part ds)
    ∙ total-filter (λ (d : Delivery). g (member_read d)) (λ (d : Delivery). d.to.part == part) ds

-- within the grade of its part a window ends plainly
pub end-plain : (shape : Shape) (case : CaseShape) (part size stamp : ℕ) → IsRunnable case → kind_of case.topology part
    ≡ Some (kinds.Count size)
    → stamp ≤ grade part → window_end size stamp ≡ plain_end size stamp
end-plain shape case part size stamp runs kind low =
    let there : part < parts_of case.topology = kind-there case.topology part (kinds.Count size) kind in
    let few : parts_of case.topology ≤ 48 = omega (arith, runs.topology.few_injectors, runs.topology.few_computations) in
    let ranged = kind-ranged case.topology part (kinds.Count size) runs.topology kind in
    omega (arith, there, few, ranged.1, low)

-- what a row of a count took into a window is what its part read
pub taken-reads : (case : CaseShape) (part size : ℕ) (key : List ℕ) (end : ℕ) → IsRunnable case
    → kind_of case.topology part ≡ Some (kinds.Count size) → (h : List Entry) → IsLegal case h
    → taken_into size end (deeds_of case.topology (record { part = part; key = key }) h)
    ≡ total (into size key end) (reads_done part (done_of case.topology h))
taken-reads case part size key end runs kind h legal =
    taken-done case name size end h legal
    ∙ total-each (brings name size end) (λ (d : Delivery). when (d.to.part == part) (into size key end (member_read d)))
    (done_of case.topology h)
    (each-weaker IsGraded (λ d. brings name size end d ≡ when (d.to.part == part) (into size key end (member_read d))) same
    (done_of case.topology h) (done-graded case runs h legal))
    ∙ sym (reads_done-total (into size key end) part (done_of case.topology h))
  where
    name : RowName
    name = record { part = part; key = key }

    by_late : (d : Delivery) (late : Bool) → window_end size d.item.stamp ≡ plain_end size d.item.stamp
        → takes_into size end (took d.item.stamp late) ≡ when (true && not late) (when (plain_end size d.item.stamp == end) 1)
    by_late d true ends = refl
    by_late d false ends = ap (λ n. cond (n == end) 1 0) ends

    by_key : (d : Delivery) (b : Bool) → window_end size d.item.stamp ≡ plain_end size d.item.stamp
        → when b (takes_into size end (took d.item.stamp d.item.late))
        ≡ when (b && not d.item.late) (when (plain_end size d.item.stamp == end) 1)
    by_key d true ends = by_late d d.item.late ends
    by_key d false ends = refl

    same : (d : Delivery) → IsGraded d → brings name size end d ≡ when (d.to.part == part) (into size key end (member_read d))
    same d low =
        ap (λ b. when b (takes_into size end (took d.item.stamp d.item.late))) (is_at-both name d.to)
        ∙ (elim (d.to.part == part) as
        (λ b. (d.to.part == part) ≡ b → when (b && pointwise nat_eq key d.to.key) (takes_into size end (took d.item.stamp d.item.late))
        ≡ when b (into size key end (member_read d))) [
          | true ↦ λ e.
              let here : d.to.part ≡ part = grind (arith, nat_tests) in
              let low_here : d.item.stamp ≤ grade part = subst (λ p. d.item.stamp ≤ grade p) here low in
              by_key d (pointwise nat_eq key d.to.key) (end-plain case.topology case part size d.item.stamp runs kind low_here)
          | false ↦ λ e. refl
        ] refl)

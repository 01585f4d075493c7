-- How many lines an injector has injected, by a history.
use Rattle.std.proofs.Common.{◌≡◌, ◌≤◌, ◌+◌, ◌++◌, ◌∷◌, ◌∙◌, ℕ, true, false, cond, List, [], length, filter, refl, sym, ap, subst, arith, length-append, inl, inr}
use Rattle.std.specs.Prelude.{Option, Some, None}
use Rattle.std.specs.Option.{option_map, option_map_or}
use Rattle.std.proofs.lemmas.Bool.{cases_eq, cases_lt, eq-eqb, ne_eqb}
use Rattle.std.proofs.lemmas.List.Elements.{filter-append}
use Rattle.list_lemmas.proofs.Lists.{none_some, some_same}
use Rattle.list_lemmas.proofs.Places.{slice_get-some}
use Rattle.mw_types.specs.declared.delivery.Delivery.{Delivery}
use Rattle.mw_types.specs.declared.entry.Entry.{Entry}
use Rattle.mw_types.specs.declared.entry.Entry.TheVariants as entries
use Rattle.mw_types.specs.declared.identity.RowName.{RowName}
use Rattle.mw_types.specs.declared.kind.Kind.{Kind}
use Rattle.mw_types.specs.declared.record.Record.{Record}
use Rattle.mw_types.specs.declared.state.State.TheVariants as states
use Rattle.injector.specs.Sources.{Source, SourceLine, item_at}
use Rattle.computations.specs.Handlers.{fresh_state}
use Rattle.row_parts.specs.Contents.{Contents, cursor_in}
use Rattle.run_history.specs.Cases.{CaseShape, is_injector, source_of}
use Rattle.run_history.specs.Fences.{known}
use Rattle.run_history.specs.Legal.{IsLegal, MayFollow}
use Rattle.run_history.specs.Made.{deliveries_of, row_written}
use Rattle.run_history.specs.Runs.{Run, advanced, changed, empty_run, followed, row_of, run_of}
use Rattle.run_history.specs.Watermarks.{cursor_of}
use Rattle.run_history.proofs.Known.{known-begins}
use Rattle.history_laws.proofs.Along.{AreLegal-apart, along_history}
use Rattle.history_laws.proofs.Caused.{caused-fire, caused-handle, caused-no_injector}
use Rattle.history_laws.proofs.FeedLaws.{injector-no_kind}
use Rattle.history_laws.proofs.RowSteps.{on_row_or_not, row_of-elsewhere, row_of-here}
use Rattle.history_laws.proofs.UnfinishedLaws.{legal-within}
use Rattle.topology.specs.Shapes.{kind_of}
use Rattle.workers.specs.Slices.{injected, is_line}

-- ---- lines that were injected

-- the lines of more entries are added
pub injected-append : (part : ℕ) (front rest : List Entry) → injected part (front ++ rest) ≡ injected part front + injected part rest
injected-append part front rest =
    ap length (filter-append (is_line part) front rest) ∙ length-append (filter (is_line part) front) (filter (is_line part) rest)

-- a longer history has no fewer
pub injected-more : (part : ℕ) (front rest new : List Entry) → new ≡ front ++ rest → injected part front ≤ injected part new
injected-more part front rest new more =
    let all = ap (injected part) more ∙ injected-append part front rest in omega (arith, all)

-- an entry that injects a line is one
pub injected-line : (part seq line : ℕ) (item : Record) → injected part (entries.Inject seq part line item ∷ []) ≡ 1
injected-line part seq line item = ap (λ b. length (cond b (entries.Inject seq part line item ∷ []) [])) (eq-eqb part part refl)

-- and one entry injects one line at most
pub injected-one : (part : ℕ) (entry : Entry) → injected part (entry ∷ []) ≤ 1
injected-one part entry = elim (is_line part entry) as (λ b. length (cond b (entry ∷ []) []) ≤ 1) [
  | true ↦ omega arith
  | false ↦ omega arith
]

-- ---- the cursor of an injector

-- the row of an injector
abbrev row_at : ℕ → RowName
row_at part = record { part = part; key = [] }

-- an entry that is not on the row of an injector injects none of its lines
injected-elsewhere : (part : ℕ) (entry : Entry) → (row_written entry ≡ Some (row_at part) → ⊥) → injected part (entry ∷ []) ≡ 0
injected-elsewhere part (entries.Inject seq injector line item) apart = elim (cases_eq injector part) [
  | inl same ↦ absurd (apart (ap (λ (p : ℕ). Some (row_at p)) same))
  | inr other ↦ ap (λ b. length (cond b (entries.Inject seq injector line item ∷ []) [])) (ne_eqb injector part other)
]
injected-elsewhere part (entries.Claim worker interval) apart = refl
injected-elsewhere part (entries.Handle seq row id effects) apart = refl
injected-elsewhere part (entries.Fire seq row timer mark effects) apart = refl
injected-elsewhere part (entries.Ack seq row id) apart = refl
injected-elsewhere part (entries.Purge seq row floor) apart = refl

-- an entry moves the cursor of an injector's row by the lines that it injects
changed-lines : (case : CaseShape) (run : Run) (entry : Entry) (sent : List Delivery) (part lines : ℕ)
    → is_injector case.topology part ≡ true → MayFollow case run entry → row_written entry ≡ Some (row_at part)
    → (row_of case.topology run (row_at part)).state ≡ states.Injector lines
    → (changed entry sent (row_of case.topology run (row_at part))).state ≡ states.Injector (lines + injected part (entry ∷ []))
changed-lines case run (entries.Inject seq other line item) sent part lines is may written before =
    let same : other ≡ part = ap (λ (n : RowName). n.part) (some_same _ _ written) in
    let one : injected part (entries.Inject seq other line item ∷ []) ≡ 1 =
    subst (λ p. injected part (entries.Inject seq p line item ∷ []) ≡ 1) (sym same) (injected-line part seq line item) in
    ap advanced before ∙ ap (λ (k : ℕ). states.Injector (lines + k)) (sym one)
changed-lines case run (entries.Handle seq row id effects) sent part lines is may written before =
    let name = row_at part in
    absurd (caused-no_injector case run _ name _ effects (caused-handle case run seq row id effects name may written) is)
changed-lines case run (entries.Fire seq row timer mark effects) sent part lines is may written before =
    let name = row_at part in
    absurd (caused-no_injector case run _ name _ effects (caused-fire case run seq row timer mark effects name may written) is)
changed-lines case run (entries.Claim worker interval) sent part lines is may written before = before ∙ ap states.Injector (omega arith)
changed-lines case run (entries.Ack seq row id) sent part lines is may written before = before ∙ ap states.Injector (omega arith)
changed-lines case run (entries.Purge seq row floor) sent part lines is may written before = before ∙ ap states.Injector (omega arith)

-- an injector's row has its cursor at the lines that were injected
abbrev CountsLines : CaseShape → ℕ → List Entry → Run → Type 0
CountsLines case part done run = (row_of case.topology run (row_at part)).state ≡ states.Injector (injected part done)

-- before any entry
counts-first : (case : CaseShape) (part : ℕ) → is_injector case.topology part ≡ true → CountsLines case part [] empty_run
counts-first case part is = by_kind (kind_of case.topology part) refl
  where
    by_kind : (o : Option Kind) → kind_of case.topology part ≡ o → CountsLines case part [] empty_run
    by_kind None none = ap (λ (o : Option Kind). option_map_or fresh_state o (states.Injector 0)) none
    by_kind (Some kind) there = absurd (injector-no_kind case.topology part kind is there)

-- and after one more
counts-step : (case : CaseShape) (part : ℕ) → is_injector case.topology part ≡ true → (done : List Entry) (run : Run) (entry : Entry)
    → CountsLines case part done run → MayFollow case run entry
    → CountsLines case part (done ++ entry ∷ []) (followed case.topology run entry)
counts-step case part is done run entry before may = elim (on_row_or_not entry (row_at part)) [
  | inl written ↦ ap (λ (c : Contents). c.state) (row_of-here case.topology run entry (row_at part) written)
      ∙ changed-lines case run entry (deliveries_of case.topology run.made run.next entry) part (injected part done) is may written before
      ∙ ap states.Injector (sym (injected-append part done (entry ∷ [])))
  | inr apart ↦ ap (λ (c : Contents). c.state) (row_of-elsewhere case.topology run entry (row_at part) apart) ∙ before
      ∙ ap states.Injector (let all = injected-append part done (entry ∷ []) in let none = injected-elsewhere part entry apart in
      omega (arith, all, none))
]

-- an injector's cursor is at the lines that it has injected
pub cursor-injected : (case : CaseShape) (part : ℕ) (history : List Entry) → is_injector case.topology part ≡ true → IsLegal case history
    → cursor_of case (run_of case.topology history) part ≡ injected part history
cursor-injected case part history is legal = ap cursor_in (along_history case (CountsLines case part) (counts-step case part is)
    (counts-first case part is) history legal)

-- which are no more than it has
pub injected-within : (case : CaseShape) (part : ℕ) (history : List Entry) → is_injector case.topology part ≡ true → IsLegal case history
    → injected part history ≤ length (source_of case part)
injected-within case part history is legal =
    let all = cursor-injected case part history is legal in
    let within = (legal-within case history legal).each (row_at part) is in omega (arith, all, within)

-- the cursor by what is known under a claim is not beyond the lines that were injected
pub cursor-known : (case : CaseShape) (part interval seq : ℕ) (history : List Entry) → is_injector case.topology part ≡ true
    → IsLegal case history → cursor_of case (run_of case.topology (known interval seq history)) part ≤ injected part history
cursor-known case part interval seq history is legal =
    let front = known-begins interval seq history in
    let whole = subst (λ (h : List Entry). IsLegal case h) (sym front.1) legal in
    let known_few = cursor-injected case part (known interval seq history) is
    (AreLegal-apart case (known interval seq history) front.0 empty_run whole).0 in
    let more = injected-more part (known interval seq history) front.0 history (sym front.1) in
    omega (arith, known_few, more)

-- ---- the lines of a source

-- a line that is not there is behind the last
pub line-past : (source : Source) (line : ℕ) → item_at source line ≡ None → length source ≤ line
line-past source line none = elim (cases_lt line (length source)) [
  | inl below ↦ let there = slice_get-some source line below in
      absurd (none_some there.0.item (sym none ∙ ap (option_map (λ (l : SourceLine). l.item)) there.1))
  | inr past ↦ past
]

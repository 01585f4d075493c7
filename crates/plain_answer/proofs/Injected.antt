-- The stream of an injector has its lines so far.
use Rattle.std.proofs.Common.{◌≡◌, ℕ, ◌+◌, ◌-◌, ◌==◌, true, false, cond, List, [], ◌∷◌, ◌++◌, map, take, Some, None, refl, sym, ◌∙◌, ap, subst, arith, get_or}
use Rattle.std.specs.Prelude.{slice_get}
use Rattle.std.specs.Option.{option_map, option_map_or}
use Rattle.std.proofs.lemmas.Bool.Decides.{nat_tests}
use Rattle.std.proofs.lemmas.List.{append-nil, take_more}
use Rattle.std.proofs.lemmas.Option.{slice_get_within, get_or_from_slice_get}
use Rattle.mw_types.specs.declared.identity.RowName.{RowName}
use Rattle.mw_types.specs.declared.record.Record.{Record}
use Rattle.mw_types.specs.declared.state.State.TheVariants as states
use Rattle.mw_types.specs.declared.entry.Entry.{Entry}
use Rattle.mw_types.specs.declared.entry.Entry.TheVariants.{Claim, Inject, Handle, Fire, Ack, Purge}
use Rattle.injector.specs.Sources.{SourceLine}
use Rattle.topology.specs.Shapes.{Shape, ComputationShape, kind_of, injectors_of}
use Rattle.row_parts.specs.Contents.{Contents, cursor_in}
use Rattle.computations.specs.Handlers.{fresh_state}
use Rattle.run_history.specs.Cases.{CaseShape, is_injector, source_of, record_of}
use Rattle.run_history.specs.Made.{row_written}
use Rattle.run_history.specs.Runs.{Run, run_of, row_of, followed, advanced}
use Rattle.run_history.specs.Legal.{MayInject, MayFollow, IsLegal}
use Rattle.run_history.proofs.RunLaws.{run_of-push}
use Rattle.history_laws.proofs.Caused.{caused-handle, caused-fire}
use Rattle.history_laws.proofs.RowSteps.{row_of-step, row_of-here, row_of-elsewhere}
use Rattle.history_laws.proofs.StampLaws.{line_of}
use Rattle.list_lemmas.proofs.Lists.{none_some, some_same}
use Rattle.plain_answer.specs.Stories.{added_by, out_of}
use Rattle.plain_answer.proofs.Stories.{out-push, along_legal}
use Rattle.plain_answer.proofs.Members.{out_at, out_at-append, added-here, added-other, injector-apart}

module _ (case : CaseShape) (part : ℕ) (is : is_injector case.topology part ≡ true) where
  abbrev shape : Shape
  shape = case.topology

  -- the row of the injector
  abbrev name : RowName
  name = record { part = part; key = [] }

  -- the records of the first lines
  abbrev pub first_records : ℕ → List Record
  first_records n = map (λ (l : SourceLine). record_of l.item) (take n (source_of case part))

  -- how many lines were injected, and that these are in the stream
  pub record Injected (h : List Entry) : Type 0 where
    pub cursor : ℕ
    pub state : (row_of shape (run_of shape h) name).state ≡ states.Injector cursor
    pub members : out_at part (out_of shape h) ≡ first_records cursor

  -- an entry that adds nothing, and leaves the state
  stays : (h : List Entry) (entry : Entry) → Injected h → out_at part (added_by (run_of shape h) entry) ≡ []
      → ((n : ℕ) → (row_of shape (run_of shape h) name).state ≡ states.Injector n
      → (row_of shape (followed shape (run_of shape h) entry) name).state ≡ states.Injector n) → Injected (h ++ entry ∷ [])
  stays h entry was none state = record {
    cursor = was.cursor;
    state = ap (λ (r : Run). (row_of shape r name).state) (run_of-push shape h entry) ∙ state was.cursor was.state;
    members = ap (out_at part) (out-push shape h entry) ∙ out_at-append part (out_of shape h) (added_by (run_of shape h) entry)
        ∙ ap (λ l. out_at part (out_of shape h) ++ l) none ∙ append-nil (out_at part (out_of shape h)) ∙ was.members;
  }

  -- an entry on the row of another part
  elsewhere : (h : List Entry) (entry : Entry) (row : RowName) → Injected h → row_written entry ≡ Some row → (row.part == part) ≡ false
      → Injected (h ++ entry ∷ [])
  elsewhere h entry row was written other =
      stays h entry was (added-other part (run_of shape h) entry row written other)
      (λ n state. ap (λ (c : Contents). c.state) (row_of-elsewhere shape (run_of shape h) entry name
      (λ e. differ (ap (λ (r : RowName). r.part) (some_same row name (sym written ∙ e))))) ∙ state)
    where
      differ : row.part ≡ part → ⊥
      differ same = grind (arith, nat_tests)

  -- the next line
  line-more : (n : ℕ) (l : SourceLine) → slice_get (source_of case part) n ≡ Some l → first_records n ++ record_of l.item ∷ []
      ≡ first_records (n + 1)
  line-more n l at =
      let within = slice_get_within (source_of case part) n l at in
      let here : get_or (source_of case part) n l ≡ l = get_or_from_slice_get (source_of case part) n l l at in
      sym (ap (map (λ (l : SourceLine). record_of l.item))
      (take_more (source_of case part) n l within ∙ ap (λ k. take n (source_of case part) ++ k ∷ []) here)
      ∙ push (take n (source_of case part)))
    where
      push : (ls : List SourceLine) → map (λ (l : SourceLine). record_of l.item) (ls ++ l ∷ [])
          ≡ map (λ (l : SourceLine). record_of l.item) ls ++ record_of l.item ∷ []
      push [] = refl
      push (k ∷ ks) = ap (λ r. record_of k.item ∷ r) (push ks)

  -- an entry that injects the next line
  injects : (h : List Entry) (seq line : ℕ) (item : Record) → Injected h → MayInject case (run_of shape h) part line item
      → Injected (h ++ Inject seq part line item ∷ [])
  injects h seq line item was may =
      let entry : Entry = Inject seq part line item in
      let run : Run = run_of shape h in
      let l = line_of (source_of case part) line item may.of_line in
      let at : line ≡ was.cursor = may.next_line ∙ ap cursor_in was.state in
      let here : slice_get (source_of case part) was.cursor ≡ Some l.0 = ap (slice_get (source_of case part)) (sym at) ∙ l.1 in
      let same : (part == part) ≡ true = grind (arith, nat_tests) in record {
        cursor = was.cursor + 1;
        state = ap (λ (r : Run). (row_of shape r name).state) (run_of-push shape h entry)
            ∙ ap (λ (c : Contents). c.state) (row_of-here shape run entry name refl) ∙ ap advanced was.state;
        members = ap (out_at part) (out-push shape h entry) ∙ out_at-append part (out_of shape h) (added_by run entry)
            ∙ (λ i. was.members i ++ (added-here part run entry name refl same ∙ ap (λ r. r ∷ []) (sym l.2)) i)
            ∙ line-more was.cursor l.0 here;
      }

  -- one more entry, by its kind
  step : (h : List Entry) (entry : Entry) → IsLegal case h → MayFollow case (run_of shape h) entry → Injected h → Injected (h ++ entry ∷ [])
  step h (Claim worker interval) legal may was =
      stays h (Claim worker interval) was refl
      (λ n state. ap (λ (c : Contents). c.state) (row_of-elsewhere shape (run_of shape h) (Claim worker interval) name
      (none_some name)) ∙ state)
  step h (Inject seq other line item) legal may was =
      elim (other == part) as (λ b. (other == part) ≡ b → Injected (h ++ Inject seq other line item ∷ [])) [
        | true ↦ λ e. let same : part ≡ other = grind (arith, nat_tests) in
            subst (λ p. MayInject case (run_of shape h) p line item → Injected (h ++ Inject seq p line item ∷ [])) same
            (λ m. injects h seq line item was m) may
        | false ↦ λ e. elsewhere h (Inject seq other line item) (record { part = other; key = [] }) was refl e
      ] refl
  step h (Handle seq row id effects) legal may was =
      let outcome = (caused-handle case (run_of shape h) seq row id effects row may refl).outcome in
      elsewhere h (Handle seq row id effects) row was refl
      (injector-apart shape part row.part outcome.kind is outcome.of_part)
  step h (Fire seq row timer mark effects) legal may was =
      let outcome = (caused-fire case (run_of shape h) seq row timer mark effects row may refl).outcome in
      elsewhere h (Fire seq row timer mark effects) row was refl
      (injector-apart shape part row.part outcome.kind is outcome.of_part)
  step h (Ack seq row id) legal may was =
      stays h (Ack seq row id) was (added-nothing (Ack seq row id) refl)
      (λ n state. row_of-step shape (run_of shape h) (Ack seq row id) name (λ c. c.state ≡ states.Injector n) state (λ written. state))
    where
      added-nothing : (entry : Entry) → added_by (run_of shape h) entry ≡ [] → out_at part (added_by (run_of shape h) entry) ≡ []
      added-nothing entry none = ap (out_at part) none
  step h (Purge seq row floor) legal may was =
      stays h (Purge seq row floor) was refl
      (λ n state. row_of-step shape (run_of shape h) (Purge seq row floor) name (λ c. c.state ≡ states.Injector n) state (λ written. state))

  -- an injector is of no kind
  no_kind : kind_of shape part ≡ None
  no_kind = ap (λ b. option_map (λ (c : ComputationShape). c.kind)
      (cond b None (slice_get shape.computations (part - injectors_of shape)))) is

  -- after each legal history an injector's stream has its lines up to its cursor
  pub legal-injected : (h : List Entry) → IsLegal case h → Injected h
  legal-injected = along_legal case Injected step (record {
    cursor = 0;
    state = ap (λ k. option_map_or fresh_state k (states.Injector 0)) no_kind;
    members = refl;
  })

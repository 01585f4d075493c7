-- What the handler of a known kind left of a cause, and what its part adds to its stream then.
use Rattle.std.proofs.Common.{◌≡◌, ℕ, ◌==◌, Bool, true, false, cond, List, [], ◌∷◌, map, filter, Some, refl, sym, ◌∙◌, ap, subst, arith}
use Rattle.std.specs.Option.{option_map}
use Rattle.std.specs.List.{AllByRecursion}
use Rattle.std.proofs.lemmas.Bool.Decides.{nat_tests}
use Rattle.mw_types.specs.declared.identity.RecordId.{RecordId}
use Rattle.mw_types.specs.declared.identity.RowName.{RowName}
use Rattle.mw_types.specs.declared.record.Record.{Record}
use Rattle.mw_types.specs.declared.record.Production.{Production}
use Rattle.mw_types.specs.declared.timer.Timer.{Timer}
use Rattle.mw_types.specs.declared.kind.Kind.{Kind}
use Rattle.mw_types.specs.declared.state.State.{State}
use Rattle.mw_types.specs.declared.entry.Entry.{Entry}
use Rattle.mw_types.specs.declared.entry.Entry.TheVariants.{Claim, Inject, Handle, Fire, Ack, Purge}
use Rattle.mw_types.specs.Outcomes.{EffectsView}
use Rattle.topology.specs.Shapes.{Shape, kind_of}
use Rattle.row_parts.specs.Contents.{Contents}
use Rattle.computations.specs.Handlers.{Cause, effects_of, OfRecord, OfTimer}
use Rattle.run_history.specs.Cases.{CaseShape}
use Rattle.run_history.specs.Made.{row_written, late_cause, produced}
use Rattle.run_history.specs.Runs.{Run, row_of}
use Rattle.run_history.specs.Legal.{MayHandle, MayFire, MayAcknowledge, MayPurge, MayFollow, outcome_of}
use Rattle.history_laws.proofs.FeedLaws.{injector-no_kind}
use Rattle.list_lemmas.proofs.Lists.{none_some, some_same}
use Rattle.plain_answer.specs.Stories.{added_by}
use Rattle.plain_answer.proofs.Members.{out_at, added-here, added-other}

-- a kind of a part, by the number of the part
pub kind-at : (shape : Shape) (part own : ℕ) (kind : Kind) → kind_of shape part ≡ Some kind → (own == part) ≡ true
    → kind_of shape own ≡ Some kind
kind-at shape part own kind of e = let same : own ≡ part = grind (arith, nat_tests) in ap (kind_of shape) same ∙ of

-- what a handler of this kind left of a cause, in a row with this state
pub kind-left : (case : CaseShape) (name : RowName) (row : Contents) (cause : Cause) (effects : EffectsView)
    (kind : Kind) (state : State)
    → kind_of case.topology name.part ≡ Some kind → row.state ≡ state → outcome_of case name row cause ≡ Some effects
    → effects_of kind name.key state cause ≡ effects
kind-left case name row cause effects kind state of is does = some_same _ effects
    (sym (λ i. option_map (λ (k : Kind). effects_of k name.key (is i) cause) (of i)) ∙ does)

-- a part whose kind produces nothing of records adds nothing where it handles one
pub handled-nothing : (case : CaseShape) (run : Run) (part : ℕ) (kind : Kind) (seq : ℕ) (row : RowName) (id : RecordId)
    (effects : EffectsView) → kind_of case.topology part ≡ Some kind
    → ((key : List ℕ) (state : State) (item : Record) → (effects_of kind key state (OfRecord item)).productions ≡ [])
    → MayHandle case run row id effects → out_at part (added_by run (Handle seq row id effects)) ≡ []
handled-nothing case run part kind seq row id effects of nothing may =
    let entry : Entry = Handle seq row id effects in
    let old : Contents = row_of case.topology run row in
    elim (row.part == part) as (λ b. (row.part == part) ≡ b → out_at part (added_by run entry) ≡ []) [
      | true ↦ λ e.
          let left = kind-left case row old (OfRecord may.delivery.item) effects kind old.state
          (kind-at case.topology part row.part kind of e) refl may.does in
          added-here part run entry row refl e
          ∙ ap (map (produced (late_cause run.made entry)))
          (sym (ap (λ (o : EffectsView). o.productions) left) ∙ nothing row.key old.state may.delivery.item)
      | false ↦ λ e. added-other part run entry row refl e
    ] refl

-- of records under one key none passes a test that none under this key passes
other-key : (test : Record → Bool) (key : List ℕ) (late : Bool) (ps : List Production)
    → ((r : Record) → r.key ≡ key → test r ≡ false)
    → AllByRecursion (λ (p : Production). p.key ≡ key) ps → filter test (map (produced late) ps) ≡ []
other-key test key late [] other each = refl
other-key test key late (p ∷ ps) other each =
    ap (λ b. cond b (produced late p ∷ filter test (map (produced late) ps)) (filter test (map (produced late) ps)))
    (other (produced late p) each.0)
    ∙ other-key test key late ps other each.1

-- a part whose kind produces under its row's key alone adds nothing that a test of other keys passes
pub fired-other : (case : CaseShape) (run : Run) (part : ℕ) (kind : Kind) (seq : ℕ) (row : RowName) (timer : Timer)
    (mark : ℕ)
    (effects : EffectsView) (test : Record → Bool) → kind_of case.topology part ≡ Some kind
    → ((key : List ℕ) (state : State) (timer : Timer)
    → AllByRecursion (λ (p : Production). p.key ≡ key) (effects_of kind key state (OfTimer timer)).productions)
    → ((row.part == part) ≡ true → (r : Record) → r.key ≡ row.key → test r ≡ false)
    → MayFire case run row timer mark effects
    → filter test (out_at part (added_by run (Fire seq row timer mark effects))) ≡ []
fired-other case run part kind seq row timer mark effects test of keyed other may =
    let entry : Entry = Fire seq row timer mark effects in
    let old : Contents = row_of case.topology run row in
    elim (row.part == part) as (λ b. (row.part == part) ≡ b → filter test (out_at part (added_by run entry)) ≡ []) [
      | true ↦ λ e.
          let left = kind-left case row old (OfTimer timer) effects kind old.state
          (kind-at case.topology part row.part kind of e) refl may.does in
          ap (filter test) (added-here part run entry row refl e)
          ∙ other-key test row.key timer.late effects.productions (other e)
          (subst (λ (o : EffectsView). AllByRecursion (λ (p : Production). p.key ≡ row.key) o.productions) left
          (keyed row.key old.state timer))
      | false ↦ λ e. ap (filter test) (added-other part run entry row refl e)
    ] refl

-- what holds of each entry that a computation's row may have holds of an entry on the row
pub by_entry : (case : CaseShape) (run : Run) (name : RowName) (kind : Kind) (P : Entry → Type 0)
    → kind_of case.topology name.part ≡ Some kind
    → ((seq : ℕ) (id : RecordId) (effects : EffectsView) → MayHandle case run name id effects
    → P (Handle seq name id effects))
    → ((seq : ℕ) (timer : Timer) (mark : ℕ) (effects : EffectsView) → MayFire case run name timer mark effects
    → P (Fire seq name timer mark effects))
    → ((seq : ℕ) (id : RecordId) → MayAcknowledge case run name id → P (Ack seq name id))
    → ((seq floor : ℕ) → MayPurge case run name floor → P (Purge seq name floor))
    → (entry : Entry) → MayFollow case run entry → row_written entry ≡ Some name → P entry
by_entry case run name kind P of handles fires acks purges (Claim worker interval) may here =
    absurd (none_some name here)
by_entry case run name kind P of handles fires acks purges (Inject seq part line item) may here =
    absurd (injector-no_kind case.topology part kind may.injector
    (ap (λ (r : RowName). kind_of case.topology r.part) (some_same _ name here) ∙ of))
by_entry case run name kind P of handles fires acks purges (Handle seq row id effects) may here =
    subst (λ (r : RowName). MayHandle case run r id effects → P (Handle seq r id effects))
    (sym (some_same row name here))
    (handles seq id effects) may
by_entry case run name kind P of handles fires acks purges (Fire seq row timer mark effects) may here =
    subst (λ (r : RowName). MayFire case run r timer mark effects → P (Fire seq r timer mark effects))
    (sym (some_same row name here)) (fires seq timer mark effects) may
by_entry case run name kind P of handles fires acks purges (Ack seq row id) may here =
    subst (λ (r : RowName). MayAcknowledge case run r id → P (Ack seq r id)) (sym (some_same row name here))
    (acks seq id) may
by_entry case run name kind P of handles fires acks purges (Purge seq row floor) may here =
    subst (λ (r : RowName). MayPurge case run r floor → P (Purge seq r floor)) (sym (some_same row name here))
    (purges seq floor) may

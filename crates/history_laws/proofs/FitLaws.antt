-- Each row of a legal history fits its name.
use Rattle.std.proofs.Common.{◌≡◌, ◌==◌, ℕ, ◌+◌, ◌<◌, ◌≤◌, Bool, true, false, cond, Option, Some, None, List, [], length, refl, sym, ◌∙◌, ap, subst, arith, ◌&&◌}
use Rattle.std.specs.Prelude.{⊤, MatchOption, not, nat_lt, nat_le}
use Rattle.std.specs.Option.{option_map_or}
use Rattle.std.specs.List.{AllByRecursion, list_all}
use Rattle.std.proofs.lemmas.Bool.{and_from, lt-ltb, le-leb}
use Rattle.mw_types.specs.declared.identity.RowName.{RowName}
use Rattle.mw_types.specs.declared.kind.Kind.{Kind}
use Rattle.mw_types.specs.declared.kind.Kind.TheVariants as kinds
use Rattle.mw_types.specs.declared.state.State.{State}
use Rattle.mw_types.specs.declared.state.State.TheVariants as states
use Rattle.mw_types.specs.declared.delivery.Delivery.{Delivery}
use Rattle.mw_types.specs.declared.entry.Entry.{Entry}
use Rattle.mw_types.specs.declared.entry.Entry.TheVariants.{Claim, Inject, Handle, Fire, Ack, Purge}
use Rattle.mw_types.specs.Outcomes.{EffectsView}
use Rattle.topology.specs.declared.subscription.Subscription.{Subscription}
use Rattle.topology.specs.Shapes.{Shape, injectors_of, parts_of, kind_of}
use Rattle.computations.specs.Handlers.{Cause, has_kind, fresh_state}
use Rattle.row_parts.specs.Contents.{Contents, same_id, cursor_in}
use Rattle.run_history.specs.Cases.{CaseShape, is_injector, source_of, fresh_of}
use Rattle.run_history.specs.Made.{row_written, late_cause, productions_of, deliveries_of, deliveries_made}
use Rattle.run_history.specs.Runs.{Run, run_of, row_of, followed, changed, advanced, empty_run}
use Rattle.run_history.specs.Legal.{MayFollow, IsLegal}
use Rattle.run_history.specs.Fits.{is_cursor_within, is_sent_before, suits_part, fits}
use Rattle.run_history.proofs.Fitting.{kind-none, kind-some, passes-each, fresh_state-kind}
use Rattle.list_lemmas.proofs.Lists.{each-append, each-all, each-weaker, each-filter, each-both}
use Rattle.history_laws.proofs.Along.{along_history}
use Rattle.history_laws.proofs.Made.{deliveries_made-each}
use Rattle.history_laws.proofs.FeedLaws.{consumers-there}
use Rattle.history_laws.proofs.IdLaws.{next-length}
use Rattle.history_laws.proofs.Caused.{IsCaused, caused-handle, caused-fire, caused-no_injector}
use Rattle.history_laws.proofs.RowSteps.{row_of-step, pending-in_order, row_of-in_order}
use Rattle.history_laws.proofs.UnfinishedLaws.{legal-within}

-- the state is an injector's
abbrev IsCursor : State → Type 0
IsCursor (states.Injector cursor) = ⊤
IsCursor _ = ⊥

-- a state is of the kind of a part: a computation's is of its kind, and another part's is an injector's
abbrev IsStateOf : Shape → ℕ → State → Type 0
IsStateOf shape part state = MatchOption (kind_of shape part) (IsCursor state) (λ kind. has_kind kind state ≡ true)

-- a fresh row's state is of the kind of its part
fresh_of-kind : (shape : Shape) (part : ℕ) → IsStateOf shape part (fresh_of shape part)
fresh_of-kind shape part = by_kind (kind_of shape part)
  where
    by_kind : (o : Option Kind) → MatchOption o (IsCursor (option_map_or fresh_state o (states.Injector 0)))
        (λ kind. has_kind kind (option_map_or fresh_state o (states.Injector 0)) ≡ true)
    by_kind None = tt
    by_kind (Some kind) = fresh_state-kind kind

-- a state of a computation is of its kind
pub of_kind : (shape : Shape) (part : ℕ) (kind : Kind) (state : State) → kind_of shape part ≡ Some kind → IsStateOf shape part state
    → has_kind kind state ≡ true
of_kind shape part kind state is of = subst (λ o. MatchOption o (IsCursor state) (λ kind. has_kind kind state ≡ true)) is of

-- and back
kind_of-state : (shape : Shape) (part : ℕ) (kind : Kind) (state : State) → kind_of shape part ≡ Some kind → has_kind kind state ≡ true
    → IsStateOf shape part state
kind_of-state shape part kind state is of = subst (λ o. MatchOption o (IsCursor state) (λ kind. has_kind kind state ≡ true)) (sym is) of

-- an injector's next state is of the same kind of part
advanced-kind : (shape : Shape) (part : ℕ) (state : State) → IsStateOf shape part state → IsStateOf shape part (advanced state)
advanced-kind shape part (states.Injector cursor) of = by_kind (kind_of shape part) of
  where
    by_kind : (o : Option Kind) → MatchOption o (IsCursor (states.Injector cursor)) (λ kind. has_kind kind (states.Injector cursor) ≡ true)
        → MatchOption o (IsCursor (states.Injector (cursor + 1))) (λ kind. has_kind kind (states.Injector (cursor + 1)) ≡ true)
    by_kind None of = tt
    by_kind (Some (kinds.Count size)) of = absurd cc
    by_kind (Some (kinds.Spike last times)) of = absurd cc
    by_kind (Some kinds.Pass) of = absurd cc
advanced-kind shape part (states.Count late windows) of = of
advanced-kind shape part (states.Spike late held known) of = of
advanced-kind shape part (states.Pass late) of = of

-- the state that a cause leaves in its row is of the kind of the row's part
caused-kind : (case : CaseShape) (run : Run) (entry : Entry) (sent : List Delivery) (name : RowName) (cause : Cause)
    (effects : EffectsView) → IsCaused case run entry name cause effects
    → IsStateOf case.topology name.part (row_of case.topology run name).state
    → IsStateOf case.topology name.part (changed entry sent (row_of case.topology run name)).state
caused-kind case run entry sent name cause effects caused of =
    let row : Contents = row_of case.topology run name in
    let outcome = caused.outcome in
    subst (IsStateOf case.topology name.part) (sym (caused.left sent row))
    (kind_of-state case.topology name.part outcome.kind effects.state outcome.of_part
    (outcome.leaves.left.kept (of_kind case.topology name.part outcome.kind row.state outcome.of_part of)))

-- the state that an entry leaves in its row is of the kind of the row's part
changed-kind : (case : CaseShape) (run : Run) (entry : Entry) (sent : List Delivery) (name : RowName) → MayFollow case run entry
    → row_written entry ≡ Some name
    → IsStateOf case.topology name.part (row_of case.topology run name).state
    → IsStateOf case.topology name.part (changed entry sent (row_of case.topology run name)).state
changed-kind case run (Inject seq part line item) sent name may written of = advanced-kind case.topology name.part
    (row_of case.topology run name).state of
changed-kind case run (Handle seq row id effects) sent name may written of =
    caused-kind case run _ sent name _ effects (caused-handle case run seq row id effects name may written) of
changed-kind case run (Fire seq row timer mark effects) sent name may written of =
    caused-kind case run _ sent name _ effects (caused-fire case run seq row timer mark effects name may written) of
changed-kind case run _ sent name may written of = of

-- ---- injectors set no timer

-- an entry sets no timer in an injector's row
changed-no_timer : (case : CaseShape) (run : Run) (entry : Entry) (sent : List Delivery) (name : RowName) → MayFollow case run entry
    → row_written entry ≡ Some name
    → is_injector case.topology name.part ≡ true → (row_of case.topology run name).timers ≡ []
    → (changed entry sent (row_of case.topology run name)).timers ≡ []
changed-no_timer case run (Handle seq row id effects) sent name may written is none =
    absurd (caused-no_injector case run _ name _ effects (caused-handle case run seq row id effects name may written) is)
changed-no_timer case run (Fire seq row timer mark effects) sent name may written is none =
    absurd (caused-no_injector case run _ name _ effects (caused-fire case run seq row timer mark effects name may written) is)
changed-no_timer case run _ sent name may written is none = none

-- ---- what is pending goes to computations

-- a delivery goes to a computation that is there
abbrev GoesToReader : Shape → Delivery → Type 0
GoesToReader shape d = (injectors_of shape ≤ d.to.part) × (d.to.part < parts_of shape)

-- what an entry makes goes to computations
sent-read : (shape : Shape) (made : List Delivery) (commit : ℕ) (entry : Entry)
    → AllByRecursion (GoesToReader shape) (deliveries_of shape made commit entry)
sent-read shape made commit entry = by_row (row_written entry)
  where
    by_row : (w : Option RowName) → AllByRecursion (GoesToReader shape)
        (option_map_or (λ (row : RowName). deliveries_made shape row.part (productions_of entry) (late_cause made entry) commit) w [])
    by_row None = tt
    by_row (Some row) = deliveries_made-each shape row.part (productions_of entry) (late_cause made entry) commit
        (λ (s : Subscription). (injectors_of shape ≤ s.to) × (s.to < parts_of shape)) (λ p. ⊤)
        (λ to item. (injectors_of shape ≤ to.part) × (to.part < parts_of shape))
        (λ s p there _. there) (consumers-there shape row.part) (each-all (λ p. ⊤) (λ p. tt) (productions_of entry))

-- what an entry leaves pending goes to computations
changed-read : (shape : Shape) (entry : Entry) (sent : List Delivery) (row : Contents) → AllByRecursion (GoesToReader shape) row.pending
    → AllByRecursion (GoesToReader shape) sent
    → AllByRecursion (GoesToReader shape) (changed entry sent row).pending
changed-read shape (Claim worker interval) sent row old new = old
changed-read shape (Ack seq name id) sent row old new = each-filter (GoesToReader shape)
    (λ (d : Delivery). not (same_id d.id id)) row.pending old
changed-read shape (Purge seq name floor) sent row old new = old
changed-read shape _ sent row old new = each-append (GoesToReader shape) row.pending sent old new

-- ---- all together

-- each row's state is of the kind of its part, injectors have no timer, and what is pending goes to computations
pub record AreOfKind (case : CaseShape) (run : Run) : Type 0 where
  pub states : (name : RowName) → IsStateOf case.topology name.part (row_of case.topology run name).state
  pub no_timers : (name : RowName) → is_injector case.topology name.part ≡ true → (row_of case.topology run name).timers ≡ []
  pub reads : (name : RowName) → AllByRecursion (GoesToReader case.topology) (row_of case.topology run name).pending

-- one more entry keeps it so
pub AreOfKind-followed : (case : CaseShape) (run : Run) (entry : Entry) → AreOfKind case run → MayFollow case run entry
    → AreOfKind case (followed case.topology run entry)
AreOfKind-followed case run entry are may =
    let sent = deliveries_of case.topology run.made run.next entry in record {
      states = λ name. row_of-step case.topology run entry name (λ (c : Contents). IsStateOf case.topology name.part c.state)
          (are.states name)
          (λ written. changed-kind case run entry sent name may written (are.states name));
      no_timers = λ name is. row_of-step case.topology run entry name (λ (c : Contents). c.timers ≡ []) (are.no_timers name is)
          (λ written. changed-no_timer case run entry sent name may written is (are.no_timers name is));
      reads = λ name. row_of-step case.topology run entry name (λ (c : Contents). AllByRecursion (GoesToReader case.topology) c.pending)
          (are.reads name)
          (λ written. changed-read case.topology entry sent (row_of case.topology run name) (are.reads name)
          (sent-read case.topology run.made run.next entry));
    }

-- before any entry it is so
pub AreOfKind-empty : (case : CaseShape) → AreOfKind case empty_run
AreOfKind-empty case = record { states = λ name. fresh_of-kind case.topology name.part; no_timers = λ name is. refl; reads = λ name. tt }

-- after each legal history it is so
pub legal-of_kind : (case : CaseShape) (history : List Entry) → IsLegal case history → AreOfKind case (run_of case.topology history)
legal-of_kind case = along_history case (λ done run. AreOfKind case run)
    (λ done run entry are may. AreOfKind-followed case run entry are may)
    (AreOfKind-empty case)

-- an injector's state, which has injected no more lines than these, is one within them
cursor-within : (lines : ℕ) (state : State) → IsCursor state → cursor_in state ≤ lines → is_cursor_within lines state ≡ true
cursor-within lines (states.Injector cursor) is le = le-leb cursor lines le
cursor-within lines (states.Count late windows) is le = absurd is
cursor-within lines (states.Spike late held known) is le = absurd is
cursor-within lines (states.Pass late) is le = absurd is

-- a state and timers as they stand after a legal history suit their part, where that is there
suits-part : (case : CaseShape) (part : ℕ) (row : Contents) → part < parts_of case.topology → IsStateOf case.topology part row.state
    → (is_injector case.topology part ≡ true → cursor_in row.state ≤ length (source_of case part))
    → (is_injector case.topology part ≡ true → row.timers ≡ []) → suits_part case part row ≡ true
suits-part case part row there of lines none = by_part (is_injector case.topology part) refl
  where
    by_part : (b : Bool) → is_injector case.topology part ≡ b
        → cond b (is_cursor_within (length (source_of case part)) row.state && (length row.timers == 0))
        (option_map_or (λ (kind : Kind). has_kind kind row.state) (kind_of case.topology part) false) ≡ true
    by_part true is =
        let cursor : IsCursor row.state = subst (λ o. MatchOption o (IsCursor row.state) (λ kind. has_kind kind row.state ≡ true))
        (kind-none case.topology part is) of in
        and_from (is_cursor_within (length (source_of case part)) row.state) (length row.timers == 0)
        (cursor-within (length (source_of case part)) row.state cursor (lines is)) (ap (λ l. length l == 0) (none is))
    by_part false is =
        let kind = kind-some case.topology part is there in
        ap (λ o. option_map_or (λ (k : Kind). has_kind k row.state) o false) kind.1 ∙ of_kind case.topology part kind.0 row.state kind.1 of

-- a delivery that was made by one of so many entries, and goes to a computation
sent-tested : (shape : Shape) (n : ℕ) (d : Delivery) → d.id.commit < n → GoesToReader shape d → is_sent_before shape n d ≡ true
sent-tested shape n d less goes =
    and_from (nat_lt d.id.commit n && nat_le (injectors_of shape) d.to.part) (nat_lt d.to.part (parts_of shape))
    (and_from (nat_lt d.id.commit n) (nat_le (injectors_of shape) d.to.part) (lt-ltb d.id.commit n less)
    (le-leb (injectors_of shape) d.to.part goes.0))
    (lt-ltb d.to.part (parts_of shape) goes.1)

-- each row of a legal history fits its name, where its part is there
pub legal-fits : (case : CaseShape) (history : List Entry) (name : RowName) → IsLegal case history → name.part < parts_of case.topology
    → fits case (length history) name (row_of case.topology (run_of case.topology history) name) ≡ true
legal-fits case history name legal there =
    let run = run_of case.topology history in
    let are = legal-of_kind case history legal in
    let row = row_of case.topology run name in
    and_from (suits_part case name.part row) (list_all (is_sent_before case.topology (length history)) row.pending)
    (suits-part case name.part row there (are.states name) ((legal-within case history legal).each name) (are.no_timers name))
    (passes-each (is_sent_before case.topology (length history)) row.pending
    (each-weaker (λ (d : Delivery). (d.id.commit < run.next) × GoesToReader case.topology d)
    (λ d. is_sent_before case.topology (length history) d ≡ true)
    (λ d (both : (d.id.commit < run.next) × GoesToReader case.topology d).
    let less = both.0 in sent-tested case.topology (length history) d
    (omega (arith, less, next-length case.topology history)) both.1) row.pending
    (each-both (λ (d : Delivery). d.id.commit < run.next) (GoesToReader case.topology) row.pending
    (row_of-in_order case.topology run name (pending-in_order case.topology history)).below (are.reads name))))

-- What is known of what is found by what is kept.
use Rattle.run_history.specs.Legal.{outcome_of}
use Rattle.std.proofs.Common.{◌≡◌, ◌∙◌, ◌<◌, ◌≤◌, ◌&&◌, ℕ, Bool, true, false, cond, List, length, refl, sym, ap, subst, arith}
use Rattle.std.specs.Prelude.{IsNone, IsSome, None, Option, Some, is_none, is_some, nat_le, nat_lt, not, unwrap_or, ◌==◌}
use Rattle.std.specs.Option.{option_and_then, option_map_or}
use Rattle.std.specs.BTreeMap.{get}
use Rattle.std.specs.Ordering.{nat_cmp}
use Rattle.std.proofs.lemmas.Bool.{and_from, leb-true, ltb-true}
use Rattle.list_lemmas.proofs.Lists.{find-each, find-passes, none_some, some_same}
use Rattle.list_lemmas.proofs.Places.{each-passes}
use Rattle.list_lemmas.proofs.Tests.{both_true}
use Rattle.mw_types.specs.declared.TheConstants.{MAX_STAMP}
use Rattle.mw_types.specs.declared.identity.RecordId.{RecordId}
use Rattle.mw_types.specs.declared.identity.RowName.{RowName}
use Rattle.mw_types.specs.declared.kind.Kind.{Kind}
use Rattle.mw_types.specs.declared.delivery.Delivery.{Delivery}
use Rattle.mw_types.specs.declared.entry.Entry.{Entry}
use Rattle.mw_types.specs.declared.entry.Entry.TheVariants.{Handle}
use Rattle.mw_types.specs.Outcomes.{EffectsView}
use Rattle.topology.specs.Shapes.{Shape, injectors_of, kind_of, parts_of}
use Rattle.computations.specs.Handlers.{has_kind, OfRecord}
use Rattle.row_parts.specs.Contents.{Contents, IsId, found_delivery, fresh, is_finished, same_id}
use Rattle.run_history.specs.Cases.{CaseShape, fresh_of, is_injector, source_of}
use Rattle.run_history.specs.Fits.{is_cursor_within, is_sent_before, suits_part}
use Rattle.run_history.specs.Fences.{interval_of, last_claim}
use Rattle.run_history.specs.Finished.{is_handled}
use Rattle.run_history.specs.Runs.{cached, row_in, row_of, run_of}
use Rattle.run_history.proofs.Fitting.{fits-parts, kind-some}
use Rattle.history_laws.proofs.FitLaws.{legal-fits}
use Rattle.history_laws.proofs.FinishedLaws.{finished-handled, handled-waits_not}
use Rattle.history_laws.proofs.IdLaws.{legal-ids, same_id-true, waits_as_made}
use Rattle.history_laws.proofs.PendingLaws.{legal-sent}
use Rattle.history_laws.proofs.PrintLaws.{legal-on_parts}
use Rattle.history_laws.proofs.StampLaws.{legal-in_time}
use Rattle.history_laws.specs.Ids.{IsSentBy}
use Rattle.book.specs.Proposals.{IsHandling}
use Rattle.node.specs.Works.{IsStateThere}
use Rattle.audit.specs.declared.kept.Kept.{Kept}
use Rattle.audit.specs.Choices.{MayCome}
use Rattle.audit.specs.Keeping.{IsFollowed, IsKept, pending_in, sequencer_for}
use Rattle.audit.specs.Waits.{waiting_in}
use Rattle.audit.proofs.ChoiceLaws.{MaySettleNext}
use Rattle.audit.proofs.KeepingLaws.{pending-of, row-kept, there-kept}

-- the sequencer that is kept is the one that an entry has to carry
pub claimed-kept : (case : CaseShape) (history : List Entry) (kept : Kept) (name : RowName) → IsKept case history kept
    → option_and_then (get nat_cmp kept.claims) (interval_of case.topology name) ≡ sequencer_for case.topology history name
claimed-kept case history kept name keeps = by_interval (interval_of case.topology name)
  where
    by_interval : (o : Option ℕ)
        → option_and_then (get nat_cmp kept.claims) o ≡ option_and_then (λ (interval : ℕ). last_claim interval history) o
    by_interval None = refl
    by_interval (Some interval) = keeps.claims interval

-- what is found under an id waits, and has the id
pub waits-kept : (case : CaseShape) (history : List Entry) (kept : Kept) (id : RecordId) (d : Delivery) → IsKept case history kept
    → waiting_in kept.waiting.entries id ≡ Some d → (found_delivery id (run_of case.topology history).unhandled ≡ Some d) × (d.id ≡ id)
waits-kept case history kept id d keeps found =
    let waits = sym (keeps.waiting id) ∙ found in (
      waits,
      same_id-true d.id id (find-passes (λ (e : Delivery). same_id e.id id) (run_of case.topology history).unhandled d waits),
    )

-- a row in which something is found is there
found-there : (shape : Shape) (name : RowName) (id : RecordId) (o : Option Contents)
    → IsSome (found_delivery id (unwrap_or o (fresh (fresh_of shape name.part))).pending) → IsSome o
found-there shape name id None found = absurd cc
found-there shape name id (Some row) found = refl

-- ---- where a delivery goes that waits

-- what waits goes to a computation that is there
pub reader-there : (case : CaseShape) (history : List Entry) (id : RecordId) (d : Delivery) → IsFollowed case history
    → found_delivery id (run_of case.topology history).unhandled ≡ Some d
    → (injectors_of case.topology ≤ d.to.part) × (d.to.part < parts_of case.topology)
reader-there case history id d follows waits =
    let shape = case.topology in
    let run = run_of shape history in
    let sent : IsSentBy shape run d = find-each (IsSentBy shape run) (λ (e : Delivery). same_id e.id id) run.unhandled d
    (legal-sent case history follows.lawful.legal).each waits in
    let row = row_of shape run sent.sender in
    let there = found-there shape sent.sender d.id (row_in run sent.sender) (ap is_some sent.pending) in
    let part = (legal-on_parts case history follows.lawful.legal).rows sent.sender there in
    let fit = fits-parts case (length history) sent.sender row (legal-fits case history sent.sender follows.lawful.legal part) in
    let goes = find-each (λ (e : Delivery). is_sent_before shape (length history) e ≡ true) (λ
    (e : Delivery). same_id e.id d.id) row.pending d
    (each-passes (is_sent_before shape (length history)) row.pending fit.1) sent.pending in
    let last = both_true (nat_lt d.id.commit (length history) && nat_le (injectors_of shape) d.to.part) (nat_lt d.to.part
    (parts_of shape)) goes in
    let first = both_true (nat_lt d.id.commit (length history)) (nat_le (injectors_of shape) d.to.part) last.0 in
    (leb-true (injectors_of shape) d.to.part first.1, ltb-true d.to.part (parts_of shape) last.1)

-- the state of a computation's row that suits it is of its kind
state-suits : (case : CaseShape) (part : ℕ) (row : Contents) (kind : Kind) → is_injector case.topology part ≡ false
    → kind_of case.topology part ≡ Some kind → suits_part case part row ≡ true → has_kind kind row.state ≡ true
state-suits case part row kind computes is suits =
    sym (ap (λ b. cond b (is_cursor_within (length (source_of case part)) row.state && (length row.timers == 0))
    (option_map_or (λ (k : Kind). has_kind k row.state) (kind_of case.topology part) false)) computes
    ∙ ap (λ o. option_map_or (λ (k : Kind). has_kind k row.state) o false) is)
    ∙ suits

-- the row of a computation has a state of its kind
pub state-there : (case : CaseShape) (history : List Entry) (kept : Kept) (name : RowName) → IsFollowed case history
    → IsKept case history kept → injectors_of case.topology ≤ name.part → name.part < parts_of case.topology
    → IsStateThere case.topology name.part (row_of case.topology (cached kept.rows.entries) name).state
state-there case history kept name follows keeps above there =
    let shape = case.topology in
    let computes : is_injector shape name.part ≡ false = by_test (is_injector shape name.part) refl in
    let kind = kind-some shape name.part computes there in
    let row = row_of shape (run_of shape history) name in
    let fit = fits-parts case (length history) name row (legal-fits case history name follows.lawful.legal there) in (
      kind.0,
      kind.1,
      ap (λ (c : Contents). has_kind kind.0 c.state) (row-kept case history kept name keeps)
          ∙ state-suits case name.part row kind.0 computes kind.1 fit.0,
    )
  where
    by_test : (b : Bool) → is_injector case.topology name.part ≡ b → b ≡ false
    by_test true is = let below = ltb-true name.part (injectors_of case.topology) is in absurd (omega (arith, below, above))
    by_test false is = refl

-- what waits is in time
pub waits-in_time : (case : CaseShape) (history : List Entry) (id : RecordId) (d : Delivery) → IsFollowed case history
    → found_delivery id (run_of case.topology history).unhandled ≡ Some d → d.item.stamp ≤ MAX_STAMP
waits-in_time case history id d follows waits =
    find-each (λ (e : Delivery). e.item.stamp ≤ MAX_STAMP) (λ (e : Delivery). same_id e.id id) (run_of case.topology history).unhandled d
    (legal-in_time case history follows.runnable follows.lawful.legal).waiting waits

-- ---- a record that is handled

-- what waits is not handled
not-handled : (case : CaseShape) (history : List Entry) (id : RecordId) (d : Delivery) → IsFollowed case history
    → found_delivery id (run_of case.topology history).unhandled ≡ Some d → is_handled id history ≡ false
not-handled case history id d follows waits = by_test (is_handled id history) refl
  where
    by_test : (b : Bool) → is_handled id history ≡ b → b ≡ false
    by_test true is = absurd (none_some d (sym (handled-waits_not case history id follows.lawful.legal is) ∙ waits))
    by_test false is = refl

-- a record that an entry handles may be proposed
pub handling-kept : (case : CaseShape) (history : List Entry) (kept : Kept) (seq : ℕ) (name : RowName) (id : RecordId)
    (effects : EffectsView)
    (d : Delivery) → IsFollowed case history → IsKept case history kept → MayCome case history (Handle seq name id effects)
    → waiting_in kept.waiting.entries id ≡ Some d
    → IsHandling case name (row_of case.topology (cached kept.rows.entries) name) d effects
handling-kept case history kept seq name id effects d follows keeps may found =
    let shape = case.topology in
    let run = run_of shape history in
    let waits = waits-kept case history kept id d keeps found in
    let same : may.may.delivery ≡ d = some_same may.may.delivery d (sym may.may.waits ∙ waits.0) in
    let to_row : d.to ≡ name = sym (ap (λ (e : Delivery). e.to) same) ∙ may.may.to_row in
    let own : found_delivery d.id run.unhandled ≡ Some d =
    subst (λ (i : RecordId). found_delivery i run.unhandled ≡ Some d) (sym waits.1) waits.0 in
    let made = waits_as_made history run d.id d (legal-ids case history follows.lawful.legal) own in
    let row = row-kept case history kept name keeps in record {
      id = find-each (λ (e : Delivery). IsId e.id) (λ (e : Delivery). same_id e.id id) run.unhandled d keeps.ids waits.0;
      to_row = to_row;
      new = ap (is_finished d.id) row ∙ sym (ap (λ (n : RowName). is_finished d.id (row_of shape run n)) to_row)
          ∙ finished-handled case history d follows.lawful.legal made ∙ not-handled case history d.id d follows own;
      does = (λ i. outcome_of case name (row i) (OfRecord (sym same i).item)) ∙ may.may.does;
    }

-- ---- an id that is settled

-- the part of a row in which an id is found
pub settled-part : (case : CaseShape) (history : List Entry) (kept : Kept) (name : RowName) (id : RecordId) → IsFollowed case history
    → IsKept case history kept
    → (is_some (found_delivery id (pending_in kept.rows.entries name)) && is_none (waiting_in kept.waiting.entries id)) ≡ true
    → name.part < parts_of case.topology
settled-part case history kept name id follows keeps settled =
    let both = both_true (is_some (found_delivery id (pending_in kept.rows.entries name))) (is_none
    (waiting_in kept.waiting.entries id)) settled in
    (legal-on_parts case history follows.lawful.legal).rows name
    (found-there case.topology name id (row_in (run_of case.topology history) name)
    (sym (ap (λ (l : List Delivery). is_some (found_delivery id l)) (pending-of case.topology kept.rows.entries name
    ∙ ap (λ (c : Contents). c.pending) (row-kept case history kept name keeps))) ∙ both.0))

-- what is found of an id that may be settled
pub settled-found : (case : CaseShape) (history : List Entry) (kept : Kept) (name : RowName) (id : RecordId) → IsKept case history kept
    → (is_some (found_delivery id (pending_in kept.rows.entries name)) && is_none (waiting_in kept.waiting.entries id))
    ≡ (is_some (found_delivery id (row_of case.topology (run_of case.topology history) name).pending)
    && is_none (found_delivery id (run_of case.topology history).unhandled))
settled-found case history kept name id keeps =
    let pending = pending-of case.topology kept.rows.entries name ∙ ap (λ (c : Contents). c.pending)
    (row-kept case history kept name keeps) in
    λ i. is_some (found_delivery id (pending i)) && is_none (keeps.waiting id i)

-- an id may be settled where it is found so
pub settled-true : (case : CaseShape) (history : List Entry) (kept : Kept) (name : RowName) (id : RecordId) → IsKept case history kept
    → MaySettleNext case history name id
    → (is_some (found_delivery id (pending_in kept.rows.entries name)) && is_none (waiting_in kept.waiting.entries id)) ≡ true
settled-true case history kept name id keeps may = settled-found case history kept name id keeps
    ∙ and_from (is_some (found_delivery id (row_of case.topology (run_of case.topology history) name).pending))
    (is_none (found_delivery id (run_of case.topology history).unhandled)) may.pending (ap not may.handled)

-- none is there
pub none-there : {X : Type 0} (o : Option X) → is_none o ≡ true → IsNone o
none-there None none = refl
none-there (Some x) none = absurd cc

-- ---- a floor that rises

-- the part of a row that is there
pub there-part : (case : CaseShape) (history : List Entry) (kept : Kept) (name : RowName) (rises : Bool) → IsFollowed case history
    → IsKept case history kept → (is_some (row_in (cached kept.rows.entries) name) && rises) ≡ true → name.part < parts_of case.topology
there-part case history kept name rises follows keeps both =
    (legal-on_parts case history follows.lawful.legal).rows name
    (sym (ap is_some (there-kept case history kept name keeps)) ∙ (both_true (is_some (row_in
    (cached kept.rows.entries) name)) rises both).0)

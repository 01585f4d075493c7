-- Rows that fit their names, and stay so.
use Rattle.std.proofs.Common.{◌≡◌, ℕ, ◌+◌, ◌<◌, ◌≤◌, Bool, true, false, cond, List, [], ◌∷◌, length, refl, sym, ◌∙◌, ap, subst, arith, ◌&&◌, ◌-◌}
use Rattle.std.specs.Prelude.{Option, Some, None, slice_get, nat_lt, nat_le, filter}
use Rattle.std.specs.Option.{option_map_or, option_map}
use Rattle.std.specs.List.{AllByRecursion, list_all}
use Rattle.std.proofs.lemmas.Bool.{ltb-true, lt-ltb, and_from, ltb-false, le-leb}
use Rattle.list_lemmas.proofs.Places.{slice_get-some}
use Rattle.list_lemmas.proofs.Tests.{both_true}
use Rattle.mw_types.specs.declared.identity.RowName.{RowName}
use Rattle.mw_types.specs.declared.delivery.Delivery.{Delivery}
use Rattle.mw_types.specs.declared.kind.Kind.{Kind}
use Rattle.mw_types.specs.Bounds.{IsWithin}
use Rattle.topology.specs.Shapes.{Shape, injectors_of, parts_of, kind_of, ComputationShape}
use Rattle.row_parts.specs.Contents.{fresh, Contents}
use Rattle.run_history.specs.Cases.{fresh_of, CaseShape, is_injector, source_of}
use Rattle.run_history.specs.Fits.{is_sent_before, suits_part, fits, is_cursor_within}
use Rattle.list_lemmas.proofs.Lists.{none_some}
use Rattle.computations.specs.Handlers.{has_kind, fresh_state}
use Rattle.computations.proofs.Fresh.{AreWindows-none, AreHeld-none}
use Rattle.mw_types.specs.declared.kind.Kind.TheVariants as kinds
use Rattle.mw_types.specs.declared.state.State.TheVariants as states

-- ---- each of a list

-- and back
pub passes-each : {X : Type 0} (test : X → Bool) (xs : List X) → AllByRecursion (λ x. test x ≡ true) xs → list_all test xs ≡ true
passes-each test [] each = refl
passes-each test (x ∷ xs) each = and_from (test x) (list_all test xs) each.0 (passes-each test xs each.1)

-- ---- what is pending

-- a delivery that was made before a number was made before each that is not lower
sent-later : (shape : Shape) (n m : ℕ) (d : Delivery) → n ≤ m → is_sent_before shape n d ≡ true → is_sent_before shape m d ≡ true
sent-later shape n m d le is =
    let early = nat_lt d.id.commit n && nat_le (injectors_of shape) d.to.part in
    let parts = both_true early (nat_lt d.to.part (parts_of shape)) is in
    let first = both_true (nat_lt d.id.commit n) (nat_le (injectors_of shape) d.to.part) parts.0 in
    let less = ltb-true d.id.commit n first.0 in
    and_from (nat_lt d.id.commit m && nat_le (injectors_of shape) d.to.part) (nat_lt d.to.part (parts_of shape))
    (and_from (nat_lt d.id.commit m) (nat_le (injectors_of shape) d.to.part)
    (lt-ltb d.id.commit m (omega (arith, less, le))) first.1) parts.1

-- and so each of these
pub sent_each-more : (shape : Shape) (n m : ℕ) (ds : List Delivery) → n ≤ m
    → list_all (is_sent_before shape n) ds ≡ true → list_all (is_sent_before shape m) ds ≡ true
sent_each-more shape n m [] le all = refl
sent_each-more shape n m (d ∷ ds) le all =
    let parts = both_true (is_sent_before shape n d) (list_all (is_sent_before shape n) ds) all in
    and_from (is_sent_before shape m d) (list_all (is_sent_before shape m) ds)
    (sent-later shape n m d le parts.0) (sent_each-more shape n m ds le parts.1)

-- and so after one more entry
pub sent_each-later : (shape : Shape) (n : ℕ) (ds : List Delivery) → list_all (is_sent_before shape n) ds ≡ true
    → list_all (is_sent_before shape (n + 1)) ds ≡ true
sent_each-later shape n ds = sent_each-more shape n (n + 1) ds (omega arith)

-- what passes a test still does where some is left out
pub passes-filter : {X : Type 0} (test keep : X → Bool) (xs : List X) → list_all test xs ≡ true → list_all test (filter keep xs) ≡ true
passes-filter test keep [] all = refl
passes-filter {X} test keep (x ∷ xs) all =
    let parts = both_true (test x) (list_all test xs) all in
    elim (keep x) as (λ b. list_all test (cond b (x ∷ filter keep xs) (filter keep xs)) ≡ true) [
      | true ↦ and_from (test x) (list_all test (filter keep xs)) parts.0 (passes-filter test keep xs parts.1)
      | false ↦ passes-filter test keep xs parts.1
    ]

-- the two parts of what fits
pub fits-parts : (case : CaseShape) (n : ℕ) (name : RowName) (row : Contents) → fits case n name row ≡ true
    → (suits_part case name.part row ≡ true) × (list_all (is_sent_before case.topology n) row.pending ≡ true)
fits-parts case n name row is = both_true (suits_part case name.part row) (list_all (is_sent_before case.topology n) row.pending) is

-- a row that fits still does after any number of entries
pub fits-more : (case : CaseShape) (n m : ℕ) (name : RowName) (row : Contents) → n ≤ m
    → fits case n name row ≡ true → fits case m name row ≡ true
fits-more case n m name row le is =
    let parts = fits-parts case n name row is in
    and_from (suits_part case name.part row) (list_all (is_sent_before case.topology m) row.pending) parts.0
    (sent_each-more case.topology n m row.pending le parts.1)

-- and so after one more entry
pub fits-later : (case : CaseShape) (n : ℕ) (name : RowName) (row : Contents) → fits case n name row ≡ true
    → fits case (n + 1) name row ≡ true
fits-later case n name row = fits-more case n (n + 1) name row (omega arith)

-- the state and the timers alone decide whether a row suits a part
pub suits-same : (case : CaseShape) (part : ℕ) (row after : Contents) → after.state ≡ row.state → after.timers ≡ row.timers
    → suits_part case part row ≡ true → suits_part case part after ≡ true
suits-same case part row after state timers is = (λ i. suits_part case part (record row { state = state i; timers = timers i })) ∙ is

-- a row with the same state and timers, and less pending, fits after one more entry
pub fits-less : (case : CaseShape) (n : ℕ) (name : RowName) (row after : Contents) (keep : Delivery → Bool) → fits case n name row ≡ true
    → after.state ≡ row.state → after.timers ≡ row.timers → after.pending ≡ filter keep row.pending → fits case (n + 1) name after ≡ true
fits-less case n name row after keep is state timers pending =
    let parts = fits-parts case n name row is in
    and_from (suits_part case name.part after) (list_all (is_sent_before case.topology (n + 1)) after.pending)
    (suits-same case name.part row after state timers parts.0)
    (subst (λ (l : List Delivery). list_all (is_sent_before case.topology (n + 1)) l ≡ true) (sym pending)
    (passes-filter (is_sent_before case.topology (n + 1)) keep row.pending (sent_each-later case.topology n row.pending parts.1)))

-- ---- fresh rows

-- a fresh state of a kind has the kind
pub fresh_state-kind : (kind : Kind) → has_kind kind (fresh_state kind) ≡ true
fresh_state-kind (kinds.Count size) = refl
fresh_state-kind (kinds.Spike last times) = refl
fresh_state-kind kinds.Pass = refl

-- a fresh state is within bounds
pub IsWithin-fresh_state : (kind : Kind) → IsWithin (fresh_state kind)
IsWithin-fresh_state (kinds.Count size) = (omega arith, AreWindows-none)
IsWithin-fresh_state (kinds.Spike last times) = (omega arith, AreHeld-none, omega arith)
IsWithin-fresh_state kinds.Pass = omega arith

-- a computation that is there has a kind
pub kind-some : (shape : Shape) (part : ℕ) → is_injector shape part ≡ false → part < parts_of shape
    → (kind : Kind) × (kind_of shape part ≡ Some kind)
kind-some shape part no_injector there =
    let from : injectors_of shape ≤ part = ltb-false part (injectors_of shape) no_injector in
    let c = slice_get-some shape.computations (part - injectors_of shape) (omega (arith, from, there)) in (
      c.0.kind,
      ap (λ b. option_map (λ (c : ComputationShape). c.kind)
          (cond b None (slice_get shape.computations (part - injectors_of shape)))) no_injector
          ∙ ap (option_map (λ (c : ComputationShape). c.kind)) c.1,
    )

-- an injector has no kind
pub kind-none : (shape : Shape) (part : ℕ) → is_injector shape part ≡ true → kind_of shape part ≡ None
kind-none shape part is =
    ap (λ b. option_map (λ (c : ComputationShape). c.kind) (cond b None (slice_get shape.computations (part - injectors_of shape)))) is

-- the fresh state of a part suits the part
fresh-suits : (lines : ℕ) (b : Bool) (kind : Option Kind) → (b ≡ true → kind ≡ None) → (b ≡ false → (k : Kind) × (kind ≡ Some k))
    → cond b (is_cursor_within lines (option_map_or fresh_state kind (states.Injector 0)) && true)
    (option_map_or (λ (k : Kind). has_kind k (option_map_or fresh_state kind (states.Injector 0))) kind false) ≡ true
fresh-suits lines true None none some = and_from (nat_le 0 lines) true (le-leb 0 lines (omega arith)) refl
fresh-suits lines true (Some k) none some = absurd (none_some k (sym (none refl)))
fresh-suits lines false None none some = let found = some refl in absurd (none_some found.0 found.1)
fresh-suits lines false (Some k) none some = fresh_state-kind k

-- a fresh row fits its name, where its part is there
pub fits-fresh : (case : CaseShape) (n : ℕ) (name : RowName) → name.part < parts_of case.topology
    → fits case n name (fresh (fresh_of case.topology name.part)) ≡ true
fits-fresh case n name there =
    and_from (suits_part case name.part (fresh (fresh_of case.topology name.part))) true
    (fresh-suits (length (source_of case name.part)) (is_injector case.topology name.part) (kind_of case.topology name.part)
    (kind-none case.topology name.part) (λ no. kind-some case.topology name.part no there)) refl

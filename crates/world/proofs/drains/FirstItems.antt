-- Of all that the rows of a run hold of one kind there is nothing, or a first in an order.
use Rattle.std.proofs.Common.{◌≡◌, ◌⊎◌, Bool, true, false, cond, List, [], ◌∷◌, map, refl, sym, ◌∙◌, ap, subst, inl, inr}
use Rattle.std.specs.Prelude.{Some, Contains, filter, unwrap_or}
use Rattle.std.specs.List.{AllByRecursion, flat_map}
use Rattle.std.specs.BTreeMap.{is_at}
use Rattle.std.specs.Map.{lookup}
use Rattle.std.specs.Cmp.{IsTotalOrder, tied_itself}
use Rattle.std.specs.Ordering.{is_gt, ordering_reverse}
use Rattle.std.specs.declared.cmp.Ordering.{Ordering}
use Rattle.std.specs.declared.cmp.Ordering.TheVariants.{Less, Equal, Greater}
use Rattle.std.proofs.lemmas.Cmp.{upto}
use Rattle.std.proofs.lemmas.List.Elements.{All-contains, All-from_recursion, All-contains_itself, recursion_from_All}
use Rattle.mw_types.specs.declared.identity.RowName.{RowName}
use Rattle.mw_types.specs.declared.state.State.{State}
use Rattle.mw_types.specs.Orders.{row_cmp}
use Rattle.mw_types.proofs.OrderLaws.{row_cmp-total}
use Rattle.topology.specs.Shapes.{Shape}
use Rattle.row_parts.specs.Contents.{Contents, fresh}
use Rattle.run_history.specs.Cases.{fresh_of}
use Rattle.run_history.specs.Runs.{Run, row_of}
use Rattle.list_lemmas.proofs.Lists.{each-append, each-weaker, each-map}
use Rattle.run_history.proofs.Lookups.{each_found}
use Rattle.history_laws.proofs.LowLaws.{AreRowsInOrder, each-apart}
use Rattle.history_laws.proofs.RowSteps.{same_row}

-- of two things one is not after the other
one_way : {X : Type 0} (R : X → X → Ordering) → IsTotalOrder R → (x y : X) → (is_gt (R x y) ≡ false) ⊎ (is_gt (R y x) ≡ false)
one_way R total x y = by_order (R x y) refl
  where
    by_order : (o : Ordering) → R x y ≡ o → (is_gt (R x y) ≡ false) ⊎ (is_gt (R y x) ≡ false)
    by_order Less is = inl (ap is_gt is)
    by_order Equal is = inl (ap is_gt is)
    by_order Greater is = inr (ap is_gt (total.antisymm y x ∙ ap ordering_reverse is))

-- a list that is not empty has a first: one of which a fact of each holds, and which is after none
pub first_of : {X : Type 0} (R : X → X → Ordering) → IsTotalOrder R → (P : X → Type 0) (x : X) (xs : List X) → P x → AllByRecursion P xs
    → (m : X) × P m × AllByRecursion (λ y. is_gt (R m y) ≡ false) (x ∷ xs)
first_of R total P x [] here each = (x, here, (ap is_gt (tied_itself total x), tt))
first_of {X} R total P x (y ∷ ys) here each =
    let rest = first_of R total P y ys each.0 each.1 in
    elim (one_way R total x rest.0) [
      | inl first ↦ (
        x,
        here,
        (
          ap is_gt (tied_itself total x),
          each-weaker (λ z. is_gt (R rest.0 z) ≡ false) (λ z. is_gt (R x z) ≡ false)
              (λ z le. upto total x rest.0 z first le) (y ∷ ys) rest.2,
        ),
      )
      | inr later ↦ (rest.0, rest.1, (later, rest.2))
    ]

-- what holds of each image holds of the image of each
from_map : {X Y : Type 0} (P : Y → Type 0) (f : X → Y) (xs : List X) → AllByRecursion P (map f xs) → AllByRecursion (λ x. P (f x)) xs
from_map P f [] each = tt
from_map P f (x ∷ xs) each = (each.0, from_map P f xs each.1)

-- what holds of each that passes a test holds of each, where that passes
pub from_filter : {X : Type 0} (P : X → Type 0) (test : X → Bool) (xs : List X) → AllByRecursion P (filter test xs)
    → AllByRecursion (λ x. test x ≡ true → P x) xs
from_filter P test [] each = tt
from_filter P test (x ∷ xs) each =
    elim (test x) as (λ b. AllByRecursion P (cond b (x ∷ filter test xs) (filter test xs))
    → (b ≡ true → P x) × AllByRecursion (λ y. test y ≡ true → P y) xs) [
      | true ↦ λ each. ((λ _. each.0), from_filter P test xs each.1)
      | false ↦ λ each. ((λ no_pass. absurd (cc)), from_filter P test xs each)
    ] each

-- each that passes a test passes it
to_filter : {X : Type 0} (P : X → Type 0) (test : X → Bool) (xs : List X) → AllByRecursion P xs
    → AllByRecursion (λ x. P x × (test x ≡ true)) (filter test xs)
to_filter P test [] each = tt
to_filter P test (x ∷ xs) each =
    elim (test x) as (λ b. test x ≡ b → AllByRecursion (λ y. P y × (test y ≡ true)) (cond b (x ∷ filter test xs) (filter test xs))) [
      | true ↦ λ e. ((each.0, e), to_filter P test xs each.1)
      | false ↦ λ e. to_filter P test xs each.1
    ] refl

-- what holds of each row under its name holds of the row of each name, where it does of a fresh one
pub row_of-named : (shape : Shape) (P : RowName → Contents → Type 0) (name : RowName) (rows : List (RowName × Contents))
    → AllByRecursion (λ (r : RowName × Contents). P r.0 r.1) rows → P name (fresh (fresh_of shape name.part))
    → P name (unwrap_or (lookup (is_at (row_cmp name)) rows) (fresh (fresh_of shape name.part)))
row_of-named shape P name [] each new = new
row_of-named shape P name (r ∷ rs) each new =
    elim (is_at (row_cmp name) r.0) as (λ b. is_at (row_cmp name) r.0 ≡ b
    → P name (unwrap_or (cond b (Some r.1) (lookup (is_at (row_cmp name)) rs)) (fresh (fresh_of shape name.part)))) [
      | true ↦ λ tie. subst (λ (n : RowName). P n r.1) (sym (same_row name r.0 tie)) each.0
      | false ↦ λ tie. row_of-named shape P name rs each.1 new
    ] refl

module _ {X : Type 0} (items : Contents → List X) (keep : RowName → X → Bool) (shape : Shape) (run : Run) where
  -- what the rows hold, each with its row's name
  abbrev held_in : List (RowName × Contents) → List (RowName × X)
  held_in rows = flat_map (λ (r : RowName × Contents). map (λ (x : X). (r.0, x)) (items r.1)) rows

  -- a fact of what each row holds is one of all that is held
  to_held : (P : RowName × X → Type 0) (rows : List (RowName × Contents))
      → AllByRecursion (λ (r : RowName × Contents). AllByRecursion (λ x. P (r.0, x)) (items r.1)) rows → AllByRecursion P (held_in rows)
  to_held P [] each = tt
  to_held P (r ∷ rs) each =
      each-append P (map (λ (x : X). (r.0, x)) (items r.1)) (held_in rs) (each-map P (λ (x : X). (r.0, x)) (items r.1) each.0)
      (to_held P rs each.1)

  -- and back
  from_held : (P : RowName × X → Type 0) (rows : List (RowName × Contents)) → AllByRecursion P (held_in rows)
      → AllByRecursion (λ (r : RowName × Contents). AllByRecursion (λ x. P (r.0, x)) (items r.1)) rows
  from_held P [] each = tt
  from_held P (r ∷ rs) each =
      let parts = each-apart P (map (λ (x : X). (r.0, x)) (items r.1)) (held_in rs) each in
      (from_map P (λ (x : X). (r.0, x)) (items r.1) parts.0, from_held P rs parts.1)

  -- a row of the run holds a thing that is kept
  pub record Holds (name : RowName) (x : X) : Type 0 where
    pub has : Contains (items (row_of shape run name)) x
    pub kept : keep name x ≡ true

  -- each thing that is held is held by a row of the run
  each-held : AreRowsInOrder run → AllByRecursion (λ (h : RowName × X). Contains (items (row_of shape run h.0)) h.1) (held_in run.rows)
  each-held order =
      to_held (λ (h : RowName × X). Contains (items (row_of shape run h.0)) h.1) run.rows
      (each-weaker (λ (r : RowName × Contents). lookup (is_at (row_cmp r.0)) run.rows ≡ Some r.1)
      (λ (r : RowName × Contents). AllByRecursion (Contains (items (row_of shape run r.0))) (items r.1))
      (λ r found. subst (λ o. AllByRecursion (Contains (items (unwrap_or o (fresh (fresh_of shape r.0.part))))) (items r.1)) (sym found)
      (recursion_from_All (Contains (items r.1)) (items r.1) (All-contains_itself (items r.1))))
      run.rows (each_found row_cmp-total run.rows order.sorted))

  -- a fact of each thing that is held and kept is one of what each row holds
  held-each : (P : RowName × X → Type 0) → ((s : State) → items (fresh s) ≡ [])
      → AllByRecursion P (filter (λ (h : RowName × X). keep h.0 h.1) (held_in run.rows))
      → (name : RowName) (x : X) → Holds name x → P (name, x)
  held-each P none each name x holds =
      All-contains (λ y. keep name y ≡ true → P (name, y)) (items (row_of shape run name)) x
      (All-from_recursion (λ y. keep name y ≡ true → P (name, y)) (items (row_of shape run name))
      (row_of-named shape (λ n c. AllByRecursion (λ y. keep n y ≡ true → P (n, y)) (items c)) name run.rows
      (from_held (λ (h : RowName × X). keep h.0 h.1 ≡ true → P h) run.rows
      (from_filter P (λ (h : RowName × X). keep h.0 h.1) (held_in run.rows) each))
      (subst (AllByRecursion (λ y. keep name y ≡ true → P (name, y))) (sym (none (fresh_of shape name.part))) tt)))
      holds.has holds.kept

  -- a thing that is held and kept, and is after no other
  pub record IsFirst (R : RowName × X → RowName × X → Ordering) (name : RowName) (x : X) : Type 0 where
    pub holds : Holds name x
    pub first : (other : RowName) (y : X) → Holds other y → is_gt (R (name, x) (other, y)) ≡ false

  -- nothing is held and kept, or there is a first
  pub none_or_first : (R : RowName × X → RowName × X → Ordering) → IsTotalOrder R → AreRowsInOrder run
      → ((s : State) → items (fresh s) ≡ [])
      → ((name : RowName) (x : X) → Holds name x → ⊥) ⊎ ((name : RowName) × (x : X) × IsFirst R name x)
  none_or_first R total order none = by_list (filter (λ (h : RowName × X). keep h.0 h.1) (held_in run.rows)) refl
    where
      by_list : (hs : List (RowName × X)) → filter (λ (h : RowName × X). keep h.0 h.1) (held_in run.rows) ≡ hs
          → ((name : RowName) (x : X) → Holds name x → ⊥) ⊎ ((name : RowName) × (x : X) × IsFirst R name x)
      by_list [] is = inl (held-each (λ h. ⊥) none (subst (AllByRecursion (λ h. ⊥)) (sym is) tt))
      by_list (h ∷ hs) is =
          let each = subst (AllByRecursion (λ (h : RowName × X). Contains (items (row_of shape run h.0)) h.1 × (keep h.0 h.1 ≡ true))) is
          (to_filter (λ (h : RowName × X). Contains (items (row_of shape run h.0)) h.1) (λ (h : RowName × X). keep h.0 h.1)
          (held_in run.rows) (each-held order)) in
          let first = first_of R total (λ (h : RowName × X). Contains (items (row_of shape run h.0)) h.1 × (keep h.0 h.1 ≡ true)) h hs
          each.0 each.1 in
          inr (
            first.0.0,
            first.0.1,
            record {
              holds = record { has = first.1.0; kept = first.1.1 };
              first = held-each (λ y. is_gt (R first.0 y) ≡ false) none
                  (subst (AllByRecursion (λ y. is_gt (R first.0 y) ≡ false)) (sym is) first.2);
            },
          )

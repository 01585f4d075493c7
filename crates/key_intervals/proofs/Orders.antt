-- The orders of all parts where some intervals of one part end and others of it are appended.
use Rattle.std.proofs.Common.{◌≡◌, ◌<◌, ◌∙◌, ◌⊎◌, ℕ, zero, suc, List, [], ◌∷◌, Bool, true, false, Some, length, set, arith, refl, sym, ap, subst, inl, inr}
use Rattle.std.specs.Prelude.{slice_get}
use Rattle.std.specs.Ordering.{is_le}
use Rattle.std.specs.declared.cmp.Ordering.TheVariants.{Less}
use Rattle.std.proofs.lemmas.Bool.{cases_eq, false_from_ne_true}
use Rattle.std.proofs.lemmas.List.{length-set}
use Rattle.list_lemmas.proofs.Lists.{some_same}
use Rattle.mw_types.specs.Orders.{key_cmp}
use Rattle.mw_types.specs.declared.identity.RowName.{RowName}
use Rattle.key_intervals.specs.declared.bounds.Bounds.{Bounds}
use Rattle.key_intervals.specs.declared.given.Given.{Given}
use Rattle.key_intervals.specs.Intervals.{covers, ends_after}
use Rattle.key_intervals.specs.Division.{fresh, AreDivided}
use Rattle.key_intervals.specs.Index.{AreOrders, IsOrder}
use Rattle.key_intervals.proofs.GivenLists.{AreEnded, with_fresh, bounds-origin}
use Rattle.key_intervals.proofs.KeyOrder.{below_is_upto, never_back, upto_itself}
use Rattle.key_intervals.proofs.Lookup.{has_row}
use Rattle.key_intervals.proofs.OrderLaws.{order-kept}

-- what is put at a place stands there
set-same : {X : Type 0} (xs : List X) (n : ℕ) (x : X) → n < length xs → slice_get (set xs n x) n ≡ Some x
set-same [] n x less = absurd (omega (arith, less))
set-same (y ∷ xs) zero x less = refl
set-same (y ∷ xs) (suc n) x less = set-same xs n x (omega (arith, less))

-- and elsewhere all stays
set-other : {X : Type 0} (xs : List X) (n i : ℕ) (x : X) → (i ≡ n → ⊥) → slice_get (set xs n x) i ≡ slice_get xs i
set-other [] n i x other = refl
set-other (y ∷ xs) zero zero x other = absurd (other refl)
set-other (y ∷ xs) zero (suc i) x other = refl
set-other (y ∷ xs) (suc n) zero x other = refl
set-other (y ∷ xs) (suc n) (suc i) x other = set-other xs n i x (λ same. other (ap suc same))

-- of two live intervals of a part the one that begins earlier ends before the other begins
pub ends-by : (parts : ℕ) (given : List Given) (m n : ℕ) (b c : Bounds) → AreDivided parts given → slice_get given m ≡ Some (fresh b)
    → slice_get given n ≡ Some (fresh c) → b.part ≡ c.part → key_cmp b.from c.from ≡ Less → ends_after b.to c.from ≡ false
ends-by parts given m n b c are one two part less = false_from_ne_true (ends_after b.to c.from) (λ ends.
    let name : RowName = record { part = c.part; key = c.from } in
    let first : covers b name ≡ true = has_row b name part (below_is_upto b.from c.from less) ends in
    let next : covers c name ≡ true = has_row c name refl (upto_itself c.from) (are.rising n (fresh c) two) in
    let same : m ≡ n = are.once name m n (b, one, first) (c, two, next) in
    let is : b ≡ c = ap (λ (g : Given). g.bounds) (some_same (fresh b) (fresh c) (sym one ∙ ap (slice_get given) same ∙ two)) in
    never_back b.from c.from less (ap (λ (d : Bounds). is_le (key_cmp c.from d.from)) is ∙ upto_itself c.from))

module _ (test : ℕ → Bool) (given rest : List Given) (added : List Bounds) (ended : AreEnded test given rest)
    (orders : List (List ℕ)) (part : ℕ) (order : List ℕ) (kept : AreOrders given orders) (inside : part < length orders)
    (old_part : (n : ℕ) (b : Bounds) → slice_get given n ≡ Some (fresh b) → test n ≡ true → b.part ≡ part)
    (new_part : (k : ℕ) (b : Bounds) → slice_get added k ≡ Some b → b.part ≡ part)
    (is : IsOrder (with_fresh rest added) part order) where
  -- with the new order of that part the orders are those of the parts
  pub orders-exchanged : AreOrders (with_fresh rest added) (set orders part order)
  orders-exchanged = record { there = there; each = λ q numbers at. by_part q numbers at (cases_eq q part) }
    where
      there : (n : ℕ) (g : Given) → slice_get (with_fresh rest added) n ≡ Some g → g.bounds.part < length (set orders part order)
      there n g at = elim (bounds-origin test given rest added ended n g at) [
        | inl old ↦ let was = ap (λ (b : Bounds). b.part) old.2 in
            omega (arith, kept.there n old.0 old.1, was, length-set orders part order)
        | inr new ↦ omega (arith, new_part new.0 g.bounds new.1, inside, length-set orders part order)
      ]

      by_part : (q : ℕ) (numbers : List ℕ) → slice_get (set orders part order) q ≡ Some numbers → (q ≡ part) ⊎ (q ≡ part → ⊥)
          → IsOrder (with_fresh rest added) q numbers
      by_part q numbers at (inl same) =
          let own : order ≡ numbers = some_same order numbers
          (sym (set-same orders part order inside) ∙ ap (slice_get (set orders part order)) (sym same) ∙ at) in
          subst (λ p. IsOrder (with_fresh rest added) p numbers) (sym same) (subst (IsOrder (with_fresh rest added) part) own is)
      by_part q numbers at (inr other) =
          order-kept test given rest added ended q numbers
          (λ n of. false_from_ne_true (test n) (λ gone. other (sym of.2 ∙ old_part n of.0 of.1 gone)))
          (λ k b there of. other (sym of ∙ new_part k b there))
          (kept.each q numbers (sym (set-other orders part q order other) ∙ at))

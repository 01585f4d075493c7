-- The orders of the parts after a merge.
use Rattle.std.proofs.Common.{◌≡◌, ◌<◌, ◌+◌, ◌∙◌, ◌==◌, ◌||◌, ◌∷◌, [], ℕ, List, Bool, true, false, Some, None, length, get_or, set, arith, refl, sym, ap, subst, inl, inr}
use Rattle.std.specs.Prelude.{Option, Contains, flat_map, slice_get, if◌then◌else◌}
use Rattle.std.specs.List.{AllByRecursion}
use Rattle.std.specs.Option.{option_map}
use Rattle.std.specs.Ordering.{is_le}
use Rattle.std.proofs.lemmas.Bool.{eq-eqb, eqb-true, or_cases, or_from, or_parts}
use Rattle.std.proofs.lemmas.List.{length-set}
use Rattle.std.proofs.lemmas.Option.{slice_get_read}
use Rattle.list_lemmas.proofs.Lists.{some_same}
use Rattle.mw_types.specs.Orders.{key_cmp}
use Rattle.key_intervals.specs.declared.bounds.Bounds.{Bounds}
use Rattle.key_intervals.specs.declared.given.Given.{Given}
use Rattle.key_intervals.specs.Division.{bounds_at, fresh, once_ended, once_merged, AreDivided}
use Rattle.key_intervals.specs.Index.{after_merge, from_of, AreInOrder, AreOrders, BeginsBefore, IsOfPart}
use Rattle.key_intervals.specs.Refusing.{merge_refusal}
use Rattle.key_intervals.proofs.GivenLists.{added-at, live-kept, live-origin, two-ended, with_fresh}
use Rattle.key_intervals.proofs.KeyOrder.{upto_itself}
use Rattle.key_intervals.proofs.OrderLaws.{AreHeirs, IsHeir, from-is, kept-heir, order-of_heirs}
use Rattle.key_intervals.proofs.Orders.{orders-exchanged}
use Rattle.key_intervals.proofs.MergeLaws.{MayMerge, may-merge, together, one-at, merge-is, merge-divided}

module _ (given : List Given) (low high : ℕ) (may : MayMerge given low high) (parts : ℕ) (are : AreDivided parts given) where
  -- the two that end
  abbrev either : ℕ → Bool
  either i = (i == low) || (i == high)

  -- what they have together, and what is given after the merge
  abbrev both : Bounds
  both = together given low high may parts are

  abbrev rest : List Given
  rest = once_ended high (once_ended low given)

  abbrev after : List Given
  after = with_fresh rest (both ∷ [])

  -- it has the next number
  both-at : slice_get after (length given) ≡ Some (fresh both)
  both-at =
      let none : length given + 0 ≡ length given = omega arith in
      ap (slice_get after) (sym none) ∙ added-at either given rest (both ∷ []) (two-ended low high given) 0 both refl

  both-heir : (n : ℕ) → n ≡ low → IsHeir given after may.lower.part n (length given)
  both-heir n same =
      let is : from_of after (length given) ≡ from_of given n =
      from-is after (length given) both both-at ∙ sym (from-is given n may.lower (ap (slice_get given) same ∙ may.low_there)) in record {
        of_part = (both, both-at, refl);
        late = ap (λ key. is_le (key_cmp (from_of given n) key)) is ∙ upto_itself (from_of given n);
        early = λ other there before. ap (λ key. key_cmp key (from_of given other)) is ∙ before;
      }

  -- what stands in the place of a number
  abbrev heirs : ℕ → List ℕ
  heirs = after_merge low high (length given)

  heirs-are : (n : ℕ) (s t : Bool) → (n == low) ≡ s → (n == high) ≡ t
      → heirs n ≡ (if s then length given ∷ [] else if t then [] else n ∷ [])
  heirs-are n s t one two =
      ap (λ (u : Bool). if u then length given ∷ [] else if n == high then [] else n ∷ []) one
      ∙ ap (λ (u : Bool). if s then length given ∷ [] else if u then [] else n ∷ []) two

  each-heir : (n : ℕ) → IsOfPart given may.lower.part n → (s t : Bool) → (n == low) ≡ s → (n == high) ≡ t
      → AllByRecursion (IsHeir given after may.lower.part n) (heirs n)
  each-heir n of true t one two = subst (AllByRecursion (IsHeir given after may.lower.part n)) (sym (heirs-are n true t one two))
      (both-heir n (eqb-true n low one), tt)
  each-heir n of false true one two =
      subst (AllByRecursion (IsHeir given after may.lower.part n)) (sym (heirs-are n false true one two)) tt
  each-heir n of false false one two =
      subst (AllByRecursion (IsHeir given after may.lower.part n)) (sym (heirs-are n false false one two)) (
        kept-heir given after may.lower.part n of.0 of.1
            (live-kept either given rest (both ∷ []) (two-ended low high given) n of.0 of.1 (or_from (n == low) (n == high) one two)) of.2,
        tt,
      )

  ordered-heirs : (n : ℕ) (s t : Bool) → (n == low) ≡ s → (n == high) ≡ t → AreInOrder (BeginsBefore after) (heirs n)
  ordered-heirs n true t one two = subst (AreInOrder (BeginsBefore after)) (sym (heirs-are n true t one two)) (tt, tt)
  ordered-heirs n false true one two = subst (AreInOrder (BeginsBefore after)) (sym (heirs-are n false true one two)) tt
  ordered-heirs n false false one two = subst (AreInOrder (BeginsBefore after)) (sym (heirs-are n false false one two)) (tt, tt)

  whole-heirs : (i : ℕ) → IsOfPart after may.lower.part i → (n : ℕ) × IsOfPart given may.lower.part n × Contains (heirs n) i
  whole-heirs i of = elim (live-origin either given rest (both ∷ []) (two-ended low high given) i of.0 of.1) [
    | inl old ↦ let not = or_parts (i == low) (i == high) old.1 in
        (i, (of.0, old.0, of.2), subst (λ l. Contains l i) (sym (heirs-are i false false not.0 not.1)) (0, omega arith, refl))
    | inr new ↦
        let first = one-at given low high may parts are new.0 of.0 new.2 in
        let at : i ≡ length given = omega (arith, new.1, first.0) in (
          low,
          (may.lower, may.low_there, refl),
          subst (λ l. Contains l i) (sym (heirs-are low true (low == high) (eq-eqb low low refl) refl)) (0, omega arith, sym at),
        )
  ]

  -- the part's order is then that after the merge
  merge-heirs : AreHeirs given after may.lower.part heirs
  merge-heirs = record {
    each = λ n of. each-heir n of (n == low) (n == high) refl refl;
    ordered = λ n of. ordered-heirs n (n == low) (n == high) refl refl;
    whole = whole-heirs;
  }

  -- whoever ends is of the part
  ended-part : (n : ℕ) (b : Bounds) → slice_get given n ≡ Some (fresh b) → either n ≡ true → b.part ≡ may.lower.part
  ended-part n b at some = elim (or_cases (n == low) (n == high) some) [
    | inl one ↦ ap (λ (g : Given). g.bounds.part)
        (some_same (fresh b) (fresh may.lower) (sym at ∙ ap (slice_get given) (eqb-true n low one) ∙ may.low_there))
    | inr two ↦ ap (λ (g : Given). g.bounds.part)
        (some_same (fresh b) (fresh may.upper) (sym at ∙ ap (slice_get given) (eqb-true n high two) ∙ may.high_there))
        ∙ sym may.one_part
  ]

  -- with the order of the part after the merge the orders are those of the parts
  pub merge-orders : (orders : List (List ℕ)) (order : List ℕ) → AreOrders given orders → slice_get orders may.lower.part ≡ Some order
      → AreOrders (once_merged low high given) (set orders may.lower.part (flat_map heirs order))
  merge-orders orders order kept at =
      subst (λ all. AreOrders all (set orders may.lower.part (flat_map heirs order))) (sym (merge-is given low high may parts are))
      (orders-exchanged either given rest (both ∷ []) (two-ended low high given) orders may.lower.part (flat_map heirs order) kept
      (kept.there low (fresh may.lower) may.low_there) ended-part
      (λ k b there. ap (λ (c : Bounds). c.part) (sym (one-at given low high may parts are k b there).1))
      (order-of_heirs given after may.lower.part order heirs (kept.each may.lower.part order at) merge-heirs))

-- a merge of intervals with their orders keeps both
pub merge-kept : (given : List Given) (low high : ℕ) (orders : List (List ℕ)) (part first : ℕ) (old new : List ℕ)
    → AreDivided (length orders) given → AreOrders given orders → merge_refusal given low high ≡ None
    → option_map (λ (b : Bounds). b.part) (bounds_at given low) ≡ Some part → old ≡ get_or orders part old
    → first ≡ length given → new ≡ flat_map (after_merge low high first) old
    → AreDivided (length (set orders part new)) (once_merged low high given) × AreOrders (once_merged low high given) (set orders part new)
merge-kept given low high orders part first old new are kept none of at next made =
    let may = may-merge given low high none in
    let is : new ≡ flat_map (after_merge low high (length given)) old = made ∙ ap (λ n. flat_map (after_merge low high n) old) next in
    let same : may.lower.part ≡ part = some_same may.lower.part part
    (sym (ap (λ (o : Option Given). option_map (λ (b : Bounds). b.part) (option_map (λ (g : Given). g.bounds) o)) may.low_there) ∙ of) in
    let inside : part < length orders = omega (arith, kept.there low (fresh may.lower) may.low_there, same) in
    let there : slice_get orders part ≡ Some old = slice_get_read orders (length orders) part old refl inside at in (
      subst (λ n. AreDivided n (once_merged low high given)) (sym (length-set orders part new))
          (merge-divided given low high may (length orders) are),
      subst (λ l. AreOrders (once_merged low high given) (set orders part l)) (sym is)
          (subst (λ p. AreOrders (once_merged low high given) (set orders p (flat_map (after_merge low high (length given)) old))) same
          (merge-orders given low high may (length orders) are orders old kept (ap (slice_get orders) same ∙ there))),
    )

-- with the order put in its place, intervals and orders after the merge are what they are to be
pub merge-done : (given seen made : List Given) (low high : ℕ) (orders lent put : List (List ℕ)) (part : ℕ) (order : List ℕ)
    → AreDivided (length orders) given → seen ≡ given → lent ≡ orders → merge_refusal seen low high ≡ None
    → AreOrders (once_merged low high seen) (set lent part order) → made ≡ once_merged low high given → put ≡ set orders part order
    → AreDivided (length put) made × AreOrders made put
merge-done given seen made low high orders lent put part order are same own none kept is at =
    let may = may-merge given low high (ap (λ all. merge_refusal all low high) (sym same) ∙ none) in
    let many : length orders ≡ length put = sym (ap length at ∙ length-set orders part order) in
    let all = sym (is ∙ ap (once_merged low high) (sym same)) in (
      subst (λ n. AreDivided n made) many
          (subst (AreDivided (length orders)) (sym is) (merge-divided given low high may (length orders) are)),
      subst (AreOrders made) (ap (λ l. set l part order) own ∙ sym at)
          (subst (λ l. AreOrders l (set lent part order)) all kept),
    )

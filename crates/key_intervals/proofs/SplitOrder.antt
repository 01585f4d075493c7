-- The orders of the parts after a split.
use Rattle.std.proofs.Common.{◌≡◌, ◌<◌, ◌+◌, ◌∙◌, ◌⊎◌, ◌==◌, ◌∷◌, [], ℕ, List, Bool, true, false, Some, None, length, get_or, set, arith, refl, sym, ap, subst, inl, inr, true≢false}
use Rattle.std.specs.Prelude.{Option, Contains, flat_map, slice_get, if◌then◌else◌}
use Rattle.std.specs.List.{AllByRecursion}
use Rattle.std.specs.Option.{option_map}
use Rattle.std.specs.Ordering.{is_le}
use Rattle.std.specs.declared.cmp.Ordering.TheVariants.{Less}
use Rattle.std.proofs.lemmas.Bool.{eq-eqb, eqb-true, false_from_ne_true}
use Rattle.std.proofs.lemmas.List.{length-set}
use Rattle.std.proofs.lemmas.Option.{slice_get_read}
use Rattle.list_lemmas.proofs.Lists.{some_same}
use Rattle.mw_types.specs.Orders.{key_cmp}
use Rattle.key_intervals.specs.declared.bounds.Bounds.{Bounds}
use Rattle.key_intervals.specs.declared.given.Given.{Given}
use Rattle.key_intervals.specs.Intervals.{ends_after}
use Rattle.key_intervals.specs.Division.{bounds_at, fresh, lower_of, once_ended, once_split, upper_of, AreDivided}
use Rattle.key_intervals.specs.Index.{after_split, from_of, AreInOrder, AreOrders, BeginsBefore, IsOfPart}
use Rattle.key_intervals.specs.Refusing.{split_refusal}
use Rattle.key_intervals.proofs.Beginnings.{above}
use Rattle.key_intervals.proofs.GivenLists.{added-at, live-kept, live-origin, one-ended, with_fresh}
use Rattle.key_intervals.proofs.KeyOrder.{below_is_upto, ends_before, upto_itself}
use Rattle.key_intervals.proofs.OrderLaws.{AreHeirs, IsHeir, from-is, kept-heir, order-of_heirs}
use Rattle.key_intervals.proofs.Orders.{ends-by, orders-exchanged}
use Rattle.key_intervals.proofs.SplitLaws.{MaySplit, may-split, halves_at, half-at, split-is, split-divided}

module _ (given : List Given) (interval : ℕ) (cut : List ℕ) (may : MaySplit given interval cut) (parts : ℕ)
    (are : AreDivided parts given) where
  -- what is given after the split
  abbrev after : List Given
  after = with_fresh (once_ended interval given) (halves_at given interval cut may)

  -- the lower half has the next number
  low-at : slice_get after (length given) ≡ Some (fresh (lower_of cut may.bounds))
  low-at =
      let none : length given + 0 ≡ length given = omega arith in
      ap (slice_get after) (sym none)
      ∙ added-at (λ i. i == interval) given (once_ended interval given) (halves_at given interval cut may) (one-ended interval given) 0
      (lower_of cut may.bounds) refl

  -- and the upper one the number after it
  high-at : slice_get after (length given + 1) ≡ Some (fresh (upper_of cut may.bounds))
  high-at = added-at (λ i. i == interval) given (once_ended interval given) (halves_at given interval cut may) (one-ended interval given) 1
      (upper_of cut may.bounds) refl

  -- the first keys before and after
  from-was : (n : ℕ) → n ≡ interval → from_of given n ≡ may.bounds.from
  from-was n same = from-is given n may.bounds (ap (slice_get given) same ∙ may.there)

  low-heir : (n : ℕ) → n ≡ interval → IsHeir given after may.bounds.part n (length given)
  low-heir n same =
      let is : from_of after (length given) ≡ from_of given n = from-is after (length given) (lower_of cut may.bounds) low-at ∙ sym (from-was n same) in
      record {
        of_part = (lower_of cut may.bounds, low-at, refl);
        late = ap (λ key. is_le (key_cmp (from_of given n) key)) is ∙ upto_itself (from_of given n);
        early = λ other there before. ap (λ key. key_cmp key (from_of given other)) is ∙ before;
      }

  high-heir : (n : ℕ) → n ≡ interval → IsHeir given after may.bounds.part n (length given + 1)
  high-heir n same =
      let is : from_of after (length given + 1) ≡ cut = from-is after (length given + 1) (upper_of cut may.bounds) high-at in
      record {
        of_part = (upper_of cut may.bounds, high-at, refl);
        late = ap (λ key. is_le (key_cmp (from_of given n) key)) is ∙ ap (λ key. is_le (key_cmp key cut)) (from-was n same)
            ∙ below_is_upto may.bounds.from cut may.above;
        early = λ other there before.
            let next : from_of given other ≡ there.0.from = from-is given other there.0 there.1 in
            let begins : key_cmp may.bounds.from there.0.from ≡ Less =
            ap (λ key. key_cmp key there.0.from) (sym (from-was n same)) ∙ ap (key_cmp (from_of given n)) (sym next) ∙ before in
            let ends : ends_after may.bounds.to there.0.from ≡ false =
            ends-by parts given interval other may.bounds there.0 are may.there there.1 (sym there.2) begins in
            ap (λ key. key_cmp key (from_of given other)) is ∙ ap (key_cmp cut) next
            ∙ above there.0.from cut (false_from_ne_true (is_le (key_cmp there.0.from cut))
            (λ le. true≢false (sym (ends_before there.0.from cut may.bounds.to le may.below) ∙ ends)));
      }

  -- what stands in the place of a number
  abbrev heirs : ℕ → List ℕ
  heirs = after_split interval (length given)

  heirs-split : (n : ℕ) → (n == interval) ≡ true → heirs n ≡ length given ∷ (length given + 1) ∷ []
  heirs-split n same = ap (λ (t : Bool). if t then length given ∷ (length given + 1) ∷ [] else n ∷ []) same

  heirs-kept : (n : ℕ) → (n == interval) ≡ false → heirs n ≡ n ∷ []
  heirs-kept n other = ap (λ (t : Bool). if t then length given ∷ (length given + 1) ∷ [] else n ∷ []) other

  each-heir : (n : ℕ) → IsOfPart given may.bounds.part n → (t : Bool) → (n == interval) ≡ t
      → AllByRecursion (IsHeir given after may.bounds.part n) (heirs n)
  each-heir n of true same = subst (AllByRecursion (IsHeir given after may.bounds.part n)) (sym (heirs-split n same))
      (low-heir n (eqb-true n interval same), (high-heir n (eqb-true n interval same), tt))
  each-heir n of false other = subst (AllByRecursion (IsHeir given after may.bounds.part n)) (sym (heirs-kept n other)) (
    kept-heir given after may.bounds.part n of.0 of.1
        (live-kept (λ i. i == interval) given (once_ended interval given) (halves_at given interval cut may) (one-ended interval given)
        n of.0 of.1 other) of.2,
    tt,
  )

  ordered-heirs : (n : ℕ) (t : Bool) → (n == interval) ≡ t → AreInOrder (BeginsBefore after) (heirs n)
  ordered-heirs n true same = subst (AreInOrder (BeginsBefore after)) (sym (heirs-split n same)) (
    (
      ap (λ key. key_cmp key (from_of after (length given + 1))) (from-is after (length given) (lower_of cut may.bounds) low-at)
          ∙ ap (key_cmp may.bounds.from) (from-is after (length given + 1) (upper_of cut may.bounds) high-at) ∙ may.above,
      tt,
    ),
    (tt, tt),
  )
  ordered-heirs n false other = subst (AreInOrder (BeginsBefore after)) (sym (heirs-kept n other)) (tt, tt)

  whole-heirs : (i : ℕ) → IsOfPart after may.bounds.part i → (n : ℕ) × IsOfPart given may.bounds.part n × Contains (heirs n) i
  whole-heirs i of =
      by_origin (live-origin (λ i. i == interval) given (once_ended interval given) (halves_at given interval cut may)
      (one-ended interval given) i of.0 of.1)
    where
      halved : (n : ℕ) → n ≡ interval → heirs n ≡ length given ∷ (length given + 1) ∷ []
      halved n same = heirs-split n (eq-eqb n interval same)

      by_half : (k : ℕ) → i ≡ length given + k
          → ((k ≡ 0) × (lower_of cut may.bounds ≡ of.0)) ⊎ ((k ≡ 1) × (upper_of cut may.bounds ≡ of.0)) → Contains (heirs interval) i
      by_half k is (inl low) =
          let at : i ≡ length given = omega (arith, is, low.0) in
          subst (λ l. Contains l i) (sym (halved interval refl)) (0, omega arith, sym at)
      by_half k is (inr high) =
          let at : i ≡ length given + 1 = omega (arith, is, high.0) in
          subst (λ l. Contains l i) (sym (halved interval refl)) (1, omega arith, sym at)

      by_origin : ((slice_get given i ≡ Some (fresh of.0)) × ((i == interval) ≡ false))
          ⊎ ((k : ℕ) × (i ≡ length given + k) × (slice_get (halves_at given interval cut may) k ≡ Some of.0))
          → (n : ℕ) × IsOfPart given may.bounds.part n × Contains (heirs n) i
      by_origin (inl old) =
          (i, (of.0, old.0, of.2), subst (λ l. Contains l i) (sym (heirs-kept i old.1)) (0, omega arith, refl))
      by_origin (inr new) =
          (interval, (may.bounds, may.there, refl), by_half new.0 new.1 (half-at given interval cut may new.0 of.0 new.2))

  -- the part's order is then that after the split
  split-heirs : AreHeirs given after may.bounds.part heirs
  split-heirs = record {
    each = λ n of. each-heir n of (n == interval) refl;
    ordered = λ n of. ordered-heirs n (n == interval) refl;
    whole = whole-heirs;
  }

  -- whoever ends is of the part
  ended-part : (n : ℕ) (b : Bounds) → slice_get given n ≡ Some (fresh b) → (n == interval) ≡ true → b.part ≡ may.bounds.part
  ended-part n b at same = ap (λ (g : Given). g.bounds.part)
      (some_same (fresh b) (fresh may.bounds) (sym at ∙ ap (slice_get given) (eqb-true n interval same) ∙ may.there))

  -- and whoever is appended
  added-part : (k : ℕ) (b : Bounds) → slice_get (halves_at given interval cut may) k ≡ Some b → b.part ≡ may.bounds.part
  added-part k b at = elim (half-at given interval cut may k b at) [
    | inl low ↦ ap (λ (c : Bounds). c.part) (sym low.1)
    | inr high ↦ ap (λ (c : Bounds). c.part) (sym high.1)
  ]

  -- with the order of the part after the split the orders are those of the parts
  pub split-orders : (orders : List (List ℕ)) (order : List ℕ) → AreOrders given orders → slice_get orders may.bounds.part ≡ Some order
      → AreOrders (once_split interval cut given) (set orders may.bounds.part (flat_map heirs order))
  split-orders orders order kept at =
      subst (λ all. AreOrders all (set orders may.bounds.part (flat_map heirs order))) (sym (split-is given interval cut may))
      (orders-exchanged (λ i. i == interval) given (once_ended interval given) (halves_at given interval cut may) (one-ended interval given)
      orders may.bounds.part (flat_map heirs order) kept (kept.there interval (fresh may.bounds) may.there) ended-part added-part
      (order-of_heirs given after may.bounds.part order heirs (kept.each may.bounds.part order at) split-heirs))

-- a split of intervals with their orders keeps both
pub split-kept : (injectors : ℕ) (given : List Given) (interval : ℕ) (cut : List ℕ) (orders : List (List ℕ)) (part first : ℕ) (old new : List ℕ)
    → AreDivided (length orders) given → AreOrders given orders → split_refusal injectors given interval cut ≡ None
    → option_map (λ (b : Bounds). b.part) (bounds_at given interval) ≡ Some part → old ≡ get_or orders part old
    → first ≡ length given → new ≡ flat_map (after_split interval first) old
    → AreDivided (length (set orders part new)) (once_split interval cut given) × AreOrders (once_split interval cut given) (set orders part new)
split-kept injectors given interval cut orders part first old new are kept none of at next made =
    let may = may-split injectors given interval cut none in
    let is : new ≡ flat_map (after_split interval (length given)) old = made ∙ ap (λ n. flat_map (after_split interval n) old) next in
    let same : may.bounds.part ≡ part = some_same may.bounds.part part
    (sym (ap (λ (o : Option Given). option_map (λ (b : Bounds). b.part) (option_map (λ (g : Given). g.bounds) o)) may.there) ∙ of) in
    let inside : part < length orders = omega (arith, kept.there interval (fresh may.bounds) may.there, same) in
    let there : slice_get orders part ≡ Some old = slice_get_read orders (length orders) part old refl inside at in (
      subst (λ n. AreDivided n (once_split interval cut given)) (sym (length-set orders part new))
          (split-divided given interval cut may (length orders) are),
      subst (λ l. AreOrders (once_split interval cut given) (set orders part l)) (sym is)
          (subst (λ p. AreOrders (once_split interval cut given) (set orders p (flat_map (after_split interval (length given)) old))) same
          (split-orders given interval cut may (length orders) are orders old kept (ap (slice_get orders) same ∙ there))),
    )

-- with the order put in its place, intervals and orders after the split are what they are to be
pub split-done : (injectors : ℕ) (given seen made : List Given) (interval : ℕ) (cut : List ℕ) (orders lent put : List (List ℕ)) (part : ℕ)
    (order : List ℕ) → AreDivided (length orders) given → seen ≡ given → lent ≡ orders → split_refusal injectors seen interval cut ≡ None
    → AreOrders (once_split interval cut seen) (set lent part order) → made ≡ once_split interval cut given → put ≡ set orders part order
    → AreDivided (length put) made × AreOrders made put
split-done injectors given seen made interval cut orders lent put part order are same own none kept is at =
    let may = may-split injectors given interval cut (ap (λ all. split_refusal injectors all interval cut) (sym same) ∙ none) in
    let many : length orders ≡ length put = sym (ap length at ∙ length-set orders part order) in
    let all = sym (is ∙ ap (once_split interval cut) (sym same)) in (
      subst (λ n. AreDivided n made) many
          (subst (AreDivided (length orders)) (sym is) (split-divided given interval cut may (length orders) are)),
      subst (AreOrders made) (ap (λ l. set l part order) own ∙ sym at)
          (subst (λ l. AreOrders l (set lent part order)) all kept),
    )

-- A search in the order of a part ends at the live interval that has the row.
use Rattle.std.proofs.Common.{◌≡◌, ◌<◌, ◌+◌, ◌∙◌, ◌⊎◌, ℕ, List, true, Some, length, get_or, arith, refl, sym, ap, subst, inl, inr, true≢false}
use Rattle.std.specs.Prelude.{All, slice_get}
use Rattle.std.specs.Ordering.{is_le}
use Rattle.std.specs.declared.cmp.Ordering.TheVariants.{Less}
use Rattle.std.proofs.lemmas.Bool.{cases_order}
use Rattle.std.proofs.lemmas.List.{get_or_default}
use Rattle.std.proofs.lemmas.List.Elements.{All-from_recursion}
use Rattle.std.proofs.lemmas.Option.{slice_get-get_or, slice_get_read, slice_get_within}
use Rattle.list_lemmas.proofs.Lists.{each-weaker}
use Rattle.list_lemmas.proofs.Places.{each-at}
use Rattle.mw_types.specs.Orders.{key_cmp}
use Rattle.mw_types.specs.declared.identity.RowName.{RowName}
use Rattle.key_intervals.specs.declared.bounds.Bounds.{Bounds}
use Rattle.key_intervals.specs.declared.given.Given.{Given}
use Rattle.key_intervals.specs.Intervals.{covers}
use Rattle.key_intervals.specs.Division.{fresh, AreDivided, HasLive}
use Rattle.key_intervals.specs.Index.{begins_by_key, from_of, AreOrders, BeginsBefore, IsLastBegun, IsOfPart, IsOrder}
use Rattle.key_intervals.proofs.KeyOrder.{below_is_upto, ends_before, upto_upto}
use Rattle.key_intervals.proofs.Lookup.{begins_upto, goes_past, of_part}
use Rattle.key_intervals.proofs.OrderLaws.{from-is, ordered-get}
use Rattle.key_intervals.proofs.Orders.{ends-by}

-- the order of a part that is there
pub order-there : (given : List Given) (orders : List (List ℕ)) (part : ℕ) (own numbers : List ℕ) → AreOrders given orders
    → part < length orders → own ≡ get_or orders part own → numbers ≡ own → IsOrder given part numbers
order-there given orders part own numbers kept there at is =
    kept.each part numbers (slice_get_read orders (length orders) part own refl there at ∙ ap Some (sym is))

module _ (parts : ℕ) (given : List Given) (numbers : List ℕ) (name : RowName) (are : AreDivided parts given)
    (order : IsOrder given name.part numbers) (there : name.part < parts) where
  -- the numbers of an order are given
  pub all-given : All (λ n. n < length given) numbers
  all-given = All-from_recursion (λ n. n < length given) numbers
      (each-weaker (IsOfPart given name.part) (λ n. n < length given) (λ n of. slice_get_within given n (fresh of.0) of.1) numbers order.of_part)

  -- and there is one at least
  pub some-given : 0 < length numbers
  some-given = let was = are.each name there in
      let at = order.whole was.0 (was.1.0, was.1.1, of_part was.1.0 name was.1.2) in omega (arith, at.1)

  module _ (place : ℕ) (last : IsLastBegun given numbers name.key place) where
    -- what stands at a place within is of the part
    at-place : (k : ℕ) → k < length numbers → IsOfPart given name.part (get_or numbers k 0)
    at-place k less = each-at (IsOfPart given name.part) numbers k (get_or numbers k 0) order.of_part (slice_get-get_or numbers k 0 less)

    -- what stands earlier begins before what stands later
    in-order : (k l : ℕ) → k < l → l < length numbers → BeginsBefore given (get_or numbers k 0) (get_or numbers l 0)
    in-order k l less within = ordered-get (BeginsBefore given) numbers k l (get_or numbers k 0) (get_or numbers l 0) order.rising less
        (slice_get-get_or numbers k 0 (omega (arith, less, within))) (slice_get-get_or numbers l 0 within)

    -- the one that has the row stands nowhere else
    is-place : (i : ℕ) (b : Bounds) → slice_get given i ≡ Some (fresh b) → covers b name ≡ true → (k : ℕ) → k < length numbers
        → get_or numbers k 0 ≡ i → (k ≡ place) ⊎ ((k < place) ⊎ (place < k)) → k ≡ place
    is-place i b at has k less is (inl same) = same
    is-place i b at has k less is (inr (inl before)) =
        let found = at-place place last.there in
        let begins : is_le (key_cmp found.0.from name.key) ≡ true =
        ap (λ key. is_le (key_cmp key name.key)) (sym (from-is given (get_or numbers place 0) found.0 found.1))
        ∙ last.begun (omega (arith, before)) in
        let first : key_cmp b.from found.0.from ≡ Less =
        ap (λ key. key_cmp key found.0.from) (sym (from-is given i b at) ∙ ap (from_of given) (sym is))
        ∙ ap (key_cmp (from_of given (get_or numbers k 0))) (sym (from-is given (get_or numbers place 0) found.0 found.1))
        ∙ in-order k place before last.there in
        absurd (true≢false (sym (ends_before found.0.from name.key b.to begins (goes_past b name has))
        ∙ ends-by parts given i (get_or numbers place 0) b found.0 are at found.1 (of_part b name has ∙ sym found.2) first))
    is-place i b at has k less is (inr (inr behind)) =
        let next : place + 1 < length numbers = omega (arith, behind, less) in
        let own : is_le (key_cmp (from_of given (get_or numbers k 0)) name.key) ≡ true =
        ap (λ key. is_le (key_cmp key name.key)) (ap (from_of given) is ∙ from-is given i b at) ∙ begins_upto b name has in
        absurd (true≢false (sym (begins-next (cases_order (place + 1) k) own) ∙ last.later next))
      where
        begins-next : (place + 1 ≡ k) ⊎ ((place + 1 < k) ⊎ (k < place + 1))
            → is_le (key_cmp (from_of given (get_or numbers k 0)) name.key) ≡ true
            → begins_by_key given name.key (get_or numbers (place + 1) 0) ≡ true
        begins-next (inl same) own = ap (λ n. begins_by_key given name.key (get_or numbers n 0)) same ∙ own
        begins-next (inr (inl more)) own =
            upto_upto (from_of given (get_or numbers (place + 1) 0)) (from_of given (get_or numbers k 0)) name.key
            (below_is_upto (from_of given (get_or numbers (place + 1) 0)) (from_of given (get_or numbers k 0))
            (in-order (place + 1) k more less)) own
        begins-next (inr (inr fewer)) own = absurd (omega (arith, fewer, behind))

    -- a live interval that has the row stands at the place
    pub only-place : (i : ℕ) → HasLive given i name → i ≡ get_or numbers place 0
    only-place i has =
        let at = order.whole i (has.0, has.1, of_part has.0 name has.2) in
        let is : get_or numbers at.0 0 ≡ i = sym (get_or_default numbers at.0 i 0 at.1) ∙ at.2 in
        let same : at.0 ≡ place = is-place i has.0 has.1 has.2 at.0 at.1 is (cases_order at.0 place) in
        sym is ∙ ap (λ n. get_or numbers n 0) same

    -- and one does
    pub has-place : HasLive given (get_or numbers place 0) name
    has-place = let was = are.each name there in subst (λ i. HasLive given i name) (only-place was.0 was.1) was.1

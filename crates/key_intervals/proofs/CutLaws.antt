-- A cut within an interval divides its rows between two halves.
use Rattle.std.proofs.Common.{◌≡◌, List, ℕ, true, inl, inr, ◌⊎◌}
use Rattle.std.proofs.lemmas.Bool.{cases_Bool}
use Rattle.std.specs.Ordering.{is_lt}
use Rattle.std.specs.declared.cmp.Ordering.TheVariants.{Less}
use Rattle.list_lemmas.proofs.Tests.{less_from_test}
use Rattle.mw_types.specs.Orders.{key_cmp}
use Rattle.mw_types.specs.declared.identity.RowName.{RowName}
use Rattle.key_intervals.specs.declared.bounds.Bounds.{Bounds}
use Rattle.key_intervals.specs.Intervals.{covers, ends_after}
use Rattle.key_intervals.specs.Division.{lower_of, upper_of}
use Rattle.key_intervals.proofs.KeyOrder.{below_is_upto, ends_before, never_back, not_below, upto_upto}
use Rattle.key_intervals.proofs.Lookup.{begins_upto, goes_past, has_row, of_part}

module _ (b : Bounds) (cut : List ℕ) (above : key_cmp b.from cut ≡ Less) (below : ends_after b.to cut ≡ true) (name : RowName) where
  -- the lower half has no row that the whole has not
  pub lower-within : covers (lower_of cut b) name ≡ true → covers b name ≡ true
  lower-within low =
      let less : key_cmp name.key cut ≡ Less = less_from_test (key_cmp name.key cut) (goes_past (lower_of cut b) name low) in
      has_row b name (of_part (lower_of cut b) name low) (begins_upto (lower_of cut b) name low)
      (ends_before name.key cut b.to (below_is_upto name.key cut less) below)

  -- nor has the upper half
  pub upper-within : covers (upper_of cut b) name ≡ true → covers b name ≡ true
  upper-within high =
      has_row b name (of_part (upper_of cut b) name high)
      (upto_upto b.from cut name.key (below_is_upto b.from cut above) (begins_upto (upper_of cut b) name high))
      (goes_past (upper_of cut b) name high)

  -- a row of the whole is in a half
  pub in_a_half : covers b name ≡ true → (covers (lower_of cut b) name ≡ true) ⊎ (covers (upper_of cut b) name ≡ true)
  in_a_half has = elim (cases_Bool (is_lt (key_cmp name.key cut))) [
    | inl less ↦ inl (has_row (lower_of cut b) name (of_part b name has) (begins_upto b name has) less)
    | inr not ↦ inr (has_row (upper_of cut b) name (of_part b name has) (not_below name.key cut not) (goes_past b name has))
  ]

  -- and in one of them alone
  pub in_one_half : covers (lower_of cut b) name ≡ true → covers (upper_of cut b) name ≡ true → ⊥
  in_one_half low high =
      never_back name.key cut (less_from_test (key_cmp name.key cut) (goes_past (lower_of cut b) name low))
      (begins_upto (upper_of cut b) name high)

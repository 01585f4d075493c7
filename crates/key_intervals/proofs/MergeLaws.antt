-- A merge that is not refused leaves each row in one live interval.
use Rattle.std.proofs.Common.{◌≡◌, ◌≤◌, ◌+◌, ◌∙◌, ◌⊎◌, ◌==◌, ◌||◌, ◌&&◌, ◌∷◌, [], ℕ, zero, suc, List, Bool, true, false, cond, Some, None, length, refl, sym, ap, subst, inl, inr, true≢false}
use Rattle.std.specs.Prelude.{Option, nat_lt, slice_get}
use Rattle.std.specs.Option.{option_map, option_map_or}
use Rattle.std.specs.declared.cmp.Ordering.TheVariants.{Less}
use Rattle.std.proofs.lemmas.Bool.{eq-eqb, eqb-true, ltb-false, and_parts, or_cases, or_left, or_right}
use Rattle.list_lemmas.proofs.Lists.{none_some, some_same}
use Rattle.list_lemmas.proofs.Tests.{equal_from_test, less_from_test}
use Rattle.mw_types.specs.Orders.{key_cmp}
use Rattle.mw_types.specs.declared.identity.RowName.{RowName}
use Rattle.key_intervals.specs.declared.bounds.Bounds.{Bounds}
use Rattle.key_intervals.specs.declared.given.Given.{Given}
use Rattle.key_intervals.specs.declared.TheConstants.{INTERVALS_MAX}
use Rattle.key_intervals.specs.Intervals.{covers, ends_after}
use Rattle.key_intervals.specs.Division.{bounds_at, fresh, is_live, joined, lower_of, once_ended, once_merged, upper_of, AreDivided, HasLive}
use Rattle.key_intervals.specs.Refusing.{ends_at, meet_at, meets, merge_refusal}
use Rattle.key_intervals.proofs.KeyOrder.{below_is_upto, ends_before, same_key}
use Rattle.key_intervals.proofs.CutLaws.{in_a_half, lower-within, upper-within}
use Rattle.key_intervals.proofs.Exchanged.{HaveTheirRows, exchanged-divided}
use Rattle.key_intervals.proofs.GivenLists.{two-ended, with_fresh}
use Rattle.key_intervals.proofs.SplitLaws.{live-at, nothing-against}

-- two intervals that may be merged: they are live, and the first ends, in their part, where the second begins
pub record MayMerge (given : List Given) (low high : ℕ) : Type 0 where
  pub lower : Bounds
  pub upper : Bounds
  pub low_there : slice_get given low ≡ Some (fresh lower)
  pub high_there : slice_get given high ≡ Some (fresh upper)
  pub one_part : lower.part ≡ upper.part
  pub meet : lower.to ≡ Some upper.from
  pub few : length given + 1 ≤ INTERVALS_MAX

-- where an interval ends at a key, that is its end
ends-there : (to : Option (List ℕ)) (key : List ℕ) → ends_at to key ≡ true → to ≡ Some key
ends-there None key ends = absurd (true≢false (sym ends))
ends-there (Some end) key ends = ap Some (same_key end key (equal_from_test (key_cmp end key) ends))

-- what is not refused may be done
pub may-merge : (given : List Given) (low high : ℕ) → merge_refusal given low high ≡ None → MayMerge given low high
may-merge given low high none =
    let first = nothing-against (is_live given low && is_live given high) _ _ none in
    let next = nothing-against (meet_at given low high) _ _ first.1 in
    let both = and_parts (is_live given low) (is_live given high) first.0 in
    let one = live-at (slice_get given low) both.0 in
    let two = live-at (slice_get given high) both.1 in
    let meet : meets one.0 two.0 ≡ true =
    ap (λ (o : Option Given). option_map_or (meets one.0) (option_map (λ (g : Given). g.bounds) o) false) (sym two.1)
    ∙ ap (λ (o : Option Given). option_map_or (λ (a : Bounds). option_map_or (meets a) (bounds_at given high) false)
    (option_map (λ (g : Given). g.bounds) o) false) (sym one.1) ∙ next.0 in
    let parts = and_parts (one.0.part == two.0.part) (ends_at one.0.to two.0.from) meet in record {
      lower = one.0;
      upper = two.0;
      low_there = one.1;
      high_there = two.1;
      one_part = eqb-true one.0.part two.0.part parts.0;
      meet = ends-there one.0.to two.0.from parts.1;
      few = room _ (nat_lt INTERVALS_MAX (length given + 1)) refl next.1;
    }
  where
    room : {W : Type 0} (why : W) (b : Bool) → nat_lt INTERVALS_MAX (length given + 1) ≡ b → cond b (Some why) None ≡ None
        → length given + 1 ≤ INTERVALS_MAX
    room why true e none = absurd (none_some why (sym none))
    room why false e none = ltb-false INTERVALS_MAX (length given + 1) e

module _ (given : List Given) (low high : ℕ) (may : MayMerge given low high) (parts : ℕ) (are : AreDivided parts given) where
  -- what the two have together, which is cut where they meet
  abbrev pub together : Bounds
  together = joined may.lower may.upper

  above : key_cmp together.from may.upper.from ≡ Less
  above = less_from_test (key_cmp may.lower.from may.upper.from)
      (ap (λ to. ends_after to may.lower.from) (sym may.meet) ∙ are.rising low (fresh may.lower) may.low_there)

  below : ends_after together.to may.upper.from ≡ true
  below = are.rising high (fresh may.upper) may.high_there

  -- the halves are the two
  lower-is : lower_of may.upper.from together ≡ may.lower
  lower-is = ap (λ to. record may.lower { to = to }) (sym may.meet)

  upper-is : upper_of may.upper.from together ≡ may.upper
  upper-is = ap (λ part. record may.upper { part = part }) may.one_part

  -- after the merge both have ended, and what they have together has a number
  pub merge-is : once_merged low high given ≡ with_fresh (once_ended high (once_ended low given)) (together ∷ [])
  merge-is = rw (may.low_there, may.high_there)

  -- what stands alone
  pub one-at : (k : ℕ) (b : Bounds) → slice_get (together ∷ []) k ≡ Some b → (k ≡ 0) × (together ≡ b)
  one-at zero b at = (refl, some_same together b at)
  one-at (suc k) b at = absurd (none_some b at)

  -- a row of either is one of both together
  in-both : (name : RowName) (i : ℕ) → HasLive given i name → ((i == low) ≡ true) ⊎ ((i == high) ≡ true) → covers together name ≡ true
  in-both name i has (inl same) =
      let is : has.0 ≡ may.lower = ap (λ (g : Given). g.bounds) (some_same (fresh has.0) (fresh may.lower)
      (sym has.1 ∙ ap (slice_get given) (eqb-true i low same) ∙ may.low_there)) in
      lower-within together may.upper.from above below name (ap (λ (b : Bounds). covers b name) (lower-is ∙ sym is) ∙ has.2)
  in-both name i has (inr same) =
      let is : has.0 ≡ may.upper = ap (λ (g : Given). g.bounds) (some_same (fresh has.0) (fresh may.upper)
      (sym has.1 ∙ ap (slice_get given) (eqb-true i high same) ∙ may.high_there)) in
      upper-within together may.upper.from above below name (ap (λ (b : Bounds). covers b name) (upper-is ∙ sym is) ∙ has.2)

  -- a row of both together is one of either
  of-either : (name : RowName) → covers together name ≡ true
      → (i : ℕ) × (c : Bounds) × (slice_get given i ≡ Some (fresh c)) × (covers c name ≡ true) × (((i == low) || (i == high)) ≡ true)
  of-either name has = elim (in_a_half together may.upper.from above below name has) [
    | inl lower ↦ (
      low,
      may.lower,
      may.low_there,
      ap (λ (b : Bounds). covers b name) (sym lower-is) ∙ lower,
      or_left (low == low) (low == high) (eq-eqb low low refl),
    )
    | inr upper ↦ (
      high,
      may.upper,
      may.high_there,
      ap (λ (b : Bounds). covers b name) (sym upper-is) ∙ upper,
      or_right (high == low) (high == high) (eq-eqb high high refl),
    )
  ]

  -- both together have the rows of the two
  both-have : HaveTheirRows (λ i. (i == low) || (i == high)) given (together ∷ [])
  both-have = record {
    all = λ name i has some. (0, together, refl, in-both name i has (or_cases (i == low) (i == high) some));
    no_other = λ name k b at has. of-either name (ap (λ (c : Bounds). covers c name) (one-at k b at).1 ∙ has);
    once = λ name k l a b at other has too. (one-at k a at).0 ∙ sym (one-at l b other).0;
    rising = λ k b at. ap (λ (c : Bounds). ends_after c.to c.from) (sym (one-at k b at).1)
        ∙ ends_before may.lower.from may.upper.from may.upper.to (below_is_upto may.lower.from may.upper.from above) below;
    few = may.few;
  }

  -- each row is still in one live interval
  pub merge-divided : AreDivided parts (once_merged low high given)
  merge-divided = subst (AreDivided parts) (sym merge-is)
      (exchanged-divided parts (λ i. (i == low) || (i == high)) given (once_ended high (once_ended low given)) (together ∷ [])
      (two-ended low high given) both-have are)

-- A split that is not refused leaves each row in one live interval.
use Rattle.std.proofs.Common.{◌≡◌, ◌≤◌, ◌+◌, ◌∙◌, ◌⊎◌, ◌==◌, ◌&&◌, ◌++◌, ◌∷◌, [], ℕ, zero, suc, List, Bool, true, false, cond, not, Some, None, length, refl, sym, ap, subst, inl, inr, true≢false}
use Rattle.std.specs.Prelude.{Option, nat_le, nat_lt, slice_get}
use Rattle.std.specs.Option.{option_map, option_map_or}
use Rattle.std.specs.Ordering.{is_lt}
use Rattle.std.specs.declared.cmp.Ordering.TheVariants.{Less}
use Rattle.std.proofs.lemmas.Bool.{eq-eqb, eqb-true, ltb-false}
use Rattle.list_lemmas.proofs.Lists.{none_some, some_same}
use Rattle.list_lemmas.proofs.Tests.{less_from_test}
use Rattle.mw_types.specs.Orders.{key_cmp}
use Rattle.mw_types.specs.declared.identity.RowName.{RowName}
use Rattle.key_intervals.specs.declared.bounds.Bounds.{Bounds}
use Rattle.key_intervals.specs.declared.given.Given.{Given}
use Rattle.key_intervals.specs.declared.TheConstants.{INTERVALS_MAX}
use Rattle.key_intervals.specs.Intervals.{covers, ends_after}
use Rattle.key_intervals.specs.Division.{fresh, is_live, lower_of, once_ended, once_split, upper_of, AreDivided, HasLive}
use Rattle.key_intervals.specs.Refusing.{may_cut, may_cut_at, split_refusal}
use Rattle.key_intervals.proofs.CutLaws.{in_a_half, in_one_half, lower-within, upper-within}
use Rattle.key_intervals.proofs.Exchanged.{HaveTheirRows, exchanged-divided}
use Rattle.key_intervals.proofs.GivenLists.{one-ended, with_fresh}

-- what has no reason against it passes the first test, and has none behind that
pub nothing-against : {W : Type 0} (b : Bool) (why : W) (rest : Option W) → cond (not b) (Some why) rest ≡ None
    → (b ≡ true) × (rest ≡ None)
nothing-against true why rest e = (refl, e)
nothing-against false why rest e = absurd (none_some why (sym e))

-- what a live number has
pub live-at : (o : Option Given) → option_map_or (λ (g : Given). g.live) o false ≡ true → (b : Bounds) × (o ≡ Some (fresh b))
live-at None live = absurd (true≢false (sym live))
live-at (Some g) live = (g.bounds, ap (λ (l : Bool). Some (record g { live = l })) live)

-- where three tests pass, the last two do
last-two : (a b c : Bool) → (a && b && c) ≡ true → (b ≡ true) × (c ≡ true)
last-two true true c pass = (refl, pass)
last-two true false c pass = absurd (true≢false (sym pass))
last-two false b c pass = absurd (true≢false (sym pass))

-- an interval that may be split: it is live, and the cut is within
pub record MaySplit (given : List Given) (interval : ℕ) (cut : List ℕ) : Type 0 where
  pub bounds : Bounds
  pub there : slice_get given interval ≡ Some (fresh bounds)
  pub above : key_cmp bounds.from cut ≡ Less
  pub below : ends_after bounds.to cut ≡ true
  pub few : length given + 2 ≤ INTERVALS_MAX

-- what is not refused may be done
pub may-split : (injectors : ℕ) (given : List Given) (interval : ℕ) (cut : List ℕ) → split_refusal injectors given interval cut ≡ None
    → MaySplit given interval cut
may-split injectors given interval cut none =
    let first = nothing-against (is_live given interval) _ _ none in
    let next = nothing-against (may_cut_at injectors given interval cut) _ _ first.1 in
    let live = live-at (slice_get given interval) first.0 in
    let may : may_cut injectors cut live.0 ≡ true =
    ap (λ (o : Option Given). option_map_or (may_cut injectors cut) (option_map (λ (g : Given). g.bounds) o) false) (sym live.1) ∙ next.0 in
    let both = last-two (nat_le injectors live.0.part) (is_lt (key_cmp live.0.from cut)) (ends_after live.0.to cut) may in record {
      bounds = live.0;
      there = live.1;
      above = less_from_test (key_cmp live.0.from cut) both.0;
      below = both.1;
      few = room _ (nat_lt INTERVALS_MAX (length given + 2)) refl next.1;
    }
  where
    room : {W : Type 0} (why : W) (b : Bool) → nat_lt INTERVALS_MAX (length given + 2) ≡ b → cond b (Some why) None ≡ None
        → length given + 2 ≤ INTERVALS_MAX
    room why true e none = absurd (none_some why (sym none))
    room why false e none = ltb-false INTERVALS_MAX (length given + 2) e

module _ (given : List Given) (interval : ℕ) (cut : List ℕ) (may : MaySplit given interval cut) where
  -- the halves of the interval
  abbrev pub halves_at : List Bounds
  halves_at = lower_of cut may.bounds ∷ upper_of cut may.bounds ∷ []

  -- after the split one has ended, and its halves have numbers
  pub split-is : once_split interval cut given ≡ with_fresh (once_ended interval given) halves_at
  split-is = ap (λ (o : Option Given). option_map_or
      (λ (b : Bounds). once_ended interval given ++ fresh (lower_of cut b) ∷ fresh (upper_of cut b) ∷ [])
      (option_map (λ (g : Given). g.bounds) o) given) may.there

  -- which of the halves stands at a place
  pub half-at : (k : ℕ) (b : Bounds) → slice_get halves_at k ≡ Some b
      → ((k ≡ 0) × (lower_of cut may.bounds ≡ b)) ⊎ ((k ≡ 1) × (upper_of cut may.bounds ≡ b))
  half-at zero b at = inl (refl, some_same (lower_of cut may.bounds) b at)
  half-at (suc zero) b at = inr (refl, some_same (upper_of cut may.bounds) b at)
  half-at (suc (suc k)) b at = absurd (none_some b at)

  -- a row of a half is one of the whole
  half-within : (name : RowName) (k : ℕ) (b : Bounds) → slice_get halves_at k ≡ Some b → covers b name ≡ true → covers may.bounds name ≡ true
  half-within name k b at has = elim (half-at k b at) [
    | inl low ↦ lower-within may.bounds cut may.above may.below name (ap (λ (c : Bounds). covers c name) low.1 ∙ has)
    | inr high ↦ upper-within may.bounds cut may.above may.below name (ap (λ (c : Bounds). covers c name) high.1 ∙ has)
  ]

  -- the halves have the rows of the whole
  halves-have : HaveTheirRows (λ i. i == interval) given halves_at
  halves-have = record {
    all = λ name i has same. in-half name i has (eqb-true i interval same);
    no_other = λ name k b at has.
        (interval, may.bounds, may.there, half-within name k b at has, eq-eqb interval interval refl);
    once = λ name k l a b at other has too. by_half name k l a b (half-at k a at) (half-at l b other) has too;
    rising = λ k b at. elim (half-at k b at) [
      | inl low ↦ ap (λ (c : Bounds). ends_after c.to c.from) (sym low.1) ∙ ap is_lt may.above
      | inr high ↦ ap (λ (c : Bounds). ends_after c.to c.from) (sym high.1) ∙ may.below
    ];
    few = may.few;
  }
    where
      in-half : (name : RowName) (i : ℕ) → HasLive given i name → i ≡ interval
          → (k : ℕ) × (b : Bounds) × (slice_get halves_at k ≡ Some b) × (covers b name ≡ true)
      in-half name i has same =
          let is : has.0 ≡ may.bounds = ap (λ (g : Given). g.bounds)
          (some_same (fresh has.0) (fresh may.bounds) (sym has.1 ∙ ap (slice_get given) same ∙ may.there)) in
          elim (in_a_half may.bounds cut may.above may.below name (ap (λ (b : Bounds). covers b name) (sym is) ∙ has.2)) [
            | inl low ↦ (0, lower_of cut may.bounds, refl, low)
            | inr high ↦ (1, upper_of cut may.bounds, refl, high)
          ]

      by_half : (name : RowName) (k l : ℕ) (a b : Bounds)
          → ((k ≡ 0) × (lower_of cut may.bounds ≡ a)) ⊎ ((k ≡ 1) × (upper_of cut may.bounds ≡ a))
          → ((l ≡ 0) × (lower_of cut may.bounds ≡ b)) ⊎ ((l ≡ 1) × (upper_of cut may.bounds ≡ b))
          → covers a name ≡ true → covers b name ≡ true → k ≡ l
      by_half name k l a b (inl one) (inl two) has too = one.0 ∙ sym two.0
      by_half name k l a b (inr one) (inr two) has too = one.0 ∙ sym two.0
      by_half name k l a b (inl one) (inr two) has too =
          absurd (in_one_half may.bounds cut may.above may.below name (ap (λ (c : Bounds). covers c name) one.1 ∙ has)
          (ap (λ (c : Bounds). covers c name) two.1 ∙ too))
      by_half name k l a b (inr one) (inl two) has too =
          absurd (in_one_half may.bounds cut may.above may.below name (ap (λ (c : Bounds). covers c name) two.1 ∙ too)
          (ap (λ (c : Bounds). covers c name) one.1 ∙ has))

  -- each row is still in one live interval
  pub split-divided : (parts : ℕ) → AreDivided parts given → AreDivided parts (once_split interval cut given)
  split-divided parts are = subst (AreDivided parts) (sym split-is)
      (exchanged-divided parts (λ i. i == interval) given (once_ended interval given) halves_at (one-ended interval given) halves-have are)

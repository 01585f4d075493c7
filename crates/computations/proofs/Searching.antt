-- What a search in an ascending list finds, and what an edit at that place does.
use Rattle.std.proofs.Common.{◌≡◌, ℕ, zero, suc, ◌+◌, ◌<◌, ◌≤◌, ◌==◌, not, List, [], ◌∷◌, length, get_or, set, Some, None, slice_get, map, filter, find, refl, sym, ap, ◌∙◌, arith}
use Rattle.std.specs.List.{insert, remove}
use Rattle.std.specs.List.Sorted.{IsStrictlySortedBy}
use Rattle.std.specs.Ordering.{nat_cmp}
use Rattle.std.proofs.lemmas.Map.Keys.{below_from_sorted}
use Rattle.std.proofs.lemmas.Bool.Decides.{nat_tests}
use Rattle.std.proofs.lemmas.List.{get_or-map, length-map}
use Rattle.std.proofs.lemmas.Option.{get_or_from_slice_get, slice_get_within}
use Rattle.computations.specs.Handlers.{entered}
use Rattle.computations.specs.Places.{IsPlace, IsGap, IsBetween}

module _ {X : Type 0} (number : X → ℕ) where
  -- past the first element a place is one lower
  IsPlace-tail : (x : X) (xs : List X) (n at : ℕ) → IsPlace number (x ∷ xs) n (suc at) → IsPlace number xs n at
  IsPlace-tail x xs n at p = record {
    in_range = omega (arith, p.in_range);
    before = λ j d lt. p.before (suc j) d (omega arith);
    here = p.here;
    after = λ j d lt within. p.after (suc j) d (omega arith) (omega arith);
  }

  -- past the first element a gap is one lower
  IsGap-tail : (x : X) (xs : List X) (n at : ℕ) → IsGap number (x ∷ xs) n (suc at) → IsGap number xs n at
  IsGap-tail x xs n at g = record {
    in_range = omega (arith, g.in_range);
    before = λ j d lt. g.before (suc j) d (omega arith);
    after = λ j d le within. g.after (suc j) d (omega arith) (omega arith);
  }

  -- a new element goes into its gap
  pub entered-gap : (x : X) (change : X → X) (xs : List X) (at : ℕ) → IsGap number xs (number x) at → entered number x change xs ≡ insert xs at x
  entered-gap x change [] zero g = refl
  entered-gap x change [] (suc at) g = absurd (omega (arith, g.in_range))
  entered-gap x change (y ∷ ys) zero g = grind (arith, nat_tests, g.after 0 y (omega arith) (omega arith))
  entered-gap x change (y ∷ ys) (suc at) g = grind (arith, nat_tests, g.before 0 y (omega arith), entered-gap x change ys at (IsGap-tail y ys _ at g))

  -- an element that has the number is changed in its place
  pub entered-place : (x : X) (change : X → X) (xs : List X) (at : ℕ) (y : X) → IsPlace number xs (number x) at → slice_get xs at ≡ Some y → entered number x change xs ≡ set xs at (change y)
  entered-place x change [] at y p e = absurd (omega (arith, p.in_range))
  entered-place x change (z ∷ zs) zero y p e = grind (arith, nat_tests, p.here z)
  entered-place x change (z ∷ zs) (suc at) y p e = grind (arith, nat_tests, p.before 0 z (omega arith), entered-place x change zs at y (IsPlace-tail z zs _ at p) e)

  -- the element that is read at a number's place has the number
  pub number-place : (xs : List X) (n at : ℕ) (y : X) → IsPlace number xs n at → slice_get xs at ≡ Some y → number y ≡ n
  number-place xs n at y p e = sym (ap number (get_or_from_slice_get xs at y y e)) ∙ p.here y

  -- the element at the number's place is the one that has it
  pub find-place : (xs : List X) (n at : ℕ) → IsPlace number xs n at → find (λ x. number x == n) xs ≡ slice_get xs at
  find-place [] n at p = absurd (omega (arith, p.in_range))
  find-place (x ∷ xs) n zero p = grind (arith, nat_tests, p.here x)
  find-place (x ∷ xs) n (suc at) p = grind (arith, nat_tests, p.before 0 x (omega arith), find-place xs n at (IsPlace-tail x xs n at p))

  -- where the number has a gap no element has it
  pub find-gap : (xs : List X) (n at : ℕ) → IsGap number xs n at → find (λ x. number x == n) xs ≡ None
  find-gap [] n at g = refl
  find-gap (x ∷ xs) n zero g = grind (arith, nat_tests, g.after 0 x (omega arith) (omega arith), find-gap xs n 0 (record { in_range = omega arith; before = λ j d lt. absurd (omega arith); after = λ j d le within. g.after (suc j) d (omega arith) (omega arith) }))
  find-gap (x ∷ xs) n (suc at) g = grind (arith, nat_tests, g.before 0 x (omega arith), find-gap xs n at (IsGap-tail x xs n at g))

  -- elements above the number all pass the test for others
  filter-above : (xs : List X) (n : ℕ) → ((j : ℕ) (d : X) → j < length xs → n < number (get_or xs j d)) → filter (λ x. not (number x == n)) xs ≡ xs
  filter-above [] n above = refl
  filter-above (x ∷ xs) n above = grind (arith, nat_tests, above 0 x (omega arith), filter-above xs n (λ j d within. above (suc j) d (omega arith)))

  -- the others are what is left when the element at the number's place goes
  pub filter-place : (xs : List X) (n at : ℕ) → IsPlace number xs n at → filter (λ x. not (number x == n)) xs ≡ remove xs at
  filter-place [] n at p = absurd (omega (arith, p.in_range))
  filter-place (x ∷ xs) n zero p = grind (arith, nat_tests, p.here x, filter-above xs n (λ j d within. p.after (suc j) d (omega arith) (omega arith)))
  filter-place (x ∷ xs) n (suc at) p = grind (arith, nat_tests, p.before 0 x (omega arith), filter-place xs n at (IsPlace-tail x xs n at p))

module _ {X : Type 0} (number : X → ℕ) (xs : List X) (n : ℕ) (up : IsStrictlySortedBy nat_cmp (map number xs)) where
  -- of two elements the later has the greater number
  pub rises : (i j : ℕ) (d : X) → i < j → j < length xs → number (get_or xs i d) < number (get_or xs j d)
  rises i j d lt within =
      let below = below_from_sorted (map number xs) i j (number d) up lt (omega (arith, length-map xs number)) in
      let at_i = get_or-map number xs i d (number d) (omega arith) in
      let at_j = get_or-map number xs j d (number d) within in
      omega (arith, below, at_i, at_j)

  -- at first the number may stand anywhere
  pub IsBetween-all : IsBetween number xs n 0 (length xs)
  IsBetween-all = record {
    ordered = omega arith;
    in_range = omega arith;
    before = λ j d lt. absurd (omega (arith, lt));
    after = λ j d le within. absurd (omega (arith, le, within));
  }

  -- where the two places meet the number has its gap
  pub IsGap-between : (low high : ℕ) → IsBetween number xs n low high → high ≤ low → IsGap number xs n low
  IsGap-between low high b le = record {
    in_range = omega (arith, b.ordered, b.in_range, le);
    before = b.before;
    after = λ j d from within. b.after j d (omega (arith, le, from)) within;
  }

  module _ (low high middle : ℕ) (x : X) (between : IsBetween number xs n low high) (from : low ≤ middle) (below : middle < high) (read : slice_get xs middle ≡ Some x) where
    -- the element in the middle, whatever stands in for one past the end
    number-middle : (d : X) → number (get_or xs middle d) ≡ number x
    number-middle d = ap number (get_or_from_slice_get xs middle x d read)

    -- where the element in the middle is smaller the number stands after it
    pub IsBetween-after : number x < n → IsBetween number xs n (middle + 1) high
    IsBetween-after lt = record {
      ordered = omega (arith, below);
      in_range = between.in_range;
      before = λ j d le. grind (arith, rises j middle d, number-middle d, between.in_range);
      after = between.after;
    }

    -- where it is greater the number stands before it
    pub IsBetween-before : n < number x → IsBetween number xs n low middle
    IsBetween-before gt = record {
      ordered = from;
      in_range = omega (arith, below, between.in_range);
      before = between.before;
      after = λ j d le within. grind (arith, rises middle j d, number-middle d);
    }

    -- where it is the number it stands there
    pub IsPlace-middle : number x ≡ n → IsPlace number xs n middle
    IsPlace-middle same = record {
      in_range = omega (arith, below, between.in_range);
      before = λ j d lt. omega (arith, rises j middle d lt (omega (arith, below, between.in_range)), number-middle d, same);
      here = λ d. number-middle d ∙ same;
      after = λ j d lt inside. omega (arith, rises middle j d lt inside, number-middle d, same);
    }

module _ {X : Type 0} (number : X → ℕ) (xs : List X) (up : IsStrictlySortedBy nat_cmp (map number xs)) where
  -- the element that is read at a place has its number there
  pub IsPlace-read : (at : ℕ) (y : X) → slice_get xs at ≡ Some y → IsPlace number xs (number y) at
  IsPlace-read at y read =
      let within = slice_get_within xs at y read in
      let here : (d : X) → number (get_or xs at d) ≡ number y = λ d. ap number (get_or_from_slice_get xs at y d read) in
      record {
        in_range = within;
        before = λ j d lt. omega (arith, rises number xs 0 up j at d lt within, here d);
        here = here;
        after = λ j d lt inside. omega (arith, rises number xs 0 up at j d lt inside, here d);
      }

  -- without it the others are left
  pub remove-read : (at : ℕ) (y : X) → slice_get xs at ≡ Some y → remove xs at ≡ filter (λ x. not (number x == number y)) xs
  remove-read at y read = sym (filter-place number xs (number y) at (IsPlace-read at y read))

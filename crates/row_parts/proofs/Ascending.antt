-- Tests of order.
use Rattle.std.proofs.Common.{◌≡◌, ◌+◌, List, [], ◌∷◌, get_or, Bool, true, false, ◌&&◌, refl, sym, ap, ◌∙◌, arith}
use Rattle.std.specs.Bool.{Decides}
use Rattle.std.specs.List.{AllByRecursion, IsAllAdjacentAnswer}
use Rattle.std.specs.List.Sorted.{IsStrictlySortedBy}
use Rattle.std.specs.Cmp.{IsTotalOrder}
use Rattle.std.specs.Ordering.{is_lt}
use Rattle.std.specs.declared.cmp.Ordering.{Ordering}
use Rattle.std.specs.declared.cmp.Ordering.TheVariants.{Less, Equal, Greater}
use Rattle.std.proofs.lemmas.Map.Keys.{sorted_from_all_adjacent, Less-from_sorted}
use Rattle.row_parts.specs.Reading.{follows, ascends}

is_less : (r : Ordering) → true ≡ is_lt r → r ≡ Less
is_less Less e = refl
is_less Equal e = absurd cc
is_less Greater e = absurd cc

-- what a test of each two neighbours decides
pub adjacent_decides : {X : Type 0} {cmp : X → X → Ordering} (o : IsTotalOrder cmp) (xs : List X) (r : Bool)
    → IsAllAdjacentAnswer (λ x y b. b ≡ is_lt (cmp x y)) xs r → Decides r (IsStrictlySortedBy cmp xs)
unfolding IsStrictlySortedBy
adjacent_decides o [] true all = (λ e. tt, λ s. refl)
adjacent_decides {X} {cmp} o (x ∷ xs) true all = (
  λ e. sorted_from_all_adjacent o (x ∷ xs) x
      (λ k h. is_less (cmp (get_or (x ∷ xs) k x) (get_or (x ∷ xs) (k + 1) x)) (all k x h)),
  λ s. refl,
)
adjacent_decides o [] false some = absurd (omega (arith, some.1))
adjacent_decides {X} {cmp} o (x ∷ xs) false some = (
  λ e. absurd cc,
  λ s. some.2 x ∙ ap is_lt (Less-from_sorted cmp (x ∷ xs) some.0 (some.0 + 1) x s (omega arith) some.1),
)

both : (a b : Bool) → a && b ≡ true → (a ≡ true) × (b ≡ true)
both true true e = (refl, refl)
both true false e = absurd cc
both false b e = absurd cc

all_above : {X : Type 0} {cmp : X → X → Ordering} (o : IsTotalOrder cmp) (x y : X) → cmp x y ≡ Less → (ys : List X)
    → AllByRecursion (λ z. cmp y z ≡ Less) ys → AllByRecursion (λ z. cmp x z ≡ Less) ys
all_above o x y e [] all = tt
all_above o x y e (z ∷ zs) all = (o.trans x y z e all.0, all_above o x y e zs all.1)

follows_sorted : {X : Type 0} {cmp : X → X → Ordering} (o : IsTotalOrder cmp) (x : X) (xs : List X) → follows cmp x xs ≡ true
    → IsStrictlySortedBy cmp (x ∷ xs)
unfolding IsStrictlySortedBy
follows_sorted o x [] e = (tt, tt)
follows_sorted {X} {cmp} o x (y ∷ ys) e =
    let b = both (is_lt (cmp x y)) (follows cmp y ys) e in
    let less : cmp x y ≡ Less = is_less (cmp x y) (sym b.0) in
    let rest : IsStrictlySortedBy cmp (y ∷ ys) = follows_sorted o y ys b.1 in
    ((less, all_above o x y less ys rest.0), rest)

sorted_follows : {X : Type 0} (cmp : X → X → Ordering) (x : X) (xs : List X) → IsStrictlySortedBy cmp (x ∷ xs) → follows cmp x xs ≡ true
unfolding IsStrictlySortedBy
sorted_follows cmp x [] s = refl
sorted_follows cmp x (y ∷ ys) s = rw (s.0.0, sorted_follows cmp y ys s.1) refl

-- the test of order decides it
pub ascends_decides : {X : Type 0} {cmp : X → X → Ordering} (o : IsTotalOrder cmp) (xs : List X)
    → Decides (ascends cmp xs) (IsStrictlySortedBy cmp xs)
unfolding IsStrictlySortedBy
ascends_decides o [] = (λ e. tt, λ s. refl)
ascends_decides {X} {cmp} o (x ∷ xs) = (follows_sorted o x xs, sorted_follows cmp x xs)

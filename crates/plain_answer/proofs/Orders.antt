-- What a fold makes of a list whatever its order, where its steps may change places.
use Rattle.std.proofs.Common.{◌≡◌, ℕ, List, [], ◌∷◌, fold, ℤ, refl, sym, ◌∙◌, ap, arith}
use Rattle.std.specs.Int.{int_max}
use Rattle.std.specs.Ordering.{nat_cmp, int_cmp, match_ordering, ordering_then, is_eq}
use Rattle.std.specs.declared.cmp.Ordering.{Ordering}
use Rattle.std.specs.declared.cmp.Ordering.TheVariants.{Less, Equal, Greater}
use Rattle.std.specs.Cmp.{IsTotalOrder, then_total, on_total, nat_cmp_total, int_cmp_total, tied_itself}
use Rattle.std.proofs.lemmas.Bool.Decides.{nat_tests}
use Rattle.std.proofs.lemmas.Int.{clamps, ints}
use Rattle.std.proofs.lemmas.Map.Lookups.{exact_unsigned, exact_signed, exact_pairs}
use Rattle.list_lemmas.proofs.Tests.{equal_from_test}
use Rattle.list_lemmas.proofs.Permuted.{fold-same}
use Rattle.list_lemmas.proofs.Totals.{HaveSameTotals}
use Rattle.plain_answer.specs.Places.{with_place}

-- ---- places

-- the greater of two, either way
max-swap : (x y : ℤ) → int_max x y ≡ int_max y x
max-swap x y = omega (arith, ints, clamps)

-- the greatest of three, either way
max-swaps : (m a b : ℤ) → int_max (int_max m a) b ≡ int_max (int_max m b) a
max-swaps m a b = omega (arith, ints, clamps)

-- two places in front of others
two-swap : (a b : ℕ × ℤ) (rest wa wb : List (ℕ × ℤ)) → wb ≡ b ∷ rest → wa ≡ a ∷ rest
    → match_ordering (nat_cmp b.0 a.0) (b ∷ a ∷ rest) ((a.0, int_max a.1 b.1) ∷ rest) (a ∷ wb)
    ≡ match_ordering (nat_cmp a.0 b.0) (a ∷ b ∷ rest) ((b.0, int_max b.1 a.1) ∷ rest) (b ∷ wa)
two-swap a b rest wa wb is_b is_a = by (nat_cmp b.0 a.0) refl
  where
    other : (o : Ordering) → nat_cmp a.0 b.0 ≡ o
        → match_ordering (nat_cmp a.0 b.0) (a ∷ b ∷ rest) ((b.0, int_max b.1 a.1) ∷ rest) (b ∷ wa)
        ≡ match_ordering o (a ∷ b ∷ rest) ((b.0, int_max b.1 a.1) ∷ rest) (b ∷ wa)
    other o e = ap (λ o. match_ordering o (a ∷ b ∷ rest) ((b.0, int_max b.1 a.1) ∷ rest) (b ∷ wa)) e

    by : (o : Ordering) → nat_cmp b.0 a.0 ≡ o
        → match_ordering o (b ∷ a ∷ rest) ((a.0, int_max a.1 b.1) ∷ rest) (a ∷ wb)
        ≡ match_ordering (nat_cmp a.0 b.0) (a ∷ b ∷ rest) ((b.0, int_max b.1 a.1) ∷ rest) (b ∷ wa)
    by Less e = let turned : nat_cmp a.0 b.0 ≡ Greater = grind (arith, nat_tests) in sym (other Greater turned ∙ ap (λ l. b ∷ l) is_a)
    by Equal e =
        let turned : nat_cmp a.0 b.0 ≡ Equal = grind (arith, nat_tests) in
        let stamps : a.0 ≡ b.0 = grind (arith, nat_tests) in
        (λ i. (stamps i, max-swap a.1 b.1 i) ∷ rest) ∙ sym (other Equal turned)
    by Greater e = let turned : nat_cmp a.0 b.0 ≡ Less = grind (arith, nat_tests) in ap (λ l. a ∷ l) is_b ∙ sym (other Less turned)

-- a list with a place more, by where it goes
abbrev put : Ordering → ℕ × ℤ → List (ℕ × ℤ) → ℕ × ℤ → List (ℕ × ℤ)
put o p ps a = match_ordering o (a ∷ p ∷ ps) ((p.0, int_max p.1 a.1) ∷ ps) (p ∷ with_place ps a)

-- places may come in any order
pub places-swap : (ps : List (ℕ × ℤ)) (a b : ℕ × ℤ) → with_place (with_place ps a) b ≡ with_place (with_place ps b) a
places-swap [] a b = two-swap a b [] (a ∷ []) (b ∷ []) refl refl
places-swap (p ∷ ps) a b = by (places-swap ps a b) (nat_cmp a.0 p.0) refl (nat_cmp b.0 p.0) refl
  where
    -- a goes before p, and b with or behind it
    before : (x y : ℕ × ℤ) (o : Ordering) → nat_cmp x.0 p.0 ≡ Less → nat_cmp y.0 p.0 ≡ o → nat_cmp y.0 x.0 ≡ Greater
        → with_place (x ∷ p ∷ ps) y ≡ x ∷ put o p ps y
    before x y o less e far = ap (λ o. match_ordering o (y ∷ x ∷ p ∷ ps) ((x.0, int_max x.1 y.1) ∷ p ∷ ps) (x ∷ with_place (p ∷ ps) y)) far
        ∙ ap (λ o. x ∷ put o p ps y) e

    less_equal : (x y : ℕ × ℤ) → nat_cmp x.0 p.0 ≡ Less → nat_cmp y.0 p.0 ≡ Equal
        → with_place (x ∷ p ∷ ps) y ≡ with_place ((p.0, int_max p.1 y.1) ∷ ps) x
    less_equal x y e f =
        let far : nat_cmp y.0 x.0 ≡ Greater = grind (arith, nat_tests) in
        before x y Equal e f far ∙ sym (ap (λ o. put o (p.0, int_max p.1 y.1) ps x) e)

    less_greater : (x y : ℕ × ℤ) → nat_cmp x.0 p.0 ≡ Less → nat_cmp y.0 p.0 ≡ Greater
        → with_place (x ∷ p ∷ ps) y ≡ with_place (p ∷ with_place ps y) x
    less_greater x y e f =
        let far : nat_cmp y.0 x.0 ≡ Greater = grind (arith, nat_tests) in
        before x y Greater e f far ∙ sym (ap (λ o. put o p (with_place ps y) x) e)

    equal_greater : (x y : ℕ × ℤ) → nat_cmp x.0 p.0 ≡ Equal → nat_cmp y.0 p.0 ≡ Greater
        → with_place ((p.0, int_max p.1 x.1) ∷ ps) y ≡ with_place (p ∷ with_place ps y) x
    equal_greater x y e f = ap (λ o. put o (p.0, int_max p.1 x.1) ps y) f ∙ sym (ap (λ o. put o p (with_place ps y) x) e)

    by : with_place (with_place ps a) b ≡ with_place (with_place ps b) a → (oa : Ordering) → nat_cmp a.0 p.0 ≡ oa → (ob : Ordering)
        → nat_cmp b.0 p.0 ≡ ob
        → with_place (put oa p ps a) b ≡ with_place (put ob p ps b) a
    by rest Less e Less f = two-swap a b (p ∷ ps) (with_place (p ∷ ps) a) (with_place (p ∷ ps) b) (ap (λ o. put o p ps b) f)
        (ap (λ o. put o p ps a) e)
    by rest Less e Equal f = less_equal a b e f
    by rest Less e Greater f = less_greater a b e f
    by rest Equal e Less f = sym (less_equal b a f e)
    by rest Equal e Equal f = ap (λ o. put o (p.0, int_max p.1 a.1) ps b) f
        ∙ (λ i. (p.0, max-swaps p.1 a.1 b.1 i) ∷ ps) ∙ sym (ap (λ o. put o (p.0, int_max p.1 b.1) ps a) e)
    by rest Equal e Greater f = equal_greater a b e f
    by rest Greater e Less f = sym (less_greater b a f e)
    by rest Greater e Equal f = sym (equal_greater b a f e)
    by rest Greater e Greater f = ap (λ o. put o p (with_place ps a) b) f ∙ ap (λ l. p ∷ l) rest
        ∙ sym (ap (λ o. put o p (with_place ps b) a) e)

-- pairs in order
abbrev pair_cmp : ℕ × ℤ → ℕ × ℤ → Ordering
pair_cmp p q = ordering_then (nat_cmp p.0 q.0) (int_cmp p.1 q.1)

-- pairs are in a total order
pair_cmp-total : IsTotalOrder pair_cmp
pair_cmp-total = then_total (on_total (λ (p : ℕ × ℤ). p.0) nat_cmp_total) (on_total (λ (p : ℕ × ℤ). p.1) int_cmp_total)

-- the same pairs make the same places
pub places-same : (xs ys : List (ℕ × ℤ)) → HaveSameTotals xs ys → fold with_place [] xs ≡ fold with_place [] ys
places-same xs ys totals =
    fold-same (λ p q. is_eq (pair_cmp p q))
    (λ p q e. exact_pairs nat_cmp int_cmp exact_unsigned exact_signed p q (equal_from_test (pair_cmp p q) e))
    (λ p. ap is_eq (tied_itself pair_cmp-total p)) with_place places-swap xs ys totals []

-- Keys in order: what is below a key, and what is at most it.
use Rattle.std.proofs.Common.{◌≡◌, List, [], ◌∷◌, ℕ, true, false, Option, Some, None, refl, sym, ◌∙◌, ap, arith, true≢false}
use Rattle.std.proofs.lemmas.Bool.Decides.{nat_tests}
use Rattle.std.specs.Ordering.{is_le, is_lt, nat_cmp, ordering_reverse, ordering_then}
use Rattle.std.specs.Cmp.{alike_right}
use Rattle.std.specs.declared.cmp.Ordering.{Ordering}
use Rattle.std.specs.declared.cmp.Ordering.TheVariants.{Less, Equal, Greater}
use Rattle.list_lemmas.proofs.Tests.{less_from_test}
use Rattle.mw_types.specs.Orders.{key_cmp}
use Rattle.mw_types.proofs.OrderLaws.{key_cmp-total}
use Rattle.key_intervals.specs.Intervals.{ends_after}

-- what is below a key is below what that is at most
pub below_upto : (a b c : List ℕ) → key_cmp a b ≡ Less → is_le (key_cmp b c) ≡ true → key_cmp a c ≡ Less
below_upto a b c less le = by_case (key_cmp b c) refl le
  where
    by_case : (o : Ordering) → key_cmp b c ≡ o → is_le o ≡ true → key_cmp a c ≡ Less
    by_case Less e le = key_cmp-total.trans a b c less e
    by_case Equal e le = sym (alike_right key_cmp-total b c a e) ∙ less
    by_case Greater e le = absurd (true≢false (sym le))

-- what is at most a key is below what that is below
pub upto_below : (a b c : List ℕ) → is_le (key_cmp a b) ≡ true → key_cmp b c ≡ Less → key_cmp a c ≡ Less
upto_below a b c le less = by_case (key_cmp a b) refl le
  where
    by_case : (o : Ordering) → key_cmp a b ≡ o → is_le o ≡ true → key_cmp a c ≡ Less
    by_case Less e le = key_cmp-total.trans a b c e less
    by_case Equal e le = key_cmp-total.congr a b c e ∙ less
    by_case Greater e le = absurd (true≢false (sym le))

-- what is below a key is at most it
pub below_is_upto : (a b : List ℕ) → key_cmp a b ≡ Less → is_le (key_cmp a b) ≡ true
below_is_upto a b less = ap is_le less

-- a key is at most itself
pub upto_itself : (key : List ℕ) → is_le (key_cmp key key) ≡ true
upto_itself key = by_case (key_cmp key key) (key_cmp-total.antisymm key key)
  where
    by_case : (o : Ordering) → o ≡ ordering_reverse o → is_le o ≡ true
    by_case Less e = refl
    by_case Equal e = refl
    by_case Greater e = cc

-- what is at most a key is at most what that is at most
pub upto_upto : (a b c : List ℕ) → is_le (key_cmp a b) ≡ true → is_le (key_cmp b c) ≡ true → is_le (key_cmp a c) ≡ true
upto_upto a b c first next = by_case (key_cmp b c) refl next
  where
    by_case : (o : Ordering) → key_cmp b c ≡ o → is_le o ≡ true → is_le (key_cmp a c) ≡ true
    by_case Less e le = ap is_le (upto_below a b c first e)
    by_case Equal e le = ap is_le (sym (alike_right key_cmp-total b c a e)) ∙ first
    by_case Greater e le = absurd (true≢false (sym le))

-- of two keys the second is at most the first where the first is not below it
pub not_below : (a b : List ℕ) → is_lt (key_cmp a b) ≡ false → is_le (key_cmp b a) ≡ true
not_below a b e = ap is_le (key_cmp-total.antisymm b a) ∙ by_case (key_cmp a b) e
  where
    by_case : (o : Ordering) → is_lt o ≡ false → is_le (ordering_reverse o) ≡ true
    by_case Less e = absurd (true≢false e)
    by_case Equal e = refl
    by_case Greater e = refl

-- a key that is below another is not at least it
pub never_back : (a b : List ℕ) → key_cmp a b ≡ Less → is_le (key_cmp b a) ≡ true → ⊥
never_back a b less le = true≢false (sym le ∙ ap is_le (key_cmp-total.antisymm b a ∙ ap ordering_reverse less))

-- an interval that goes on past a key goes on past each before it
pub ends_before : (a b : List ℕ) (to : Option (List ℕ)) → is_le (key_cmp a b) ≡ true → ends_after to b ≡ true → ends_after to a ≡ true
ends_before a b None le ends = refl
ends_before a b (Some end) le ends = ap is_lt (upto_below a b end le (less_from_test (key_cmp b end) ends))

-- of two values that an order ties the next values decide
tied_first : (m n : ℕ) (o : Ordering) → ordering_then (nat_cmp m n) o ≡ Equal → (m ≡ n) × (o ≡ Equal)
tied_first m n o e = grind (arith, nat_tests)

-- keys that are tied are one
pub same_key : (a b : List ℕ) → key_cmp a b ≡ Equal → a ≡ b
same_key [] [] e = refl
same_key [] (y ∷ ys) e = cc
same_key (x ∷ xs) [] e = cc
same_key (x ∷ xs) (y ∷ ys) e =
    let parts = tied_first x y (key_cmp xs ys) e in
    let first : x ≡ y = parts.0 in
    let rest : xs ≡ ys = same_key xs ys parts.1 in cc

-- Stamps that are counted: one more, one less, and the least of them.
use Rattle.std.proofs.Common.{◌≡◌, ◌∙◌, ℕ, zero, suc, ◌≤◌, ◌⊎◌, Bool, true, false, cond, Some, None, unwrap_or, slice_get, List, [], ◌∷◌, ◌++◌, replicate, Contains, refl, sym, ap, subst, arith, inl, inr, true≢false, is_none}
use Rattle.std.proofs.lemmas.Bool.Decides.{nat_tests}
use Rattle.std.proofs.lemmas.Cmp.{nat_cmp_total}
use Rattle.std.proofs.lemmas.List.Elements.{Contains-append_cases}
use Rattle.std.proofs.lemmas.List.Sorted.{IsPermutation-refl, IsPermutation-sym, IsPermutation-trans, IsPermutation-append_right, IsPermutation-middle}
use Rattle.std.proofs.lemmas.Map.{lookup-none}
use Rattle.std.proofs.lemmas.Map.Entries.{none_below_head}
use Rattle.std.proofs.lemmas.Map.Keys.{sorted_head, sorted_tail}
use Rattle.std.specs.List.{AllByRecursion}
use Rattle.std.specs.List.Sorted.{IsPermutation, IsStrictlySortedBy}
use Rattle.std.specs.Map.{lookup, keys_of, remove_entry, set_value}
use Rattle.std.specs.BTreeMap.{is_at, insert_entry}
use Rattle.std.specs.Ordering.{nat_cmp, is_eq, match_ordering}
use Rattle.std.specs.declared.cmp.Ordering.{Ordering}
use Rattle.std.specs.declared.cmp.Ordering.TheVariants.{Less, Equal, Greater}
use Rattle.mw_types.specs.declared.TheConstants.{END}
use Rattle.run_history.specs.Watermarks.{least}
use Rattle.watermark.specs.Counted.{AreCounts, stamps_in, times_counted}

-- numbers that compare as equal are the same
same_at : (x s : ℕ) → is_at (nat_cmp x) s ≡ true → x ≡ s
same_at x s h = grind (arith, nat_tests, h)

-- and so do they where the comparison says so
same_equal : (x s : ℕ) → nat_cmp x s ≡ Equal → x ≡ s
same_equal x s h = grind (arith, nat_tests, h)

-- equal lists are in the same order
by_equal : (xs ys : List ℕ) → xs ≡ ys → IsPermutation xs ys
by_equal xs ys same = subst (IsPermutation xs) same (IsPermutation-refl xs)

-- a stamp that is in the later ones stands before all as well
to_front : (x : ℕ) (first old new : List ℕ) → IsPermutation old (x ∷ new) → IsPermutation (first ++ old) (x ∷ (first ++ new))
to_front x first old new moved =
    IsPermutation-trans (first ++ old) (first ++ x ∷ new) (x ∷ (first ++ new))
    (IsPermutation-append_right first old (x ∷ new) moved) (IsPermutation-middle first x new)

-- ---- one less

-- an entry whose count falls to n, or one of the later ones
lowered_step : (b : Bool) (x s c n : ℕ) (es : List (ℕ × ℕ)) → (b ≡ true → x ≡ s)
    → unwrap_or (cond b (Some c) (lookup (is_at (nat_cmp x)) es)) 0 ≡ suc n
    → (times_counted x es ≡ suc n → IsPermutation (stamps_in es) (x ∷ stamps_in (set_value (is_at (nat_cmp x)) es n)))
    → IsPermutation (replicate c s ++ stamps_in es)
    (x ∷ stamps_in (cond b ((s, n) ∷ es) ((s, c) ∷ set_value (is_at (nat_cmp x)) es n)))
lowered_step true x s c n es same count later =
    by_equal _ _ (ap (λ k. replicate k s ++ stamps_in es) count ∙ ap (λ y. y ∷ (replicate n s ++ stamps_in es)) (sym (same refl)))
lowered_step false x s c n es same count later = to_front x (replicate c s) (stamps_in es) _ (later count)

-- a count that is lowered lets go of one stamp
pub lowered : (x n : ℕ) (es : List (ℕ × ℕ)) → times_counted x es ≡ suc n
    → IsPermutation (stamps_in es) (x ∷ stamps_in (set_value (is_at (nat_cmp x)) es n))
lowered x n [] count = absurd (omega (arith, count))
lowered x n (e ∷ es) count = lowered_step (is_at (nat_cmp x) e.0) x e.0 e.1 n es (same_at x e.0) count (lowered x n es)

-- an entry that was counted once, or one of the later ones
removed_step : (b : Bool) (x s c : ℕ) (es : List (ℕ × ℕ)) → (b ≡ true → x ≡ s)
    → unwrap_or (cond b (Some c) (lookup (is_at (nat_cmp x)) es)) 0 ≡ 1
    → (times_counted x es ≡ 1 → IsPermutation (stamps_in es) (x ∷ stamps_in (remove_entry (is_at (nat_cmp x)) es)))
    → IsPermutation (replicate c s ++ stamps_in es)
    (x ∷ stamps_in (cond b es ((s, c) ∷ remove_entry (is_at (nat_cmp x)) es)))
removed_step true x s c es same count later =
    by_equal _ _ (ap (λ k. replicate k s ++ stamps_in es) count ∙ ap (λ y. y ∷ stamps_in es) (sym (same refl)))
removed_step false x s c es same count later = to_front x (replicate c s) (stamps_in es) _ (later count)

-- an entry that was counted once is one stamp
pub removed : (x : ℕ) (es : List (ℕ × ℕ)) → times_counted x es ≡ 1
    → IsPermutation (stamps_in es) (x ∷ stamps_in (remove_entry (is_at (nat_cmp x)) es))
removed x [] count = absurd (omega (arith, count))
removed x (e ∷ es) count = removed_step (is_at (nat_cmp x) e.0) x e.0 e.1 es (same_at x e.0) count (removed x es)

-- what is repeated is the same
repeated : (n s x : ℕ) → Contains (replicate n s) x → is_at (nat_cmp x) s ≡ true
repeated zero s x at = absurd (omega (arith, at.1))
repeated (suc n) s x (zero, within, is) = grind (arith, nat_tests, is)
repeated (suc n) s x (suc k, within, is) = repeated n s x (k, omega (arith, within), is)

-- the first entry counts the stamp, or a later one does
counted_step : (b : Bool) (x c : ℕ) (es : List (ℕ × ℕ)) → 1 ≤ c → ((b ≡ true) ⊎ (1 ≤ times_counted x es))
    → 1 ≤ unwrap_or (cond b (Some c) (lookup (is_at (nat_cmp x)) es)) 0
counted_step true x c es some either = some
counted_step false x c es some (inl wrong) = absurd (true≢false (sym wrong))
counted_step false x c es some (inr later) = later

-- a stamp that is held is counted
pub counted : (x : ℕ) (es : List (ℕ × ℕ)) → AllByRecursion (λ (e : ℕ × ℕ). 1 ≤ e.1) es → Contains (stamps_in es) x → 1 ≤ times_counted x es
counted x [] some held = absurd (omega (arith, held.1))
counted x (e ∷ es) some held = counted_step (is_at (nat_cmp x) e.0) x e.1 es some.0
    (elim (Contains-append_cases (replicate e.1 e.0) (stamps_in es) x held) [
      | inl here ↦ inl (repeated e.1 e.0 x here)
      | inr later ↦ inr (counted x es some.1 later)
    ])

-- ---- one more

-- an entry whose count rises to n, a new one before it, or one of the later ones
added_step : (o : Ordering) (x s c n : ℕ) (es : List (ℕ × ℕ)) → (o ≡ Equal → x ≡ s)
    → (o ≡ Less → lookup (is_at (nat_cmp x)) es ≡ None)
    → n ≡ suc (unwrap_or (cond (is_eq o) (Some c) (lookup (is_at (nat_cmp x)) es)) 0)
    → (n ≡ suc (times_counted x es) → IsPermutation (x ∷ stamps_in es) (stamps_in (insert_entry nat_cmp es x n)))
    → IsPermutation (x ∷ (replicate c s ++ stamps_in es))
    (stamps_in (match_ordering o ((x, n) ∷ (s, c) ∷ es) ((s, n) ∷ es) ((s, c) ∷ insert_entry nat_cmp es x n)))
added_step Less x s c n es same none count later =
    let one : n ≡ 1 = count ∙ ap (λ found. suc (unwrap_or found 0)) (none refl) in
    by_equal _ _ (ap (λ k. replicate k x ++ (replicate c s ++ stamps_in es)) (sym one))
added_step Equal x s c n es same none count later =
    by_equal _ _ (ap (λ y. y ∷ (replicate c s ++ stamps_in es)) (same refl) ∙ ap (λ k. replicate k s ++ stamps_in es) (sym count))
added_step Greater x s c n es same none count later =
    let new = stamps_in (insert_entry nat_cmp es x n) in
    IsPermutation-sym (replicate c s ++ new) (x ∷ (replicate c s ++ stamps_in es))
    (to_front x (replicate c s) new (stamps_in es) (IsPermutation-sym (x ∷ stamps_in es) new (later count)))

-- a count that is raised, or begun, holds one stamp more
pub added : (x n : ℕ) (es : List (ℕ × ℕ)) → IsStrictlySortedBy nat_cmp (keys_of es) → n ≡ suc (times_counted x es)
    → IsPermutation (x ∷ stamps_in es) (stamps_in (insert_entry nat_cmp es x n))
added x n [] ordered count = by_equal _ _ (ap (λ k. replicate k x ++ []) (sym count))
added x n (e ∷ es) ordered count =
    added_step (nat_cmp x e.0) x e.0 e.1 n es (same_equal x e.0)
    (λ below. lookup-none (is_at (nat_cmp x)) es ((none_below_head nat_cmp_total x e es ordered below).1))
    count (added x n es (sorted_tail nat_cmp e.0 (keys_of es) ordered))

-- ---- each stamp is counted at least once

-- a new count is put among counts
some_inserted : (o : Ordering) (x n : ℕ) (e : ℕ × ℕ) (es rest : List (ℕ × ℕ)) → 1 ≤ n
    → AllByRecursion (λ (f : ℕ × ℕ). 1 ≤ f.1) (e ∷ es) → AllByRecursion (λ (f : ℕ × ℕ). 1 ≤ f.1) rest
    → AllByRecursion (λ (f : ℕ × ℕ). 1 ≤ f.1) (match_ordering o ((x, n) ∷ e ∷ es) ((e.0, n) ∷ es) (e ∷ rest))
some_inserted Less x n e es rest some each later = (some, each)
some_inserted Equal x n e es rest some each later = (some, each.1)
some_inserted Greater x n e es rest some each later = (each.0, later)

-- a count that is raised stays one
pub some-insert_entry : (x n : ℕ) (es : List (ℕ × ℕ)) → 1 ≤ n → AllByRecursion (λ (e : ℕ × ℕ). 1 ≤ e.1) es
    → AllByRecursion (λ (e : ℕ × ℕ). 1 ≤ e.1) (insert_entry nat_cmp es x n)
some-insert_entry x n [] some each = (some, tt)
some-insert_entry x n (e ∷ es) some each =
    some_inserted (nat_cmp x e.0) x n e es (insert_entry nat_cmp es x n) some each (some-insert_entry x n es some each.1)

-- the first count is set, or a later one
some_set : (b : Bool) (n : ℕ) (e : ℕ × ℕ) (es rest : List (ℕ × ℕ)) → 1 ≤ n
    → AllByRecursion (λ (f : ℕ × ℕ). 1 ≤ f.1) (e ∷ es) → AllByRecursion (λ (f : ℕ × ℕ). 1 ≤ f.1) rest
    → AllByRecursion (λ (f : ℕ × ℕ). 1 ≤ f.1) (cond b ((e.0, n) ∷ es) (e ∷ rest))
some_set true n e es rest some each later = (some, each.1)
some_set false n e es rest some each later = (each.0, later)

-- a count that is lowered to at least one stays one
pub some-set_value : (x n : ℕ) (es : List (ℕ × ℕ)) → 1 ≤ n → AllByRecursion (λ (e : ℕ × ℕ). 1 ≤ e.1) es
    → AllByRecursion (λ (e : ℕ × ℕ). 1 ≤ e.1) (set_value (is_at (nat_cmp x)) es n)
some-set_value x n [] some each = tt
some-set_value x n (e ∷ es) some each =
    some_set (is_at (nat_cmp x) e.0) n e es (set_value (is_at (nat_cmp x)) es n) some each (some-set_value x n es some each.1)

-- the first count goes, or a later one
some_gone : (b : Bool) (e : ℕ × ℕ) (es rest : List (ℕ × ℕ))
    → AllByRecursion (λ (f : ℕ × ℕ). 1 ≤ f.1) (e ∷ es) → AllByRecursion (λ (f : ℕ × ℕ). 1 ≤ f.1) rest
    → AllByRecursion (λ (f : ℕ × ℕ). 1 ≤ f.1) (cond b es (e ∷ rest))
some_gone true e es rest each later = each.1
some_gone false e es rest each later = (each.0, later)

-- without one of them the others are counts
pub some-remove_entry : (x : ℕ) (es : List (ℕ × ℕ)) → AllByRecursion (λ (e : ℕ × ℕ). 1 ≤ e.1) es
    → AllByRecursion (λ (e : ℕ × ℕ). 1 ≤ e.1) (remove_entry (is_at (nat_cmp x)) es)
some-remove_entry x [] each = tt
some-remove_entry x (e ∷ es) each =
    some_gone (is_at (nat_cmp x) e.0) e es (remove_entry (is_at (nat_cmp x)) es) each (some-remove_entry x es each.1)

-- ---- the least

-- what is at most a stamp and the least of others is at most the least with the stamp repeated
repeated-bound : (n s x : ℕ) (rest : List ℕ) → x ≤ s → x ≤ least rest → x ≤ least (replicate n s ++ rest)
repeated-bound zero s x rest first later = later
repeated-bound (suc n) s x rest first later = let more = repeated-bound n s x rest first later in omega (arith, first, more)

-- what is below each key is at most the least stamp
keys-bound : (x : ℕ) (es : List (ℕ × ℕ)) → x ≤ END → AllByRecursion (λ k. nat_cmp x k ≡ Less) (keys_of es) → x ≤ least (stamps_in es)
keys-bound x [] end below = end
keys-bound x (e ∷ es) end below =
    let first : x ≤ e.0 = grind (arith, nat_tests, below.0) in
    repeated-bound e.1 e.0 x (stamps_in es) first (keys-bound x es end below.1)

-- a stamp that is repeated before others, each of which is at least as great
first_of : (n s : ℕ) (rest : List ℕ) → 1 ≤ n → s ≤ least rest → s ≡ least (replicate n s ++ rest)
first_of zero s rest some later = absurd (omega (arith, some))
first_of (suc n) s rest some later =
    let same : s ≤ s = omega arith in
    let more = repeated-bound n s s rest same later in
    omega (arith, more)

-- the first key is the least stamp
pub least-first : (es : List (ℕ × ℕ)) (e : ℕ × ℕ) → AreCounts es → slice_get es 0 ≡ Some e → e.0 ≤ END → e.0 ≡ least (stamps_in es)
least-first [] e counts first end = absurd (true≢false (ap is_none first))
least-first (f ∷ es) e counts first end =
    let same : f ≡ e = ap (λ o. unwrap_or o f) first in
    let ends : f.0 ≤ END = subst (λ (g : ℕ × ℕ). g.0 ≤ END) (sym same) end in
    sym (ap (λ (g : ℕ × ℕ). g.0) same)
    ∙ first_of f.1 f.0 (stamps_in es) counts.some.0
    (keys-bound f.0 es ends (sorted_head nat_cmp f.0 (keys_of es) counts.ordered))

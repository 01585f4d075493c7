-- Numbers that are all there, and the claims that have them.
use Rattle.std.proofs.Common.{inl, inr, ◌≡◌, ◌∙◌, ◌<◌, ◌≤◌, ◌+◌, ◌++◌, ◌∷◌, ℕ, zero, suc, Bool, true, false, List, [], length, map, refl, sym, ap, subst, ⊎_elim, arith, append_assoc, length-append, if◌then◌else◌}
use Rattle.std.specs.Prelude.{Some, nat_le, slice_get}
use Rattle.std.proofs.lemmas.Option.{slice_get_within}
use Rattle.mw_types.specs.declared.entry.Entry.{Entry}
use Rattle.run_history.specs.Fences.{Begins}
use Rattle.run_history.proofs.Beginnings.{Begins-at}
use Rattle.shared_book.specs.Joins.{merged, placed}
use Rattle.shared_book.specs.Lists.{Ascends, IsIn}
use Rattle.shared_book.specs.Opening.{span}
use Rattle.workers.specs.Claims.{AreClaimedAt}
use Rattle.workers.specs.Rounds.{first_claim}

-- numbers that ascend, and are all of so many, are these in order
pub exact-same : (xs : List ℕ) (begin count : ℕ) → Ascends xs → ((k : ℕ) → begin ≤ k → k < begin + count → IsIn k xs)
    → ((k : ℕ) → IsIn k xs → (begin ≤ k) × (k < begin + count)) → xs ≡ span begin count
exact-same [] begin zero up all only = refl
exact-same [] begin (suc count) up all only = absurd (all begin (omega arith) (omega arith))
exact-same (x ∷ xs) begin zero up all only = let h = only x (inl refl) in absurd (omega (arith, h.0, h.1))
exact-same (x ∷ xs) begin (suc count) up all only =
    let first : x ≡ begin = ⊎_elim (λ (e : begin ≡ x). sym e)
    (λ q. let a = up.0 begin q in let b = (only x (inl refl)).0 in absurd (omega (arith, a, b)))
    (all begin (omega arith) (omega arith)) in
    let tail : xs ≡ span (suc begin) count = exact-same xs (suc begin) count up.1
    (λ k low high. ⊎_elim (λ (e : k ≡ x). absurd (omega (arith, e, first, low))) (λ q. q)
    (all k (omega (arith, low)) (omega (arith, high))))
    (λ k q. let a = up.0 k q in let b = (only k (inr q)).1 in (omega (arith, a, first), omega (arith, b))) in
    λ i. first i ∷ tail i

-- how many these numbers are
pub span-length : (begin count : ℕ) → length (span begin count) ≡ count
span-length begin zero = refl
span-length begin (suc count) = ap suc (span-length (suc begin) count)

-- and there are so many
pub exact-many : (xs : List ℕ) (begin count : ℕ) → Ascends xs → ((k : ℕ) → begin ≤ k → k < begin + count → IsIn k xs)
    → ((k : ℕ) → IsIn k xs → (begin ≤ k) × (k < begin + count)) → length xs ≡ count
exact-many xs begin count up all only = ap length (exact-same xs begin count up all only) ∙ span-length begin count

placed-case : (x y : ℕ) (ys : List ℕ) (b : Bool) → length (placed x ys) ≡ suc (length ys)
    → length (if b then x ∷ y ∷ ys else y ∷ placed x ys) ≡ suc (suc (length ys))
placed-case x y ys true rest = refl
placed-case x y ys false rest = ap suc rest

placed-length : (x : ℕ) (ys : List ℕ) → length (placed x ys) ≡ suc (length ys)
placed-length x [] = refl
placed-length x (y ∷ ys) = placed-case x y ys (nat_le x y) (placed-length x ys)

-- two lists as one have as many numbers as both
pub merged-length : (xs ys : List ℕ) → length (merged xs ys) ≡ length xs + length ys
merged-length xs [] = omega arith
merged-length xs (y ∷ ys) = let rest = merged-length xs ys in let more = placed-length y (merged xs ys) in omega (arith, rest, more)

-- ---- claims at numbers

-- what begins with what was seen has the claims at the same numbers
pub claimed-more : (workers from : ℕ) (numbers : List ℕ) (front history : List Entry) → Begins front history
    → AreClaimedAt workers from numbers front → AreClaimedAt workers from numbers history
claimed-more workers from [] front history begins at = tt
claimed-more workers from (n ∷ ns) front history begins at =
    (Begins-at front history n (first_claim workers from) begins at.0, claimed-more workers (suc from) ns front history begins at.1)

-- one claim more
pub claimed-push : (workers from number : ℕ) (numbers : List ℕ) (seen : List Entry) → AreClaimedAt workers from numbers seen
    → slice_get seen number ≡ Some (first_claim workers (from + length numbers)) → AreClaimedAt workers from (numbers ++ number ∷ []) seen
claimed-push workers from number [] seen at is = (subst (λ (k : ℕ). slice_get seen number ≡ Some (first_claim workers k)) (omega arith) is, tt)
claimed-push workers from number (n ∷ ns) seen at is = (
  at.0,
  claimed-push workers (suc from) number ns seen at.1
      (subst (λ (k : ℕ). slice_get seen number ≡ Some (first_claim workers k)) (omega arith) is),
)

-- a number of a claim is below what was seen
pub claimed-below : (workers from : ℕ) (numbers : List ℕ) (seen : List Entry) → AreClaimedAt workers from numbers seen
    → (k : ℕ) → IsIn k numbers → k < length seen
claimed-below workers from [] seen at k here = absurd here
claimed-below workers from (n ∷ ns) seen at k here = ⊎_elim
    (λ (e : k ≡ n). subst (λ (m : ℕ). m < length seen) (sym e) (slice_get_within seen n (first_claim workers from) at.0))
    (λ q. claimed-below workers (suc from) ns seen at.1 k q) here

-- the entry behind a front is the first of the rest
get-behind : (front : List Entry) (e : Entry) (rest : List Entry) → slice_get (front ++ rest) (length front) ≡ Some e
    → (more : List Entry) × (rest ≡ e ∷ more)
get-behind [] e [] is = absurd cc
get-behind [] e (x ∷ rest) is = (rest, cc)
get-behind (y ∷ front) e rest is = get-behind front e rest is

-- where the claims have the first numbers, the history begins with them
claims-begin : (workers from count : ℕ) (front rest : List Entry) → AreClaimedAt workers from (span (length front) count) (front ++ rest)
    → (more : List Entry) × (rest ≡ map (first_claim workers) (span from count) ++ more)
claims-begin workers from zero front rest at = (rest, refl)
claims-begin workers from (suc count) front rest at =
    let here = get-behind front (first_claim workers from) rest at.0 in
    let again : front ++ rest ≡ (front ++ first_claim workers from ∷ []) ++ here.0 =
    ap (λ (h : List Entry). front ++ h) here.1 ∙ sym (append_assoc front (first_claim workers from ∷ []) here.0) in
    let long : suc (length front) ≡ length (front ++ first_claim workers from ∷ []) =
    let e = length-append front (first_claim workers from ∷ []) in omega (arith, e) in
    let next = claims-begin workers (suc from) count (front ++ first_claim workers from ∷ []) here.0
    (subst (λ (h : List Entry). AreClaimedAt workers (suc from) (span (length (front ++ first_claim workers from ∷ [])) count) h) again
    (subst (λ (k : ℕ). AreClaimedAt workers (suc from) (span k count) (front ++ rest)) long at.1)) in
    (next.0, here.1 ∙ ap (λ (h : List Entry). first_claim workers from ∷ h) next.1)

-- so the history is the claims and more
pub claims-first : (workers count : ℕ) (history : List Entry) → AreClaimedAt workers 0 (span 0 count) history
    → Begins (map (first_claim workers) (span 0 count)) history
claims-first workers count history at = let it = claims-begin workers 0 count [] history at in (it.0, sym it.1)

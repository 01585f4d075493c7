-- What a book has that workers shared, by what the seat knows that took in those of all.
use Rattle.std.proofs.Common.{◌≡◌, ◌∙◌, ◌<◌, ◌≤◌, ◌+◌, ◌-◌, ◌∷◌, ℕ, zero, suc, List, [], length, map, refl, sym, ap, subst, ⊎_elim, arith, length-append, append-nil}
use Rattle.std.proofs.lemmas.List.{length-map}
use Rattle.std.specs.Prelude.{Option, Some, None}
use Rattle.std.specs.Option.{is_some}
use Rattle.mw_types.specs.declared.entry.Entry.{Entry}
use Rattle.run_history.specs.Cases.{CaseShape, intervals_of}
use Rattle.run_history.specs.Fences.{Begins}
use Rattle.run_history.proofs.Beginnings.{Begins-length, Begins-trans}
use Rattle.book.specs.Books.{CoreView}
use Rattle.book.specs.OwnDesks.{telling}
use Rattle.shared_book.specs.Lists.{IsIn}
use Rattle.shared_book.specs.Opening.{span}
use Rattle.shared_book.specs.Turns.{IsClosed}
use Rattle.shared_book.specs.declared.views.View.{View}
use Rattle.workers.specs.Claims.{AreClaimedAt, IsClaimedTo}
use Rattle.workers.specs.Rounds.{first_claim, first_claims}
use Rattle.workers.specs.Runs.{HasRunFirst, HasRunSome}
use Rattle.workers.proofs.Exact.{claimed-below, claims-first, exact-many, exact-same, span-length}

-- ---- how much was appended

-- the history has as many entries more as the seat appended
pub closed-length : (v : View) (core : CoreView) → IsClosed v core → v.basis.begin ≤ length v.front
    → length v.front ≡ v.basis.begin + length v.own
closed-length v core closed started =
    let many = exact-many v.own v.basis.begin (length v.front - v.basis.begin) closed.own_ascend
    (λ k low high. closed.all_own k low (omega (arith, started, high)))
    (λ k here. let only = closed.own_only k here in (only.0, omega (arith, started, only.1))) in
    omega (arith, started, many)

-- ---- the first claims

-- fewer of these numbers begin them
span-begins : (workers from count total : ℕ) → count ≤ total
    → Begins (map (first_claim workers) (span from count)) (map (first_claim workers) (span from total))
span-begins workers from zero total few = (map (first_claim workers) (span from total), refl)
span-begins workers from (suc count) zero few = absurd (omega (arith, few))
span-begins workers from (suc count) (suc total) few =
    let rest = span-begins workers (suc from) count total (omega (arith, few)) in
    (rest.0, ap (λ (h : List Entry). first_claim workers from ∷ h) rest.1)

-- what begins a history that is no longer is the history
pub begins-all : (front history : List Entry) → Begins front history → length history ≡ length front → history ≡ front
begins-all front history ([], is) same = sym is ∙ append-nil front
begins-all front history (e ∷ rest, is) same =
    let long = ap length is in let parts = length-append front (e ∷ rest) in absurd (omega (arith, same, long, parts))

-- the numbers of the first claims are all numbers below a length, if all below it are among them, and none else
pub numbers-are : (workers count many : ℕ) (numbers : List ℕ) (seen : List Entry) → IsClaimedTo workers count numbers seen
    → ((k : ℕ) → k < many → IsIn k numbers) → ((k : ℕ) → IsIn k numbers → k < many) → (numbers ≡ span 0 many) × (count ≡ many)
numbers-are workers count many numbers seen claimed all only =
    let same = exact-same numbers 0 many claimed.ascend (λ k low high. all k (omega (arith, high)))
    (λ k here. (omega arith, let below = only k here in omega (arith, below))) in
    (same, sym claimed.many ∙ ap length same ∙ span-length 0 many)

-- so what was seen begins with the claims
pub claims-of : (workers count many : ℕ) (numbers : List ℕ) (seen : List Entry) → IsClaimedTo workers count numbers seen
    → (numbers ≡ span 0 many) × (count ≡ many) → Begins (map (first_claim workers) (span 0 count)) seen
claims-of workers count many numbers seen claimed (same, is) =
    claims-first workers count seen (subst (λ (l : List ℕ). AreClaimedAt workers 0 l seen) (same ∙ ap (span 0) (sym is)) claimed.at)

-- a book that began empty begins with all first claims
pub first-all : (case : CaseShape) (workers : ℕ) (v : View) (core : CoreView) → IsClosed v core → v.basis.begin ≡ 0
    → HasRunFirst workers case v → Begins (first_claims case workers) v.front
first-all case workers v core closed empty first =
    Begins-trans (first_claims case workers) first.front v.front
    (claims-of workers (length (intervals_of case.topology)) (length first.front) first.numbers first.front first.claimed
    (numbers-are workers (length (intervals_of case.topology)) (length first.front) first.numbers first.front first.claimed all
    (claimed-below workers 0 first.numbers first.front first.claimed.at)))
    first.begins
  where
    all : (k : ℕ) → k < length first.front → IsIn k first.numbers
    all k below =
        let long = Begins-length first.front v.front first.begins in
        ⊎_elim (λ here. here) (λ (high : length first.front ≤ k). absurd (omega (arith, below, high)))
        (first.own k (closed.all_own k (omega (arith, empty)) (omega (arith, below, long))))

-- a book that began empty is some of the first claims
pub first-some : (case : CaseShape) (workers : ℕ) (v : View) (core : CoreView) → IsClosed v core → v.basis.begin ≡ 0
    → HasRunSome workers case v → Begins v.front (first_claims case workers)
first-some case workers v core closed empty some =
    subst (λ (h : List Entry). Begins h (first_claims case workers)) (sym whole) part
  where
    are : (some.numbers ≡ span 0 (length v.front)) × (some.count ≡ length v.front)
    are = numbers-are workers some.count (length v.front) some.numbers v.front some.claimed
        (λ k below. some.own k (closed.all_own k (omega (arith, empty)) below))
        (claimed-below workers 0 some.numbers v.front some.claimed.at)

    whole : v.front ≡ map (first_claim workers) (span 0 some.count)
    whole = begins-all (map (first_claim workers) (span 0 some.count)) v.front
        (claims-of workers some.count (length v.front) some.numbers v.front some.claimed are)
        (sym are.1 ∙ sym (length-map (span 0 some.count) (first_claim workers) ∙ span-length 0 some.count))

    part : Begins (map (first_claim workers) (span 0 some.count)) (first_claims case workers)
    part = span-begins workers 0 some.count (length (intervals_of case.topology)) some.few

-- ---- what the keeper tells

-- what tells as another does is there where it is
pub tells-same : {X : Type 0} (one other : Option X) → telling one ≡ telling other → is_some one ≡ is_some other
tells-same None None same = refl
tells-same None (Some y) same = absurd cc
tells-same (Some x) None same = absurd cc
tells-same (Some x) (Some y) same = refl

-- What is settled of an interval, and a mark, after a list of them is set, walked or joined with another.
use Rattle.std.proofs.Common.{inl, inr, ◌≡◌, ◌⊎◌, ℕ, zero, suc, ◌+◌, ◌<◌, Bool, true, false, cond, List, [], ◌∷◌, length, refl, sym, ap, ◌∙◌, ⊎_elim, arith}
use Rattle.std.specs.Prelude.{max, nat_lt, replicate, slice_set, unwrap_or}
use Rattle.std.proofs.lemmas.Option.{slice_get_past}
use Rattle.mw_types.specs.declared.entry.Entry.{Entry}
use Rattle.topology.specs.Shapes.{Shape}
use Rattle.watermark.specs.Marks.{mark_of}
use Rattle.shared_book.specs.declared.views.Settled.{Settled}
use Rattle.shared_book.specs.Places.{nothing, place_of, place_after, places_after, newer, newest, greatest}

-- after one is set, what is settled of an interval is that, or what was
pub place-set : (places : List Settled) (at i : ℕ) (p : Settled)
    → ((i ≡ at) × (place_of (slice_set places at p) i ≡ p)) ⊎ (place_of (slice_set places at p) i ≡ place_of places i)
place-set [] at i p = inr refl
place-set (x ∷ xs) zero zero p = inl (refl, refl)
place-set (x ∷ xs) zero (suc i) p = inr refl
place-set (x ∷ xs) (suc at) zero p = inr refl
place-set (x ∷ xs) (suc at) (suc i) p = ⊎_elim (λ e. inl (ap suc e.0, e.1)) (λ e. inr e) (place-set xs at i p)

-- nothing is settled in an empty list
pub place-none : (i : ℕ) → place_of [] i ≡ nothing
place-none i = ap (λ o. unwrap_or o nothing) (slice_get_past [] i (omega arith))

-- no mark was loaded in one
pub mark-none : (i : ℕ) → mark_of [] i ≡ 0
mark-none i = ap (λ o. unwrap_or o 0) (slice_get_past [] i (omega arith))

-- nor in a list of nothing
pub place-nothing : (n i : ℕ) → place_of (replicate n nothing) i ≡ nothing
place-nothing zero i = place-none i
place-nothing (suc n) zero = refl
place-nothing (suc n) (suc i) = place-nothing n i

-- a mark of 0 for each is 0 for each
pub mark-zero : (n i : ℕ) → mark_of (replicate n 0) i ≡ 0
mark-zero zero i = mark-none i
mark-zero (suc n) zero = refl
mark-zero (suc n) (suc i) = mark-zero n i

-- after a release, what is settled of an interval is what the release makes of it, or nothing
pub place-after : (shape : Shape) (front : List Entry) (marks : List ℕ) (from : ℕ) (places : List Settled) (i : ℕ)
    → (place_of (places_after shape front marks from places) i ≡ place_after shape front marks (from + i) (place_of places i))
    ⊎ (place_of (places_after shape front marks from places) i ≡ nothing)
place-after shape front marks from [] i = inr (place-none i)
place-after shape front marks from (p ∷ ps) zero =
    let same : from + 0 ≡ from = omega arith in inl (ap (λ n. place_after shape front marks n p) (sym same))
place-after shape front marks from (p ∷ ps) (suc i) =
    let next : suc from + i ≡ from + suc i = omega arith in
    ⊎_elim (λ e. inl (e ∙ ap (λ n. place_after shape front marks n (place_of ps i)) next)) (λ e. inr e)
    (place-after shape front marks (suc from) ps i)

-- the newer of two is one of them
newer-one : (p q : Settled) → (newer p q ≡ p) ⊎ (newer p q ≡ q)
newer-one p q = by_test (nat_lt p.claim q.claim)
  where
    by_test : (b : Bool) → (cond b q p ≡ p) ⊎ (cond b q p ≡ q)
    by_test true = inr refl
    by_test false = inl refl

-- what is settled once two are joined is that of the one or of the other
pub place-newest : (ones others : List Settled) (i : ℕ)
    → (place_of (newest ones others) i ≡ place_of ones i) ⊎ (place_of (newest ones others) i ≡ place_of others i)
place-newest [] others i = inr refl
place-newest (p ∷ ps) [] i = inl refl
place-newest (p ∷ ps) (q ∷ qs) zero = newer-one p q
place-newest (p ∷ ps) (q ∷ qs) (suc i) = place-newest ps qs i

-- the greater of two marks
pub mark-greatest : (ones others : List ℕ) (i : ℕ) → mark_of (greatest ones others) i ≡ max (mark_of ones i) (mark_of others i)
mark-greatest [] others i = let none = mark-none i in omega (arith, none)
mark-greatest (x ∷ xs) [] i = let none = mark-none i in omega (arith, none)
mark-greatest (x ∷ xs) (y ∷ ys) zero = refl
mark-greatest (x ∷ xs) (y ∷ ys) (suc i) = mark-greatest xs ys i

-- after one is set, a mark is that, or what it was
pub mark-set : (marks : List ℕ) (at i x : ℕ)
    → ((i ≡ at) × (mark_of (slice_set marks at x) i ≡ x)) ⊎ (mark_of (slice_set marks at x) i ≡ mark_of marks i)
mark-set [] at i x = inr refl
mark-set (m ∷ ms) zero zero x = inl (refl, refl)
mark-set (m ∷ ms) zero (suc i) x = inr refl
mark-set (m ∷ ms) (suc at) zero x = inr refl
mark-set (m ∷ ms) (suc at) (suc i) x = ⊎_elim (λ e. inl (ap suc e.0, e.1)) (λ e. inr e) (mark-set ms at i x)

-- and that is there where the place is
pub mark-set_here : (marks : List ℕ) (at x : ℕ) → at < length marks → mark_of (slice_set marks at x) at ≡ x
mark-set_here [] at x within = absurd (omega (arith, within))
mark-set_here (m ∷ ms) zero x within = refl
mark-set_here (m ∷ ms) (suc at) x within = mark-set_here ms at x (omega (arith, within))

-- nothing is joined by an empty list
pub greatest-none : (ones : List ℕ) → greatest ones [] ≡ ones
greatest-none [] = refl
greatest-none (x ∷ xs) = refl

pub newest-none : (ones : List Settled) → newest ones [] ≡ ones
newest-none [] = refl
newest-none (p ∷ ps) = refl

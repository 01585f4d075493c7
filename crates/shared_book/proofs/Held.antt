-- Whether a lease is among some leases.
use Rattle.std.proofs.Common.{inl, inr, ◌≡◌, Bool, true, false, ◌&&◌, ◌==◌, List, [], ◌∷◌, ◌++◌, refl, sym, subst, ⊎_elim}
use Rattle.std.specs.Prelude.{◌||◌}
use Rattle.std.proofs.lemmas.Bool.{eqb-true, eq-eqb}
use Rattle.list_lemmas.proofs.Tests.{both_true}
use Rattle.book.specs.Books.{LeaseView}
use Rattle.shared_book.specs.Lists.{IsIn}
use Rattle.shared_book.specs.SharedDesks.{is_held}
use Rattle.shared_book.proofs.Lists.{in_left}
use Rattle.shared_book.proofs.Moves.{off}

-- whether two leases are one
abbrev same_lease : LeaseView → LeaseView → Bool
same_lease one other = (one.interval == other.interval) && (one.seq == other.seq)

-- two leases that test as one are one
one-lease : (one other : LeaseView) → same_lease one other ≡ true → other ≡ one
one-lease one other is =
    let parts = both_true (one.interval == other.interval) (one.seq == other.seq) is in
    let interval = eqb-true one.interval other.interval parts.0 in
    let seq = eqb-true one.seq other.seq parts.1 in
    λ i. record { interval = sym interval i; seq = sym seq i }

-- a lease that is held is among the leases
pub held-in : (leases : List LeaseView) (lease : LeaseView) → is_held leases lease ≡ true → IsIn lease leases
held-in [] lease is = absurd (off is)
held-in (l ∷ ls) lease is = by_test (same_lease l lease) refl (held-in ls lease) is
  where
    by_test : (b : Bool) → same_lease l lease ≡ b → (is_held ls lease ≡ true → IsIn lease ls) → (b || is_held ls lease) ≡ true
        → IsIn lease (l ∷ ls)
    by_test true same rest _ = inl (one-lease l lease same)
    by_test false _ rest there = inr (rest there)

-- and back
pub in-held : (leases : List LeaseView) (lease : LeaseView) → IsIn lease leases → is_held leases lease ≡ true
in-held [] lease there = absurd there
in-held (l ∷ ls) lease there = ⊎_elim here (λ p. later (same_lease l lease) (in-held ls lease p)) there
  where
    one : same_lease lease lease ≡ true
    one = (λ i. eq-eqb lease.interval lease.interval refl i && eq-eqb lease.seq lease.seq refl i)

    here : lease ≡ l → is_held (l ∷ ls) lease ≡ true
    here same = subst (λ (m : LeaseView). is_held (m ∷ ls) lease ≡ true) same (rw one refl)

    later : (b : Bool) → is_held ls lease ≡ true → (b || is_held ls lease) ≡ true
    later true rest = refl
    later false rest = rest

-- a lease is held among more
pub held-more : (leases more : List LeaseView) (lease : LeaseView) → is_held leases lease ≡ true → is_held (leases ++ more) lease ≡ true
held-more leases more lease is = in-held (leases ++ more) lease (in_left lease leases more (held-in leases lease is))

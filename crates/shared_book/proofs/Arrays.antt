-- What a seat's arrays have of an interval is what its view has settled of it.
use Rattle.std.proofs.Common.{◌≡◌, ◌∙◌, ℕ, zero, suc, List, [], ◌∷◌, map, get_or, refl, sym, ap}
use Rattle.std.specs.Prelude.{slice_set}
use Rattle.shared_book.specs.declared.views.Settled.{Settled}
use Rattle.shared_book.specs.Places.{nothing, place_of}

-- a number of each place is that of the place
pub index-mapped : (f : Settled → ℕ) → f nothing ≡ 0 → (l : List Settled) (i : ℕ) → get_or (map f l) i 0 ≡ f (place_of l i)
index-mapped f none [] zero = sym none
index-mapped f none [] (suc i) = sym none
index-mapped f none (p ∷ ps) zero = refl
index-mapped f none (p ∷ ps) (suc i) = index-mapped f none ps i

-- so a number of an array is that of the place
pub array-place : (f : Settled → ℕ) → f nothing ≡ 0 → (array : List ℕ) (places : List Settled) (i : ℕ)
    → array ≡ map f places → get_or array i 0 ≡ f (place_of places i)
array-place f none array places i same = ap (λ l. get_or l i 0) same ∙ index-mapped f none places i

-- a number of each place is set where the place is
pub map-set_place : (f : Settled → ℕ) (l : List Settled) (i : ℕ) (p : Settled) → map f (slice_set l i p) ≡ slice_set (map f l) i (f p)
map-set_place f [] i p = refl
map-set_place f (q ∷ qs) zero p = refl
map-set_place f (q ∷ qs) (suc i) p = ap (λ l. f q ∷ l) (map-set_place f qs i p)

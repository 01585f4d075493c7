-- Words for lists of numbers and leases, and for facts of all views. Own.
use Rattle.std.specs.Prelude.{◌≡◌, ◌≢◌, ◌⊎◌, ℕ, ◌<◌, List, [], ◌∷◌, ⊤}
use mathlib.Core.Option.{some}
use lib.ListN.{get_elem?}

-- something stands in a list
abbrev pub IsIn : {A : Type 0} → A → List A → Type 0
IsIn x [] = ⊥
IsIn x (y ∷ ys) = (x ≡ y) ⊎ IsIn x ys

-- each number is above those before it
abbrev pub Ascends : List ℕ → Type 0
Ascends [] = ⊤
Ascends (x ∷ xs) = ((y : ℕ) → IsIn y xs → x < y) × Ascends xs

-- no number stands twice
abbrev pub AreDistinct : List ℕ → Type 0
AreDistinct [] = ⊤
AreDistinct (x ∷ xs) = (IsIn x xs → ⊥) × AreDistinct xs

-- a fact holds of one of the views
abbrev pub Somewhere : {V : Type 0} → List V → (V → Type 0) → Type 0
Somewhere {V} views fact = (i : ℕ) × (v : V) × (get_elem? views i ≡ some v) × fact v

-- a fact holds of each view
abbrev pub Everywhere : {V : Type 0} → List V → (V → Type 0) → Type 0
Everywhere {V} views fact = (i : ℕ) (v : V) → get_elem? views i ≡ some v → fact v

-- a fact holds of each two views
abbrev pub Pairwise : {V : Type 0} → List V → (V → V → Type 0) → Type 0
Pairwise {V} views fact = (i j : ℕ) (v w : V) → get_elem? views i ≡ some v →
    get_elem? views j ≡ some w → i ≢ j → fact v w

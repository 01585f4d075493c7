-- How stamps are kept, each with how often it is held. No public clause cites this module.
use Rattle.std.specs.Prelude.{ℕ, ◌≤◌, ◌-◌, List, [], ◌∷◌, ◌++◌, replicate, unwrap_or}
use Rattle.std.specs.List.{AllByRecursion}
use Rattle.std.specs.List.Sorted.{IsPermutation, IsStrictlySortedBy}
use Rattle.std.specs.Map.{lookup, keys_of, set_value}
use Rattle.std.specs.BTreeMap.{is_at}
use Rattle.std.specs.Ordering.{nat_cmp}

-- the stamps, each as often as it is counted
abbrev pub stamps_in : List (ℕ × ℕ) → List ℕ
stamps_in [] = []
stamps_in (e ∷ es) = replicate e.1 e.0 ++ stamps_in es

-- how often a stamp is counted
abbrev pub times_counted : ℕ → List (ℕ × ℕ) → ℕ
times_counted stamp counts = unwrap_or (lookup (is_at (nat_cmp stamp)) counts) 0

-- the stamps ascend, and each is counted at least once
pub record AreCounts (counts : List (ℕ × ℕ)) : Type 0 where
  pub ordered : IsStrictlySortedBy nat_cmp (keys_of counts)
  pub some : AllByRecursion (λ (e : ℕ × ℕ). 1 ≤ e.1) counts

-- the new counts are of one stamp more, this one
abbrev pub HasOneMore : ℕ → List (ℕ × ℕ) → List (ℕ × ℕ) → Type 0
HasOneMore stamp old new = IsPermutation (stamp ∷ stamps_in old) (stamps_in new)

-- the new counts are of one stamp less, this one
abbrev pub HasOneLess : ℕ → List (ℕ × ℕ) → List (ℕ × ℕ) → Type 0
HasOneLess stamp old new = IsPermutation (stamps_in old) (stamp ∷ stamps_in new)

-- the counts with that of a stamp lower by one
abbrev pub with_lower : ℕ → List (ℕ × ℕ) → List (ℕ × ℕ)
with_lower stamp counts = set_value (is_at (nat_cmp stamp)) counts (times_counted stamp counts - 1)

-- What stands at a place of a list once another was put somewhere.
use Rattle.std.proofs.Common.{◌≡◌, ◌∙◌, ℕ, List, length, sym, ap, inl, inr}
use Rattle.std.specs.Prelude.{◌⊎◌, slice_get, slice_set, unwrap_or}
use Rattle.std.proofs.lemmas.Bool.{cases_eq, cases_lt}
use Rattle.std.proofs.lemmas.List.{get_or-set_other, get_or-set_same, set_past}
use Rattle.std.proofs.lemmas.Option.{unwrap_or-slice_get}

-- what stands at a place is what was put there, or what stood there
pub at-set : {X : Type 0} (d : X) (xs : List X) (i j : ℕ) (x : X)
    → ((j ≡ i) × (unwrap_or (slice_get (slice_set xs i x) j) d ≡ x))
    ⊎ (unwrap_or (slice_get (slice_set xs i x) j) d ≡ unwrap_or (slice_get xs j) d)
at-set d xs i j x = elim (cases_eq j i) [
  | inl same ↦ elim (cases_lt i (length xs)) [
    | inl within ↦ inl (
      same,
      ap (λ k. unwrap_or (slice_get (slice_set xs i x) k) d) same
          ∙ unwrap_or-slice_get (slice_set xs i x) i d ∙ get_or-set_same xs i x d within,
    )
    | inr past ↦ inr (ap (λ l. unwrap_or (slice_get l j) d) (set_past xs i x past))
  ]
  | inr other ↦ inr (unwrap_or-slice_get (slice_set xs i x) j d ∙ get_or-set_other xs i j x d other
      ∙ sym (unwrap_or-slice_get xs j d))
]

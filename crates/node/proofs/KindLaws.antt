-- The computations of a topology's kinds do what a worker asks of computations.
use Rattle.std.proofs.Common.{◌≡◌, ◌∙◌, ◌-◌, ℕ, Bool, true, false, cond, nat_lt, List, map, slice_get, All, Some, None, refl, ap, subst, arith}
use Rattle.std.specs.Option.{option_map, option_map_or}
use Rattle.std.proofs.lemmas.Option.{slice_get-map, slice_get_within, get_or_from_slice_get}
use Rattle.mw_types.specs.Kinds.{IsKind}
use Rattle.mw_types.specs.declared.kind.Kind.{Kind}
use Rattle.topology.specs.Shapes.{Shape, ComputationShape, injectors_of, kind_of}
use Rattle.computations.specs.Handlers.{unchanged, effects_of}
use Rattle.computations.specs.Parts.{Parts, kind_at, part_doings}
use Rattle.node.specs.Works.{IsWorkOf}

-- the kinds of a topology's computations
abbrev kinds_of : Shape → List Kind
kinds_of shape = map (λ (c : ComputationShape). c.kind) shape.computations

-- the kind among those of a topology is the part's kind
kind_among : (shape : Shape) (part : ℕ)
    → cond (nat_lt part (injectors_of shape)) None (slice_get (kinds_of shape) (part - injectors_of shape)) ≡ kind_of shape part
kind_among shape part = elim (nat_lt part (injectors_of shape)) as
    (λ b. cond b None (slice_get (kinds_of shape) (part - injectors_of shape))
    ≡ option_map (λ (c : ComputationShape). c.kind) (cond b None (slice_get shape.computations (part - injectors_of shape)))) [
      | true ↦ refl
      | false ↦ slice_get-map (λ (c : ComputationShape). c.kind) shape.computations (part - injectors_of shape)
    ]

-- so it is of parts that have the topology's kinds
kind_at-of : (shape : Shape) (parts : Parts) (part : ℕ) → parts.injectors ≡ injectors_of shape → parts.kinds ≡ kinds_of shape
    → kind_at parts part ≡ kind_of shape part
kind_at-of shape parts part injectors kinds =
    ap (λ n. cond (nat_lt part n) None (slice_get parts.kinds (part - n))) injectors
    ∙ ap (λ ks. cond (nat_lt part (injectors_of shape)) None (slice_get ks (part - injectors_of shape))) kinds
    ∙ kind_among shape part

-- a kind that is there is in range
ranged : (b : Bool) (kinds : List Kind) (at : ℕ) (kind : Kind) → cond b None (slice_get kinds at) ≡ Some kind → All IsKind kinds
    → IsKind kind
ranged true kinds at kind is all = grind (arith, is)
ranged false kinds at kind is all =
    subst IsKind (get_or_from_slice_get kinds at kind kind is) (all at kind (slice_get_within kinds at kind is))

-- the computations of a topology's kinds are work of it
pub kinds_work : (shape : Shape) (parts : Parts) → parts.injectors ≡ injectors_of shape → parts.kinds ≡ kinds_of shape
    → All IsKind parts.kinds
    → IsWorkOf shape (part_doings parts)
kinds_work shape parts injectors kinds within = record {
  states = λ part kind state is has.
      let same : kind_at parts part ≡ Some kind = kind_at-of shape parts part injectors kinds ∙ is in
      (kind, same, ranged (nat_lt part parts.injectors) parts.kinds (part - parts.injectors) kind same within, has);
  causes = λ part kind key state cause is.
      ap (λ k. option_map_or (λ kind. effects_of kind key state cause) k (unchanged state))
      (kind_at-of shape parts part injectors kinds ∙ is);
}

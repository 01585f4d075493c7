-- Leases that a worker keeps, unless another has overtaken them.
use Rattle.std.proofs.Common.{◌≡◌, ◌∙◌, ◌++◌, ℕ, List, refl, sym, ap, subst, arith, inl, inr, ⊎_elim}
use Rattle.std.specs.Prelude.{Option, Some, None}
use Rattle.std.specs.Option.{option_map}
use Rattle.mw_types.specs.declared.entry.Entry.{Entry}
use Rattle.run_history.proofs.Beginnings.{slice_get-more}
use Rattle.run_history.proofs.Claims.{last_claim-latest, last_claim-there}
use Rattle.holdings.specs.Holding.{HeldView, held_at}
use Rattle.node.specs.Workers.{NodeView, leases_of}
use Rattle.workers.specs.Slices.{IsOvertaken, KeepsLeases}
use Rattle.list_lemmas.proofs.Lists.{none_some, some_same}

-- a lease that was overtaken stays so
pub overtaken-more : (interval seq : ℕ) (front rest : List Entry) → IsOvertaken interval seq front
    → IsOvertaken interval seq (front ++ rest)
overtaken-more interval seq front rest (newer, (last, later)) =
    let there = last_claim-there interval newer front last in
    let latest = last_claim-latest interval newer there.0 (front ++ rest) (slice_get-more front newer _ rest there.1) in
    (latest.0, (latest.2, let up = latest.1 in omega (arith, later, up)))

-- the same leases are held
pub leases-same : (seen : List Entry) (was node : NodeView) → leases_of node.held ≡ leases_of was.held → KeepsLeases seen was node
leases-same seen was node same interval seq is = inl (ap (λ (f : ℕ → Option ℕ). f interval) same ∙ is)

-- what keeps leases once and again keeps them
pub leases-both : (mid rest new : List Entry) (was between node : NodeView) → new ≡ mid ++ rest → KeepsLeases mid was between
    → KeepsLeases new between node → KeepsLeases new was node
leases-both mid rest new was between node more one two interval seq is = ⊎_elim
    (λ held. two interval seq held)
    (λ gone. inr (subst (IsOvertaken interval seq) (sym more) (overtaken-more interval seq mid rest gone)))
    (one interval seq is)

-- what is held under a lease
pub lease-held : (all : List (Option HeldView)) (interval seq : ℕ) → leases_of all interval ≡ Some seq
    → (held : HeldView) × (held_at all interval ≡ Some held) × (held.lease.seq ≡ seq)
lease-held all interval seq is = by_held (held_at all interval) refl is
  where
    by_held : (o : Option HeldView) → held_at all interval ≡ o → option_map (λ (h : HeldView). h.lease.seq) o ≡ Some seq
        → (held : HeldView) × (held_at all interval ≡ Some held) × (held.lease.seq ≡ seq)
    by_held None at is = absurd (none_some seq is)
    by_held (Some held) at is = (held, at, some_same held.lease.seq seq is)

-- The fault of the first worker that has one.
use Rattle.std.proofs.Common.{inl, inr, ◌≡◌, ◌∷◌, zero, suc, List, [], refl, sym, subst, ⊎_elim, arith}
use Rattle.std.specs.Prelude.{All, IsSome, None, Option, Some, slice_index_or}
use Rattle.row_keeper.specs.declared.keeper.Keeper.{Ghosts}
use Rattle.node.specs.declared.outcome.NodeFault.{NodeFault}
use Rattle.workers.specs.Crews.{AreHealthy, IsFaulty}
use Rattle.workers.specs.Runs.{IsFirstFault}
use Rattle.workers.specs.declared.crew.Worker.{Worker}

-- what holds of all workers holds of all but the first
pub all-later : {W : Type 0} (fact : W → Type 0) (w : W) (crew : List W) → All fact (w ∷ crew) → All fact crew
all-later fact w crew all k d below = all (suc k) d (omega (arith, below))

-- none is there
pub none-some : {X : Type 0} (o : Option X) → o ≡ None → IsSome o → ⊥
none-some None none some = absurd cc
none-some (Some x) none some = absurd cc

-- the worker before others has the first fault, where it has one
pub first-more : {K J : Type 0} {g : Ghosts K} (worker : Worker K J g) (crew : List (Worker K J g)) (fault now : Option NodeFault)
    → IsFirstFault crew fault → (IsSome worker.fault → now ≡ worker.fault) → (worker.fault ≡ None → now ≡ fault)
    → IsFirstFault (worker ∷ crew) now
first-more worker crew fault now first some none = by_case worker.fault refl
  where
    by_case : (o : Option NodeFault) → worker.fault ≡ o → IsFirstFault (worker ∷ crew) now
    by_case None is = inr (is, subst (λ (f : Option NodeFault). IsFirstFault crew f) (sym (none is)) first)
    by_case (Some why) is =
        let there : IsSome worker.fault = subst (λ (o : Option NodeFault). IsSome o) (sym is) refl in
        let same : now ≡ worker.fault = some there in
        inl (sym same, subst (λ (o : Option NodeFault). IsSome o) (sym same) there)

-- a fact of the first worker and of all others
all-more : {W : Type 0} (fact : W → Type 0) (w : W) (crew : List W) → fact w → All fact crew → All fact (w ∷ crew)
all-more fact w crew first rest zero d below = first
all-more fact w crew first rest (suc k) d below = rest k d (omega (arith, below))

-- where there is none, no worker has one
pub first-healthy : {K J : Type 0} {g : Ghosts K} (crew : List (Worker K J g)) (fault : Option NodeFault) → fault ≡ None
    → IsFirstFault crew fault → AreHealthy crew
first-healthy [] fault none first = λ k d below. absurd (omega (arith, below))
first-healthy {K} {J} {g} (w ∷ crew) fault none first = ⊎_elim
    (λ (mine : (w.fault ≡ fault) × IsSome fault). absurd (none-some fault none mine.1))
    (λ (later : (w.fault ≡ None) × IsFirstFault crew fault).
    all-more (λ (v : Worker K J g). v.fault ≡ None) w crew later.0 (first-healthy crew fault none later.1))
    first

-- a worker that has one is behind one that has none
faulty-later : {K J : Type 0} {g : Ghosts K} (w : Worker K J g) (crew : List (Worker K J g)) → w.fault ≡ None → IsFaulty (w ∷ crew)
    → IsFaulty crew
faulty-later w crew none (zero, below, some) = absurd (none-some w.fault none (some w))
faulty-later w crew none (suc k, below, some) = (k, omega (arith, below), some)

-- where a worker has one, there is one
pub first-faulty : {K J : Type 0} {g : Ghosts K} (crew : List (Worker K J g)) (fault : Option NodeFault) → IsFirstFault crew fault
    → IsFaulty crew → IsSome fault
first-faulty [] fault first faulty = absurd (let below = faulty.1 in omega (arith, below))
first-faulty {K} {J} {g} (w ∷ crew) fault first faulty = ⊎_elim
    (λ (mine : (w.fault ≡ fault) × IsSome fault). mine.1)
    (λ (later : (w.fault ≡ None) × IsFirstFault crew fault).
    first-faulty crew fault later.1 (faulty-later w crew later.0 faulty))
    first

-- the worker that has it is one of them
pub first-has : {K J : Type 0} {g : Ghosts K} (fact : Worker K J g → Type 0) (crew : List (Worker K J g)) (why : NodeFault) → All fact crew
    → IsFirstFault crew (Some why) → (w : Worker K J g) × (w.fault ≡ Some why) × fact w
first-has fact [] why all first = absurd cc
first-has {K} {J} {g} fact (w ∷ crew) why all first = ⊎_elim
    (λ (mine : (w.fault ≡ Some why) × IsSome (Some why)). (w, mine.0, all 0 w (omega arith)))
    (λ (later : (w.fault ≡ None) × IsFirstFault crew (Some why)). first-has fact crew why (all-later fact w crew all) later.1)
    first

-- a worker with a fault is not healthy
pub faulty-healthy : {K J : Type 0} {g : Ghosts K} (crew : List (Worker K J g)) → IsFaulty crew → AreHealthy crew → ⊥
faulty-healthy [] faulty healthy = let below = faulty.1 in omega (arith, below)
faulty-healthy (w ∷ crew) faulty healthy =
    none-some (slice_index_or (w ∷ crew) faulty.0 w).fault (healthy faulty.0 w faulty.1) (faulty.2 w)

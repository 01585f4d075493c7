-- What all workers do, by what each does.
use Rattle.std.proofs.Common.{◌≡◌, ◌∙◌, ◌<◌, ◌≤◌, ◌+◌, ◌∷◌, ℕ, zero, suc, Bool, true, false, List, [], length, refl, sym, ap, subst, arith, set, inl, inr}
use Rattle.row_keeper.specs.declared.keeper.Keeper.{Ghosts}
use Rattle.std.specs.Prelude.{All, IsSome, None, slice_index_or, slice_set}
use Rattle.std.proofs.lemmas.Bool.{cases_eq}
use Rattle.std.proofs.lemmas.Grind.{get_or-set_at}
use Rattle.std.proofs.lemmas.List.{get_or_default, get_or-set_other, length-set}
use Rattle.atomic_table.specs.Seated.{TableId}
use Rattle.run_history.specs.Cases.{CaseShape}
use Rattle.run_history.specs.Fences.{Begins}
use Rattle.workers.specs.Crews.{AreHealthy, AreNumbered, AreWorkers, ClaimsOne, HasClaimedOne, HasDone, HasStepped, IsFaulty, IsWorker, KeepsEach, desk_of, spent, spent_by, stall_of}
use Rattle.workers.specs.Claims.{HasLeased, LeasesOne}
use Rattle.workers.specs.declared.crew.Worker.{Worker}
use Rattle.workers.proofs.Going.{gone-both, gone-not}

-- ---- one worker in the place of another

-- what is there, whatever stands for what is not
pub is-there : {W : Type 0} (crew : List W) (at : ℕ) (was d : W) → at < length crew → was ≡ slice_index_or crew at was
    → slice_index_or crew at d ≡ was
is-there crew at was d below is = get_or_default crew at d was below ∙ sym is

-- what is there is there, whatever stood for what is not
pub is-itself : {W : Type 0} (crew : List W) (at : ℕ) (d : W) → at < length crew
    → slice_index_or crew at d ≡ slice_index_or crew at (slice_index_or crew at d)
is-itself crew at d below = get_or_default crew at d (slice_index_or crew at d) below

-- a fact of the one that changed, and of what it was, holds of its place
pub there-set : {W : Type 0} (fact : W → W → Type 0) (crew : List W) (at : ℕ) (was now : W) → at < length crew
    → was ≡ slice_index_or crew at was → fact was now
    → (d : W) → fact (slice_index_or crew at d) (slice_index_or (slice_set crew at now) at d)
there-set fact crew at was now below is changed d =
    let here : slice_index_or (set crew at now) at d ≡ now = get_or-set_at crew at at now d refl below in
    subst (λ w. fact w (slice_index_or (set crew at now) at d)) (sym (is-there crew at was d below is))
    (subst (fact was) (sym here) changed)

-- a fact of two workers holds of each place, where it holds of the one that changed and of each worker and itself
pub each-set : {W : Type 0} (fact : W → W → Type 0) (crew : List W) (at : ℕ) (was now : W) → at < length crew
    → was ≡ slice_index_or crew at was → fact was now → ((w : W) → fact w w)
    → (k : ℕ) (d : W) → k < length crew → fact (slice_index_or crew k d) (slice_index_or (slice_set crew at now) k d)
each-set fact crew at was now below is changed same k d within = elim (cases_eq k at) [
  | inl e ↦ subst (λ (n : ℕ). fact (slice_index_or crew n d) (slice_index_or (set crew at now) n d)) (sym e)
      (there-set fact crew at was now below is changed d)
  | inr other ↦ subst (fact (slice_index_or crew k d)) (sym (get_or-set_other crew at k now d other)) (same (slice_index_or crew k d))
]

-- a fact of each worker holds, where it holds of the one that was changed
pub all-set : {W : Type 0} (fact : W → Type 0) (crew : List W) (at : ℕ) (now : W) → at < length crew → All fact crew → fact now
    → All fact (slice_set crew at now)
all-set fact crew at now below all changed k d within = elim (cases_eq k at) [
  | inl e ↦ subst fact (sym (get_or-set_at crew at k now d e below)) changed
  | inr other ↦ subst fact (sym (get_or-set_other crew at k now d other))
      (all k d (let long = length-set crew at now in omega (arith, within, long)))
]

-- a fact of each worker holds of the one that is there
pub all-there : {W : Type 0} (fact : W → Type 0) (crew : List W) (at : ℕ) (was : W) → at < length crew
    → was ≡ slice_index_or crew at was → All fact crew → fact was
all-there fact crew at was below is all = subst fact (sym is) (all at was below)

-- workers, of which one went on
pub workers-set : {K J : Type 0} {g : Ghosts K} (id : TableId) (case : CaseShape) (crew : List (Worker K J g)) (at : ℕ) (was now : Worker K J g) → at < length crew
    → was ≡ slice_index_or crew at was → now.node.number ≡ was.node.number → IsWorker id case now → AreWorkers id case crew
    → AreWorkers id case (slice_set crew at now)
workers-set id case crew at was now below is number good are = record {
  each = all-set (IsWorker id case) crew at now below are.each good;
  numbered = λ k d within.
      let inside : k < length crew = (let long = length-set crew at now in omega (arith, within, long)) in
      each-set (λ w v. v.node.number ≡ w.node.number) crew at was now below is number (λ w. refl) k d inside
      ∙ are.numbered k d inside;
}

-- ---- faults

-- a worker that has no fault, in the place of one
pub healthy-set : {K J : Type 0} {g : Ghosts K} (crew : List (Worker K J g)) (at : ℕ) (now : Worker K J g) → at < length crew
    → AreHealthy crew → now.fault ≡ None → AreHealthy (slice_set crew at now)
healthy-set {K} {J} {g} crew at now below healthy none = all-set (λ (w : Worker K J g). w.fault ≡ None) crew at now below healthy none

-- the one in its place had none before
pub healthy-there : {K J : Type 0} {g : Ghosts K} (crew : List (Worker K J g)) (at : ℕ) (was : Worker K J g) → at < length crew
    → was ≡ slice_index_or crew at was → AreHealthy crew → was.fault ≡ None
healthy-there {K} {J} {g} crew at was below is healthy = all-there (λ (w : Worker K J g). w.fault ≡ None) crew at was below is healthy

-- a worker that has a fault, in the place of one
pub faulty-set : {K J : Type 0} {g : Ghosts K} (crew : List (Worker K J g)) (at : ℕ) (now : Worker K J g) → at < length crew
    → IsSome now.fault → IsFaulty (slice_set crew at now)
faulty-set {K} {J} {g} crew at now below some = (
  at,
  (let long = length-set crew at now in omega (arith, below, long)),
  λ d. subst (λ (w : Worker K J g). IsSome w.fault) (sym (get_or-set_at crew at at now d refl below)) some,
)

-- ---- claims

-- a worker that claimed an interval, in the place of one
pub claims-set : {K J : Type 0} {g : Ghosts K} (crew : List (Worker K J g)) (at interval : ℕ) (was now : Worker K J g) → at < length crew
    → was ≡ slice_index_or crew at was → AreNumbered crew → HasClaimedOne was.node.number interval (desk_of was) (desk_of now)
    → ClaimsOne at interval crew (slice_set crew at now)
claims-set {K} {J} {g} crew at interval was now below is numbered claimed =
    let number : was.node.number ≡ at = ap (λ (w : Worker K J g). w.node.number) is ∙ numbered at was below in
    there-set (λ (w v : Worker K J g). HasClaimedOne at interval (desk_of w) (desk_of v)) crew at was now below is
    (subst (λ (n : ℕ). HasClaimedOne n interval (desk_of was) (desk_of now)) number claimed)

-- and has its lease
pub leases-set : {K J : Type 0} {g : Ghosts K} (crew : List (Worker K J g)) (at interval : ℕ) (was now : Worker K J g) → at < length crew
    → was ≡ slice_index_or crew at was → (seq : ℕ) × HasLeased interval seq was.node now.node (desk_of now)
    → LeasesOne at interval crew (slice_set crew at now)
leases-set {K} {J} {g} crew at interval was now below is (seq, leased) =
    (seq, there-set (λ (w v : Worker K J g). HasLeased interval seq w.node v.node (desk_of v)) crew at was now below is leased)

-- ---- what is spent

-- a worker that is to stall is to spend no more than all intervals
pub stall-few : (stall : Bool) → stall_of stall ≤ 61
stall-few true = omega arith
stall-few false = omega arith

-- what the place of one spends
pub spent-set : {K J : Type 0} {g : Ghosts K} (crew : List (Worker K J g)) (at : ℕ) (was now : Worker K J g) → at < length crew → was ≡ slice_index_or crew at was
    → spent (slice_set crew at now) + spent_by was ≡ spent crew + spent_by now
spent-set [] at was now below is = absurd (omega (arith, below))
spent-set (w ∷ crew) zero was now below is = let same = ap spent_by is in omega (arith, same)
spent-set (w ∷ crew) (suc at) was now below is =
    let rest = spent-set crew at was now (omega (arith, below)) is in omega (arith, rest)

-- ---- what all do

-- a worker that does nothing
pub stepped-not : {K J : Type 0} {g : Ghosts K} (worker : Worker K J g) → HasStepped worker worker
stepped-not worker = record { most = 0; went_on = gone-not (desk_of worker); number = refl }

-- what a worker went on from begins what it has seen
pub stepped-begins : {K J : Type 0} {g : Ghosts K} (was now : Worker K J g) → HasStepped was now
    → Begins (desk_of was).seen (desk_of now).seen
stepped-begins was now stepped = (stepped.went_on.rest, sym stepped.went_on.more)

-- nothing is done
pub done-not : {K J : Type 0} {g : Ghosts K} (crew : List (Worker K J g)) → HasDone 0 crew crew
done-not crew = record {
  long = refl;
  each = λ at d below. stepped-not (slice_index_or crew at d);
  few = omega arith;
}

-- one worker goes on
pub done-set : {K J : Type 0} {g : Ghosts K} (most : ℕ) (crew : List (Worker K J g)) (at : ℕ) (was now : Worker K J g) → at < length crew
    → was ≡ slice_index_or crew at was → HasStepped was now → spent_by now ≤ spent_by was + most
    → HasDone most crew (slice_set crew at now)
done-set most crew at was now below is stepped few = record {
  long = length-set crew at now;
  each = each-set HasStepped crew at was now below is stepped stepped-not;
  few = let total = spent-set crew at was now below is in omega (arith, total, few);
}

-- all go on, and go on, within so many
pub done-then : {K J : Type 0} {g : Ghosts K} (m n k : ℕ) (old mid new : List (Worker K J g)) → m + n ≤ k → HasDone m old mid → HasDone n mid new
    → HasDone k old new
done-then m n k old mid new less one two = record {
  long = two.long ∙ one.long;
  each = λ at d below.
      let first = one.each at d below in
      let second = two.each at d (let long = one.long in omega (arith, below, long)) in
      record {
        most = first.most + second.most;
        went_on = gone-both first.most second.most (desk_of (slice_index_or old at d)) (desk_of (slice_index_or mid at d))
            (desk_of (slice_index_or new at d)) first.went_on second.went_on;
        number = second.number ∙ first.number;
      };
  few = let a = one.few in let b = two.few in omega (arith, a, b, less);
}

-- at most so many is at most more
pub done-less : {K J : Type 0} {g : Ghosts K} (m n : ℕ) (old new : List (Worker K J g)) → m ≤ n → HasDone m old new → HasDone n old new
done-less m n old new less done = record {
  long = done.long;
  each = done.each;
  few = let few = done.few in omega (arith, few, less);
}

-- what one worker was to spend all may spend
pub done-settled : {K J : Type 0} {g : Ghosts K} (most : ℕ) (old mid new : List (Worker K J g)) → spent mid + most ≤ spent old
    → HasDone 0 old mid → HasDone most mid new → HasDone 0 old new
done-settled most old mid new settled one two =
    let done = done-then 0 most most old mid new (omega arith) one two in
    record { long = done.long; each = done.each; few = let few = two.few in omega (arith, settled, few) }

-- ---- what each keeps

-- a part of one worker is as it was
pub keeps-set : {K J X : Type 0} {g : Ghosts K} (part : Worker K J g → X) (crew : List (Worker K J g)) (at : ℕ) (was now : Worker K J g) → at < length crew
    → was ≡ slice_index_or crew at was → part now ≡ part was → KeepsEach part crew (slice_set crew at now)
keeps-set part crew at was now below is same = each-set (λ w v. part v ≡ part w) crew at was now below is same (λ w. refl)

-- and again
pub keeps-then : {K J X : Type 0} {g : Ghosts K} (part : Worker K J g → X) (old mid new : List (Worker K J g)) → length mid ≡ length old
    → KeepsEach part old mid → KeepsEach part mid new → KeepsEach part old new
keeps-then part old mid new long one two at d below = two at d (omega (arith, below, long)) ∙ one at d below

-- what holds of a part of each worker holds still
pub keeps-all : {K J X : Type 0} {g : Ghosts K} (part : Worker K J g → X) (fact : X → Type 0) (old new : List (Worker K J g)) → length new ≡ length old
    → KeepsEach part old new → All (λ w. fact (part w)) old → All (λ w. fact (part w)) new
keeps-all part fact old new long keeps all at d below =
    let inside : at < length old = omega (arith, below, long) in subst fact (sym (keeps at d inside)) (all at d inside)

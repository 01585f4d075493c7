-- A seat that takes in those of all workers.
use Rattle.std.proofs.Common.{inl, inr, ◌≡◌, ◌⊎◌, ◌∙◌, ◌<◌, ◌≤◌, ◌+◌, ◌-◌, ◌∷◌, ℕ, zero, suc, List, [], length, refl, sym, ap, subst, ⊎_elim, arith}
use Rattle.std.specs.Prelude.{slice_index_or}
use Rattle.std.proofs.lemmas.Bool.{cases_eq}
use Rattle.row_keeper.specs.declared.keeper.Keeper.{Ghosts}
use Rattle.run_history.specs.Cases.{CaseShape}
use Rattle.run_history.specs.Fences.{Begins}
use Rattle.run_history.proofs.Beginnings.{Begins-itself, Begins-trans}
use Rattle.shared_book.specs.Joins.{joined, merged}
use Rattle.shared_book.specs.Lists.{IsIn}
use Rattle.shared_book.specs.declared.views.View.{View}
use Rattle.shared_book.proofs.Merging.{in_merged, merged_left, merged_right}
use Rattle.workers.specs.Claims.{HaveBegun, HaveClaimedSome}
use Rattle.workers.specs.Crews.{desk_of}
use Rattle.workers.specs.Runs.{HasRunFirst, HasRunSome, HasTakenIn, IsOwnOf}
use Rattle.workers.specs.declared.crew.Worker.{Worker}
use Rattle.workers.proofs.Exact.{claimed-more, merged-length}

-- nobody was taken in
pub taken-not : {K J : Type 0} {g : Ghosts K} (v : View) (from : ℕ) → HasTakenIn {K = K} {J = J} {g = g} v from [] v
taken-not v from = record {
  basis = refl;
  seen = Begins-itself v.front;
  each = λ k d below. absurd (omega (arith, below));
  numbers = λ n here. here;
  all = λ n low high. absurd (omega (arith, low, high));
  own = λ n here. inl here;
  few = omega arith;
  faults = λ k d below. absurd (omega (arith, below));
}

-- the worker before those that were taken in is taken in too
pub taken-more : {K J : Type 0} {g : Ghosts K} (old mid new : View) (from : ℕ) (worker : Worker K J g) (taken : List (Worker K J g))
    → HasTakenIn old (suc from) taken mid → new ≡ joined mid worker.seat.place.me.0 → worker.seat.place.me.0.numbers ≡ from ∷ []
    → Begins mid.front new.front → Begins (desk_of worker).seen new.front → HasTakenIn old from (worker ∷ taken) new
taken-more {K} {J} {g} old mid new from worker taken has is number seen met = record {
  basis = ap (λ (v : View). v.basis) is ∙ has.basis;
  seen = Begins-trans old.front mid.front new.front has.seen seen;
  each = each;
  numbers = λ n here. subst (IsIn n) (sym numbers_are) (merged_left n mid.numbers w.numbers (has.numbers n here));
  all = all;
  own = own;
  few = let long = ap length own_are ∙ merged-length mid.own w.own in let few = has.few in omega (arith, long, few);
  faults = faults;
}
  where
    w : View
    w = worker.seat.place.me.0

    numbers_are : new.numbers ≡ merged mid.numbers w.numbers
    numbers_are = ap (λ (v : View). v.numbers) is

    own_are : new.own ≡ merged mid.own w.own
    own_are = ap (λ (v : View). v.own) is

    faults_are : new.faults ≡ mid.faults + (w.faults - mid.faults)
    faults_are = ap (λ (v : View). v.faults) is

    each : (k : ℕ) (d : Worker K J g) → k < suc (length taken) → Begins (desk_of (slice_index_or (worker ∷ taken) k d)).seen new.front
    each zero d below = met
    each (suc k) d below = Begins-trans (desk_of (slice_index_or taken k d)).seen mid.front new.front (has.each k d (omega (arith, below))) seen

    first : (n : ℕ) → n ≡ from → IsIn n new.numbers
    first n same = subst (IsIn n) (sym numbers_are) (merged_right n mid.numbers w.numbers (subst (IsIn n) (sym number) (inl same)))

    later : (n : ℕ) → suc from ≤ n → n < from + suc (length taken) → IsIn n new.numbers
    later n low high = subst (IsIn n) (sym numbers_are)
        (merged_left n mid.numbers w.numbers (has.all n low (omega (arith, high))))

    all : (n : ℕ) → from ≤ n → n < from + suc (length taken) → IsIn n new.numbers
    all n low high = elim (cases_eq n from) [
      | inl same ↦ first n same
      | inr other ↦ later n (omega (arith, low, other)) high
    ]

    deeper : (n : ℕ) → IsOwnOf taken n → IsOwnOf (worker ∷ taken) n
    deeper n it = (suc it.0, (let below = it.1 in omega (arith, below)), λ d. it.2 d)

    own : (n : ℕ) → IsIn n new.own → IsIn n old.own ⊎ IsOwnOf (worker ∷ taken) n
    own n here = ⊎_elim
        (λ before. ⊎_elim (λ was. inl was) (λ it. inr (deeper n it)) (has.own n before))
        (λ mine. inr (0, omega arith, λ d. mine))
        (in_merged n mid.own w.own (subst (IsIn n) own_are here))

    faults : (k : ℕ) (d : Worker K J g) → k < suc (length taken) → (desk_of (slice_index_or (worker ∷ taken) k d)).faults ≤ new.faults
    faults zero d below = omega (arith, faults_are)
    faults (suc k) d below = let less = has.faults k d (omega (arith, below)) in omega (arith, faults_are, less)

-- ---- the first claims, by what all workers know

-- the first claims stand in what the seat has seen
pub run-first : {K J : Type 0} {g : Ghosts K} (workers : ℕ) (case : CaseShape) (crew : List (Worker K J g)) (old new : View) (d : Worker K J g)
    → 0 < length crew → old.own ≡ [] → HasTakenIn old 0 crew new → HaveBegun workers case crew → HasRunFirst workers case new
run-first workers case crew old new d some none taken begun = record {
  front = begun.front;
  numbers = begun.numbers;
  claimed = begun.claimed;
  begins = Begins-trans begun.front (desk_of (slice_index_or crew 0 d)).seen new.front (begun.each 0 d some).seen (taken.each 0 d some);
  own = λ n here. ⊎_elim
      (λ was. absurd (subst (IsIn n) none was))
      (λ it. (begun.each it.0 d it.1).own n (it.2 d))
      (taken.own n here);
}

-- some of them do
pub run-some : {K J : Type 0} {g : Ghosts K} (workers : ℕ) (case : CaseShape) (crew : List (Worker K J g)) (old new : View) (d : Worker K J g)
    → old.own ≡ [] → HasTakenIn old 0 crew new → HaveClaimedSome workers case crew → HasRunSome workers case new
run-some workers case crew old new d none taken some = record {
  count = some.count;
  few = some.few;
  numbers = some.claimed.numbers;
  claimed =
      let claimed = some.claimed.claimed d some.there in
      record {
        many = claimed.many;
        ascend = claimed.ascend;
        at = claimed-more workers 0 some.claimed.numbers (desk_of (slice_index_or crew some.last d)).seen new.front
            (taken.each some.last d some.there) claimed.at;
      };
  own = λ n here. ⊎_elim
      (λ was. absurd (subst (IsIn n) none was))
      (λ it. some.claimed.own it.0 d it.1 n (it.2 d))
      (taken.own n here);
}

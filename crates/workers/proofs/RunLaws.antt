-- What a run of workers leaves at the seat that took in those of all.
use Rattle.std.proofs.Common.{inl, inr, ◌≡◌, ◌⊎◌, ◌∙◌, ◌<◌, ◌≤◌, ◌+◌, ◌∷◌, ℕ, zero, suc, List, [], length, refl, sym, ap, subst, ⊎_elim, arith}
use Rattle.std.specs.Prelude.{All, IfSome, None, Option, Some, slice_index_or}
use Rattle.std.proofs.lemmas.Bool.{cases_eq}
use Rattle.row_keeper.specs.declared.keeper.Keeper.{Ghosts}
use Rattle.atomic_table.specs.Seated.{TableId}
use Rattle.mw_types.specs.declared.entry.Entry.{Entry}
use Rattle.run_history.specs.Cases.{CaseShape}
use Rattle.run_history.specs.Fences.{Begins}
use Rattle.run_history.proofs.Beginnings.{Begins-itself, Begins-length}
use Rattle.node.specs.Answers.{refusal_of}
use Rattle.node.specs.declared.outcome.NodeFault.{NodeFault}
use Rattle.node.specs.declared.outcome.NodeFault.TheVariants as faults
use Rattle.shared_book.specs.Lists.{IsIn}
use Rattle.shared_book.specs.Opening.{span}
use Rattle.shared_book.specs.declared.views.Basis.{Basis}
use Rattle.shared_book.specs.declared.views.View.{View}
use Rattle.workers.specs.Claims.{HaveBegun, HaveClaimedSome}
use Rattle.workers.specs.Crews.{AreWorkers, HasDone, HasFaultCause, IsFaulty, IsWorker, desk_of, own_total, spent, spent_by}
use Rattle.workers.specs.Rounds.{IsDamageAt, rounds_room}
use Rattle.workers.specs.Runs.{HasDealt, HasEndCause, HasRun, HasTakenIn, IsFirstFault, IsHired}
use Rattle.workers.specs.declared.crew.Worker.{Worker}
use Rattle.workers.proofs.Faults.{all-later, first-faulty, first-has}
use Rattle.workers.proofs.Taken.{run-first, run-some}

-- ---- how much was appended

-- where nobody has spent anything, all have spent nothing
pub spent-none : {K J : Type 0} {g : Ghosts K} (crew : List (Worker K J g)) → All (λ (w : Worker K J g). spent_by w ≡ 0) crew
    → spent crew ≡ 0
spent-none [] none = refl
spent-none {K} {J} {g} (w ∷ crew) none =
    let first = none 0 w (omega arith) in
    let rest = spent-none crew (all-later (λ (v : Worker K J g). spent_by v ≡ 0) w crew none) in
    omega (arith, first, rest)

-- what was appended is spent
own-spent : {K J : Type 0} {g : Ghosts K} (crew : List (Worker K J g)) → own_total crew ≤ spent crew
own-spent [] = omega arith
own-spent (w ∷ crew) = let rest = own-spent crew in omega (arith, rest)

-- ---- what workers know of the book

-- what a worker that has ended knows, by what the seat has seen that took it in
record IsEnded {K J : Type 0} {g : Ghosts K} (id : TableId) (case : CaseShape) (old new : View) (worker : Worker K J g) : Type 0 where
  is : IsWorker id case worker
  limit : (desk_of worker).limit ≡ old.basis.limit
  told : (desk_of worker).told ≡ old.basis.told
  seen : Begins (desk_of worker).seen new.front
  faults : (desk_of worker).faults ≤ new.faults

-- what a worker was told when it was hired it knows still
pub ended-told : {K J : Type 0} {g : Ghosts K} (most : ℕ) (old : View) (hired crew : List (Worker K J g)) → All (IsHired old) hired
    → HasDone most hired crew → (k : ℕ) (d : Worker K J g) → k < length crew
    → (desk_of (slice_index_or crew k d)).told ≡ old.basis.told
ended-told most old hired crew are done k d below =
    let inside : k < length hired = (let long = done.long in omega (arith, below, long)) in
    (done.each k d inside).went_on.told ∙ (are k d inside).told

ended : {K J : Type 0} {g : Ghosts K} (id : TableId) (case : CaseShape) (most : ℕ) (old dealt new : View) (hired crew : List (Worker K J g))
    → All (IsHired old) hired → HasDone most hired crew → AreWorkers id case crew → HasTakenIn dealt 0 crew new
    → All (IsEnded id case old new) crew
ended id case most old dealt new hired crew are done workers taken k d below =
    let inside : k < length hired = (let long = done.long in omega (arith, below, long)) in record {
      is = workers.each k d below;
      limit = (done.each k d inside).went_on.limit ∙ (are k d inside).limit;
      told = ended-told most old hired crew are done k d below;
      seen = taken.each k d below;
      faults = taken.faults k d below;
    }

-- the fault of a worker has its cause in what the seat has seen
ended-cause : {K J : Type 0} {g : Ghosts K} (id : TableId) (case : CaseShape) (old new : View) (worker : Worker K J g) (why : NodeFault)
    → new.basis ≡ old.basis → old.basis.case ≡ case → IsEnded id case old new worker → HasFaultCause (desk_of worker) why
    → HasEndCause new why
ended-cause id case old new worker why same its is cause = record {
  keeper = λ failed. let some = cause.keeper failed in let more = is.faults in omega (arith, some, more);
  full = λ full.
      let at = cause.full full in
      let long = Begins-length (desk_of worker).seen new.front is.seen in
      let limit = is.limit in
      let now = ap (λ (b : Basis). b.limit) same in
      omega (arith, at, long, limit, now);
  count = cause.count;
  seen = let count = cause.seen in let long = Begins-length (desk_of worker).seen new.front is.seen in omega (arith, count, long);
  damaged =
      subst (λ (c : CaseShape). IsDamageAt c new.basis.told cause.count (refusal_of why)) case_same
      (subst (λ (t : Option Unit). IsDamageAt (desk_of worker).case t cause.count (refusal_of why)) told_same cause.damaged);
}
  where
    told_same : (desk_of worker).told ≡ new.basis.told
    told_same = is.told ∙ sym (ap (λ (b : Basis). b.told) same)

    case_same : (desk_of worker).case ≡ new.basis.case
    case_same = is.is.seated.here.case ∙ sym its ∙ sym (ap (λ (b : Basis). b.case) same)

-- ---- the run

-- no memory was there, and nothing was done
pub run-none : (case : CaseShape) (workers most : ℕ) (v : View) → v.basis.seats ≡ workers + 1 → v.numbers ≡ span 0 (workers + 1) → v.own ≡ []
    → HasRun case workers most v v (Some faults.NoMemory)
run-none case workers most v seats numbers none = record {
  basis = refl;
  seen = Begins-itself v.front;
  numbers = λ n below. subst (IsIn n) (sym numbers) (in-span 0 n (workers + 1) (omega arith) (omega (arith, below, seats)));
  few = omega arith;
  cause = record {
    keeper = λ is. absurd cc;
    full = λ is. absurd cc;
    count = 0;
    seen = omega arith;
    damaged = tt;
  };
  first = inr (
    refl,
    record {
      count = 0;
      few = omega arith;
      numbers = [];
      claimed = record { many = refl; ascend = tt; at = tt };
      own = λ n here. absurd (subst (IsIn n) none here);
    },
  );
}
  where
    in-span : (from n count : ℕ) → from ≤ n → n < from + count → IsIn n (span from count)
    in-span from n zero low high = absurd (omega (arith, low, high))
    in-span from n (suc count) low high = elim (cases_eq n from) [
      | inl same ↦ inl same
      | inr other ↦ inr (in-span (suc from) n count (omega (arith, low, other)) (omega (arith, high)))
    ]

-- the workers did their rounds, and their seats are one again
run-ended : {K J : Type 0} {g : Ghosts K} (id : TableId) (case : CaseShape) (most : ℕ) (old dealt new : View) (hired crew : List (Worker K J g))
    (d : Worker K J g) (fault : Option NodeFault) → 0 < length crew → HasDealt old dealt → dealt.numbers ≡ length crew ∷ []
    → old.basis.seats ≡ length crew + 1 → old.basis.case ≡ case → old.own ≡ [] → All (IsHired old) hired → HasDone most hired crew
    → AreWorkers id case crew → HasTakenIn dealt 0 crew new → IsFirstFault crew fault
    → HaveBegun (length crew) case crew ⊎ (IsFaulty crew × HaveClaimedSome (length crew) case crew)
    → HasRun case (length crew) most old new fault
run-ended {K} {J} {g} id case most old dealt new hired crew d fault some from number seats its none are done workers taken first begun = record {
  basis = taken.basis ∙ from.basis;
  seen = subst (λ (h : List Entry). Begins h new.front) from.front taken.seen;
  numbers = numbers;
  few =
      let own = taken.few in
      let before = ap length from.own in
      let total = own-spent crew in
      let done_few = done.few in
      let nothing = spent-none hired (λ k e below. (are k e below).calm) in
      omega (arith, own, before, total, done_few, nothing);
  cause = by_fault fault first;
  first = ⊎_elim
      (λ all. inl (run-first (length crew) case crew dealt new d some fresh taken all))
      (λ some_claims. inr (
        first-faulty crew fault first some_claims.0,
        run-some (length crew) case crew dealt new d fresh taken some_claims.1,
      ))
      begun;
}
  where
    fresh : dealt.own ≡ []
    fresh = from.own ∙ none

    numbers : (n : ℕ) → n < old.basis.seats → IsIn n new.numbers
    numbers n below = elim (cases_eq n (length crew)) [
      | inl same ↦ taken.numbers n (subst (IsIn n) (sym number) (inl same))
      | inr other ↦ taken.all n (omega arith) (omega (arith, below, seats, other))
    ]

    by_fault : (o : Option NodeFault) → IsFirstFault crew o → IfSome o (HasEndCause new)
    by_fault None is = tt
    by_fault (Some why) is =
        let it = first-has (IsEnded id case old new) crew why (ended id case most old dealt new hired crew are done workers taken) is in
        ended-cause id case old new it.0 why (taken.basis ∙ from.basis) its it.2
        (subst (λ (o : Option NodeFault). IfSome o (HasFaultCause (desk_of it.0))) it.1 it.2.is.cause)

-- the same, whoever the workers are
pub run-all : {K J : Type 0} {g : Ghosts K} (id : TableId) (case : CaseShape) (most : ℕ) (old dealt new : View) (hired crew : List (Worker K J g))
    (fault : Option NodeFault) → 0 < length crew → HasDealt old dealt → dealt.numbers ≡ length crew ∷ []
    → old.basis.seats ≡ length crew + 1 → old.basis.case ≡ case → old.own ≡ [] → All (IsHired old) hired → HasDone most hired crew
    → AreWorkers id case crew → HasTakenIn dealt 0 crew new → IsFirstFault crew fault
    → HaveBegun (length crew) case crew ⊎ (IsFaulty crew × HaveClaimedSome (length crew) case crew)
    → HasRun case (length crew) most old new fault
run-all id case most old dealt new hired [] fault some from number seats its none are done workers taken first begun =
    absurd (omega (arith, some))
run-all id case most old dealt new hired (w ∷ crew) fault some from number seats its none are done workers taken first begun =
    run-ended id case most old dealt new hired (w ∷ crew) w fault some from number seats its none are done workers taken first begun

-- the same, with as many workers as were hired
pub run-of : {K J : Type 0} {g : Ghosts K} (id : TableId) (case : CaseShape) (workers rounds acts : ℕ) (old dealt new : View)
    (hired crew : List (Worker K J g)) (fault : Option NodeFault) → 0 < workers → length hired ≡ workers → HasDealt old dealt
    → dealt.numbers ≡ workers ∷ [] → old.basis.seats ≡ workers + 1 → old.basis.case ≡ case → old.own ≡ [] → All (IsHired old) hired
    → HasDone (rounds_room (length hired) rounds acts) hired crew → AreWorkers id case crew → HasTakenIn dealt 0 crew new
    → IsFirstFault crew fault → HaveBegun (length hired) case crew ⊎ (IsFaulty crew × HaveClaimedSome (length hired) case crew)
    → HasRun case workers (rounds_room workers rounds acts) old new fault
run-of {K} {J} {g} id case workers rounds acts old dealt new hired crew fault some many from number seats its none are done all taken first begun =
    subst (λ (n : ℕ). HasRun case n (rounds_room n rounds acts) old new fault) same
    (run-all id case (rounds_room (length crew) rounds acts) old dealt new hired crew fault (omega (arith, some, same)) from
    (number ∙ ap (λ (n : ℕ). n ∷ []) (sym same)) (omega (arith, seats, same)) its none are
    (subst (λ (n : ℕ). HasDone (rounds_room n rounds acts) hired crew) (sym done.long) done) all taken first
    (subst (λ (n : ℕ). HaveBegun n case crew ⊎ (IsFaulty crew × HaveClaimedSome n case crew)) (sym done.long) begun))
  where
    same : length crew ≡ workers
    same = done.long ∙ many

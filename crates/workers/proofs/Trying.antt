-- A claim that is tried until nobody else has the turn.
use Rattle.std.proofs.Common.{◌≡◌, ◌∙◌, ◌<◌, ◌≤◌, ◌++◌, ◌∷◌, ℕ, cond, List, [], length, refl, sym, ap, subst, arith, append_assoc, length-append, ⊎_elim}
use Rattle.std.specs.Prelude.{Option, Some, None, IfSome, slice_get}
use Rattle.std.proofs.lemmas.Bool.{eq-eqb, ne_eqb}
use Rattle.mw_types.specs.Causes.{Rose}
use Rattle.mw_types.specs.declared.entry.Entry.{Entry}
use Rattle.mw_types.specs.declared.entry.Entry.TheVariants as entries
use Rattle.topology.specs.Shapes.{Shape}
use Rattle.run_history.specs.Cases.{CaseShape}
use Rattle.run_history.proofs.Beginnings.{slice_get-last}
use Rattle.book.specs.Desks.{DeskView, HasLooked, HasMoved}
use Rattle.book.specs.DeskReasons.{HasClaimReason, IsDamageOf, IsDecided}
use Rattle.book.proofs.Numbers.{numbers_from-one, own-stays}
use Rattle.node.specs.Answers.{AnswersClaim, HasKept, IsTaken, refusal_of}
use Rattle.node.specs.Workers.{NodeView, Worker, leases_of}
use Rattle.node.specs.declared.outcome.NodeFault.{NodeFault}
use Rattle.node.specs.declared.outcome.NodeFault.TheVariants as faults
use Rattle.node.specs.declared.outcome.Outcome.{Outcome}
use Rattle.node.specs.declared.outcome.Outcome.TheVariants as outcomes
use Rattle.node.proofs.FitLaws.{looked-moved, looked_twice}
use Rattle.workers.specs.Slices.{IsSliceFault}
use Rattle.workers.specs.Claims.{HasLeased}
use Rattle.workers.specs.Crews.{HasClaimedOne, HasFaultCause, HasGoneOn}
use Rattle.workers.specs.Rounds.{IsDamageAt}
use Rattle.workers.specs.Tries.{IsClaimed}

-- ---- a claim

-- a desk that appended one entry
pub gone-once : (old new : DeskView) (before : List Entry) (entry : Entry) → HasMoved old new before → new.seen ≡ before ++ entry ∷ []
    → HasGoneOn 1 old new
gone-once old new before entry moved appended = record {
  case = moved.case;
  limit = moved.limit;
  told = moved.told;
  rest = moved.others ++ entry ∷ [];
  more = appended ∙ ap (λ (h : List Entry). h ++ entry ∷ []) moved.more ∙ append_assoc old.seen moved.others (entry ∷ []);
  added = length before ∷ [];
  own = moved.own ∙ ap (λ (l : List ℕ). old.own ++ l) (numbers_from-one before new.seen entry appended);
  few = omega arith;
  later = λ number here. ⊎_elim
      (λ (same : number ≡ length before).
      let front = ap length moved.more ∙ length-append old.seen moved.others in omega (arith, same, front))
      (λ none. absurd none) here;
  faults = moved.faults;
}

-- and that was a claim
pub one-claimed : (old new : DeskView) (before : List Entry) (worker interval : ℕ) → HasMoved old new before
    → new.seen ≡ before ++ entries.Claim worker interval ∷ [] → HasClaimedOne worker interval old new
one-claimed old new before worker interval moved appended = record {
  number = length before;
  later = let front = ap length moved.more ∙ length-append old.seen moved.others in omega (arith, front);
  own = moved.own ∙ ap (λ (l : List ℕ). old.own ++ l) (numbers_from-one before new.seen (entries.Claim worker interval) appended);
  at = ap (λ (h : List Entry). slice_get h (length before)) appended ∙ slice_get-last before (entries.Claim worker interval);
}

-- what was claimed after looks
pub claim-done : (shape : Shape) (old mid new : DeskView) (interval : ℕ) (was node : NodeView) (outcome : Outcome) → HasLooked old mid
    → AnswersClaim shape mid new interval was node outcome → IsClaimed outcome
    → HasGoneOn 1 old new × HasClaimedOne was.number interval old new
claim-done shape old mid new interval was node (outcomes.Claimed seq) looked answers claimed =
    let moved = looked-moved old mid new answers.before looked answers.moved in (
      gone-once old new answers.before (entries.Claim was.number interval) moved answers.appended,
      one-claimed old new answers.before was.number interval moved answers.appended,
    )
claim-done shape old mid new interval was node _ looked answers claimed = absurd claimed

-- another had the turn
pub claim-busy : (shape : Shape) (old mid new : DeskView) (interval : ℕ) (was node : NodeView) (outcome : Outcome) → HasLooked old mid
    → AnswersClaim shape mid new interval was node outcome → (IsClaimed outcome → ⊥) → HasLooked old new
claim-busy shape old mid new interval was node (outcomes.Claimed seq) looked answers not = absurd (not tt)
claim-busy shape old mid new interval was node (outcomes.Busy found) looked answers not = looked_twice old mid new looked answers.0.looked
claim-busy shape old mid new interval was node _ looked answers not = absurd answers

-- a worker that was as before tries has the lease of what it claimed
leased-taken : (shape : Shape) (old new : DeskView) (interval : ℕ) (first was node : NodeView) (seq : ℕ) → HasKept first was
    → IsTaken shape old new interval was node seq → HasLeased interval seq first node new
leased-taken shape old new interval first was node seq kept taken = record {
  claimed = (
    was.number,
    subst (λ (n : ℕ). slice_get new.seen n ≡ Some (entries.Claim was.number interval)) (sym taken.number)
        (ap (λ (h : List Entry). slice_get h (length taken.before)) taken.appended
        ∙ slice_get-last taken.before (entries.Claim was.number interval)),
  );
  lease = ap (λ (w : Worker). w.leases interval) taken.left
      ∙ ap (λ b. cond b (Some seq) (leases_of was.held interval)) (eq-eqb interval interval refl);
  others = λ other apart. ap (λ (w : Worker). w.leases other) taken.left
      ∙ ap (λ b. cond b (Some seq) (leases_of was.held other)) (ne_eqb other interval apart)
      ∙ ap (λ (w : Worker). w.leases other) kept;
}

-- so where it was claimed
pub claim-leased : (shape : Shape) (old new : DeskView) (interval : ℕ) (first was node : NodeView) (outcome : Outcome) → HasKept first was
    → AnswersClaim shape old new interval was node outcome → IsClaimed outcome
    → (seq : ℕ) × HasLeased interval seq first node new
claim-leased shape old new interval first was node (outcomes.Claimed seq) kept answers claimed =
    (seq, leased-taken shape old new interval first was node seq kept answers)
claim-leased shape old new interval first was node _ kept answers claimed = absurd claimed

-- and where another had the turn the worker is as it was
pub claim-kept : (shape : Shape) (old new : DeskView) (interval : ℕ) (first was node : NodeView) (outcome : Outcome) → HasKept first was
    → AnswersClaim shape old new interval was node outcome → (IsClaimed outcome → ⊥) → HasKept first node
claim-kept shape old new interval first was node (outcomes.Claimed seq) kept answers not = absurd (not tt)
claim-kept shape old new interval first was node (outcomes.Busy found) kept answers not = answers.0.kept ∙ kept
claim-kept shape old new interval first was node _ kept answers not = absurd answers

-- ---- why it fails

-- a count that rose is not 0
pub rose-some : (before now : ℕ) → Rose before now → 0 < now
rose-some before now rose = omega (arith, rose)

-- a damaged row is damaged for what was seen
damage-here : (desk : DeskView) (why : NodeFault) → IsDamageOf desk (refusal_of why)
    → IsDamageAt desk.case desk.told (length desk.seen) (refusal_of why)
damage-here desk faults.HistoryFull is = tt
damage-here desk faults.KeeperFault is = tt
damage-here desk (faults.RowDamaged name bytes) is = is
damage-here desk faults.NoMemory is = tt

-- a claim fails for its cause
pub cause-claim : (old new : DeskView) (why : NodeFault) → HasClaimReason old new (refusal_of why) → HasFaultCause new why
cause-claim old new why reason = record {
  keeper = λ is. rose-some old.faults new.faults (reason.counts.keeper (ap refusal_of is));
  full = λ is. let full = (reason.full (decided is)).0 (ap refusal_of is) in omega (arith, full);
  count = length new.seen;
  seen = omega arith;
  damaged = damage-here new why reason.damaged;
}
  where
    decided : why ≡ faults.HistoryFull → IsDecided (refusal_of why)
    decided is = subst (λ w. IsDecided (refusal_of w)) (sym is) tt

-- the cause of a fault is its cause still where a desk has gone on
pub cause-gone : (most : ℕ) (old new : DeskView) (why : NodeFault) → HasGoneOn most old new → HasFaultCause old why → HasFaultCause new why
cause-gone most old new why went cause = record {
  keeper = λ is. let some = cause.keeper is in let more = went.faults in omega (arith, some, more);
  full = λ is. let full = cause.full is in let same = went.limit in omega (arith, full, same, long);
  count = cause.count;
  seen = let few = cause.seen in omega (arith, few, long);
  damaged = subst (λ (case : CaseShape). IsDamageAt case new.told cause.count (refusal_of why)) (sym went.case)
      (subst (λ (told : Option Unit). IsDamageAt old.case told cause.count (refusal_of why)) (sym went.told) cause.damaged);
}
  where
    long : length old.seen ≤ length new.seen
    long = let all = ap length went.more ∙ length-append old.seen went.rest in omega (arith, all)

-- and of each worker that has one
pub cause-kept : (most : ℕ) (old new : DeskView) (fault : Option NodeFault) → HasGoneOn most old new → IfSome fault (HasFaultCause old)
    → IfSome fault (HasFaultCause new)
cause-kept most old new None went cause = tt
cause-kept most old new (Some why) went cause = cause-gone most old new why went cause

-- no row is damaged where a turn of work fails
damage-none : (desk : DeskView) (why : NodeFault) → (old new : DeskView) → IsSliceFault old new why
    → IsDamageAt desk.case desk.told (length desk.seen) (refusal_of why)
damage-none desk faults.HistoryFull old new is = tt
damage-none desk faults.KeeperFault old new is = tt
damage-none desk (faults.RowDamaged name bytes) old new is = absurd is.no_row
damage-none desk faults.NoMemory old new is = tt

-- a turn of work fails for its cause
pub cause-slice : (old new : DeskView) (why : NodeFault) → IsSliceFault old new why → HasFaultCause new why
cause-slice old new why fault = record {
  keeper = λ is. rose-some old.faults new.faults (fault.keeper is);
  full = λ is. let full = fault.full is in omega (arith, full);
  count = length new.seen;
  seen = omega arith;
  damaged = damage-none new why old new fault;
}

-- ---- a look

-- who looked has appended nothing
pub own-looked : (old new : DeskView) → HasLooked old new → new.own ≡ old.own
own-looked old new looked = looked.own ∙ sym (own-stays old.own new.seen)

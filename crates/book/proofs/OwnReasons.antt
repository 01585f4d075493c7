-- Why a book refused, in words of a desk that has it to itself, and what a report leaves there.
use Rattle.std.proofs.Common.{◌≡◌, ◌≤◌, ℕ, List, [], length, refl, sym, ◌∙◌, ap, subst, arith, true≢false}
use Rattle.std.specs.Prelude.{◌↔◌, Result, Err, IsErrOf, ◌==◌, true, false, Bool}
use Rattle.std.proofs.lemmas.Bool.{eqb-true, eq-eqb}
use Rattle.std.proofs.lemmas.List.{append-nil}
use Rattle.mw_types.specs.Causes.{HasCause}
use Rattle.run_history.specs.Cases.{CaseShape}
use Rattle.run_history.specs.Fences.{IsCurrent, IsOvertakenBy, last_claim}
use Rattle.list_lemmas.proofs.Lists.{some_same}
use Rattle.watermark.specs.Marks.{mark_of}
use Rattle.book.specs.Answers.{HasStayed, IsFullWhere, IsSameBook, IsStaleReport, IsStaleWhere}
use Rattle.book.specs.Books.{BookView, LeaseView, core_of}
use Rattle.book.specs.Claims.{IsDamaged, IsDamagedRow}
use Rattle.book.specs.DeskReasons.{HasClaimReason, HasReason, IsDamageOf, IsNoDamage, of_claim, of_write}
use Rattle.book.specs.Desking.{IsReported}
use Rattle.book.specs.Desks.{HasLooked}
use Rattle.book.specs.Lawful.{IsLawful}
use Rattle.book.specs.Marks.{reported, with_mark}
use Rattle.book.specs.OwnDesks.{own_view}
use Rattle.book.specs.declared.answers.Claimed.{Claimed}
use Rattle.book.specs.declared.desk_refusal.DeskRefusal.TheVariants as refusals
use Rattle.book.specs.declared.refusals.ClaimRefusal.{ClaimRefusal}
use Rattle.book.specs.declared.refusals.ClaimRefusal.TheVariants as claims
use Rattle.book.specs.declared.refusals.Stale.{Stale}
use Rattle.book.specs.declared.refusals.WriteRefusal.{WriteRefusal}
use Rattle.book.specs.declared.refusals.WriteRefusal.TheVariants as writes
use Rattle.book.proofs.ClaimLaws.{err-is, is-err}
use Rattle.book.proofs.DeskLaws.{IsDamagedRow-telling}
use Rattle.book.proofs.MarkSteps.{mark-here, mark-other}
use Rattle.book.proofs.OwnLaws.{moved}

-- ---- a refused write

-- it is stale to the desk exactly where it was to the book
of_write-Stale : (why : WriteRefusal) (newer : ℕ) → (of_write why ≡ refusals.Stale newer) ↔ (why ≡ writes.Stale newer)
of_write-Stale (writes.Stale n) newer = (λ e. cc, λ e. cc)
of_write-Stale writes.HistoryFull newer = (λ e. absurd cc, λ e. absurd cc)
of_write-Stale writes.NoMemory newer = (λ e. absurd cc, λ e. absurd cc)
of_write-Stale writes.KeeperFault newer = (λ e. absurd cc, λ e. absurd cc)

-- it is full to the desk exactly where it was to the book
of_write-Full : (why : WriteRefusal) → (of_write why ≡ refusals.HistoryFull) ↔ (why ≡ writes.HistoryFull)
of_write-Full (writes.Stale n) = (λ e. absurd cc, λ e. absurd cc)
of_write-Full writes.HistoryFull = (λ e. refl, λ e. refl)
of_write-Full writes.NoMemory = (λ e. absurd cc, λ e. absurd cc)
of_write-Full writes.KeeperFault = (λ e. absurd cc, λ e. absurd cc)

-- the keeper's fault is that of the book
of_write-Fault : (why : WriteRefusal) → of_write why ≡ refusals.KeeperFault → why ≡ writes.KeeperFault
of_write-Fault (writes.Stale n) e = absurd cc
of_write-Fault writes.HistoryFull e = absurd cc
of_write-Fault writes.NoMemory e = absurd cc
of_write-Fault writes.KeeperFault e = refl

-- no turn was taken
of_write-Busy : (why : WriteRefusal) (found : ℕ) → of_write why ≡ refusals.Busy found → ⊥
of_write-Busy (writes.Stale n) found e = cc
of_write-Busy writes.HistoryFull found e = cc
of_write-Busy writes.NoMemory found e = cc
of_write-Busy writes.KeeperFault found e = cc

-- no row is damaged
of_write-Damage : (why : WriteRefusal) → IsNoDamage (of_write why)
of_write-Damage (writes.Stale n) = tt
of_write-Damage writes.HistoryFull = tt
of_write-Damage writes.NoMemory = tt
of_write-Damage writes.KeeperFault = tt

-- a write that was refused
abbrev refused : {T : Type 0} → WriteRefusal → Result T WriteRefusal
refused why = Err why

-- why a write was refused
pub reason : {T : Type 0} (old new : BookView) (lease : LeaseView) (why : WriteRefusal) → HasStayed old new → IsSameBook old new
    → HasCause {T = T} old.faults new.faults (refused why) writes.KeeperFault → IsStaleWhere {T = T} old.history lease (refused why)
    → IsFullWhere {T = T} old.limit old.history lease (refused why)
    → HasReason (own_view old) (own_view new) lease (of_write why)
reason old new lease why stayed same cause stale full = record {
  stale = λ _ newer. (
    λ e. subst (IsOvertakenBy newer lease.interval lease.seq) (sym h) ((stale newer).0 (is-err why _ ((of_write-Stale why newer).0 e))),
    λ p. (of_write-Stale why newer).1 (err-is why _ ((stale newer).1 (subst (IsOvertakenBy newer lease.interval lease.seq) h p))),
  );
  full = λ _. (
    λ e. let p = full.0 (is-err why _ ((of_write-Full why).0 e)) in
        (ap length h ∙ p.0 ∙ sym same.limit, subst (IsCurrent lease.interval lease.seq) (sym h) p.1),
    λ p. (of_write-Full why).1 (err-is why _ (full.1
        (sym (ap length h) ∙ p.0 ∙ same.limit, subst (IsCurrent lease.interval lease.seq) h p.1))),
  );
  counts = record {
    keeper = λ e. cause.rose (is-err why _ (of_write-Fault why e));
    busy = λ found e. absurd (of_write-Busy why found e);
  };
  no_row = of_write-Damage why;
}
  where
    h : new.history ≡ old.history
    h = stayed.history

-- ---- a refused claim

-- it is full to the desk exactly where it was to the book
of_claim-Full : (why : ClaimRefusal) → (of_claim why ≡ refusals.HistoryFull) ↔ (why ≡ claims.HistoryFull)
of_claim-Full claims.HistoryFull = (λ e. refl, λ e. refl)
of_claim-Full claims.KeeperFault = (λ e. absurd cc, λ e. absurd cc)
of_claim-Full (claims.RowDamaged name bytes) = (λ e. absurd cc, λ e. absurd cc)
of_claim-Full claims.NoMemory = (λ e. absurd cc, λ e. absurd cc)

-- the keeper's fault is that of the book
of_claim-Fault : (why : ClaimRefusal) → of_claim why ≡ refusals.KeeperFault → why ≡ claims.KeeperFault
of_claim-Fault claims.HistoryFull e = absurd cc
of_claim-Fault claims.KeeperFault e = refl
of_claim-Fault (claims.RowDamaged name bytes) e = absurd cc
of_claim-Fault claims.NoMemory e = absurd cc

-- no turn was taken
of_claim-Busy : (why : ClaimRefusal) (found : ℕ) → of_claim why ≡ refusals.Busy found → ⊥
of_claim-Busy claims.HistoryFull found e = cc
of_claim-Busy claims.KeeperFault found e = cc
of_claim-Busy (claims.RowDamaged name bytes) found e = cc
of_claim-Busy claims.NoMemory found e = cc

-- a claim is never stale
of_claim-Stale : (why : ClaimRefusal) (newer : ℕ) → of_claim why ≡ refusals.Stale newer → ⊥
of_claim-Stale claims.HistoryFull newer e = cc
of_claim-Stale claims.KeeperFault newer e = cc
of_claim-Stale (claims.RowDamaged name bytes) newer e = cc
of_claim-Stale claims.NoMemory newer e = cc

-- where a row is said to be damaged, it is
of_claim-Damage : (old new : BookView) (why : ClaimRefusal) → HasStayed old new → IsSameBook old new
    → IsDamaged old.case old.rows (length old.history) why → IsDamageOf (own_view new) (of_claim why)
of_claim-Damage old new claims.HistoryFull stayed same damaged = tt
of_claim-Damage old new claims.KeeperFault stayed same damaged = tt
of_claim-Damage old new (claims.RowDamaged name bytes) stayed same damaged =
    IsDamagedRow-telling new.case new.rows (length new.history) name bytes
    (subst (λ (n : ℕ). IsDamagedRow new.case new.rows n name bytes) (sym (ap length stayed.history))
    (subst (λ (c : CaseShape). IsDamagedRow c new.rows (length old.history) name bytes) (sym same.case)
    (subst (λ told. IsDamagedRow old.case told (length old.history) name bytes) (sym stayed.rows) damaged)))
of_claim-Damage old new claims.NoMemory stayed same damaged = tt

-- a claim that was refused
abbrev not_claimed : ClaimRefusal → Result Claimed ClaimRefusal
not_claimed why = Err why

-- why a claim was refused
pub claim-reason : (old new : BookView) (why : ClaimRefusal) → HasStayed old new → IsSameBook old new
    → HasCause old.faults new.faults (not_claimed why) claims.KeeperFault
    → IsErrOf (not_claimed why) claims.HistoryFull ↔ (length old.history ≡ old.limit)
    → IsDamaged old.case old.rows (length old.history) why
    → HasClaimReason (own_view old) (own_view new) (of_claim why)
claim-reason old new why stayed same cause full damaged = record {
  full = λ _. (
    λ e. ap length stayed.history ∙ full.0 (is-err why _ ((of_claim-Full why).0 e)) ∙ sym same.limit,
    λ p. (of_claim-Full why).1 (err-is why _ (full.1 (sym (ap length stayed.history) ∙ p ∙ same.limit))),
  );
  never_stale = of_claim-Stale why;
  counts = record {
    keeper = λ e. cause.rose (is-err why _ (of_claim-Fault why e));
    busy = λ found e. absurd (of_claim-Busy why found e);
  };
  damaged = of_claim-Damage old new why stayed same damaged;
}

-- ---- a report

-- a report that is refused is stale
abbrev not_reported : Stale → Result ℕ Stale
not_reported why = Err why

-- a stale refusal names one number
stale-number : (m n : ℕ) → refusals.Stale m ≡ refusals.Stale n → m ≡ n
stale-number m n e = cc

-- why a report was refused
pub report-reason : (old new : BookView) (lease : LeaseView) (why : Stale) → new ≡ old
    → IsStaleReport old.history lease (not_reported why)
    → HasReason (own_view old) (own_view new) lease (refusals.Stale why.newer)
report-reason old new lease why same stale = record {
  stale = λ _ newer. (
    λ e. subst (λ n. IsOvertakenBy n lease.interval lease.seq new.history) (stale-number why.newer newer e)
        (subst (IsOvertakenBy why.newer lease.interval lease.seq) (sym h) later),
    λ p. ap refusals.Stale (some_same why.newer newer (sym later.0 ∙ sym (ap (last_claim lease.interval) h) ∙ p.0)),
  );
  full = λ _. (
    λ e. absurd cc,
    λ p. let e : lease.seq ≡ why.newer = some_same lease.seq why.newer (sym p.1 ∙ ap (last_claim lease.interval) h ∙ later.0) in
        let after = later.1 in absurd (omega (arith, e, after)),
  );
  counts = record { keeper = λ e. absurd cc; busy = λ found e. absurd cc };
  no_row = tt;
}
  where
    h : new.history ≡ old.history
    h = ap (λ (b : BookView). b.history) same

    later : IsOvertakenBy why.newer lease.interval lease.seq old.history
    later = (stale why.newer).0 refl

-- a book of which no more than the marks is new
pub marked : (old new : BookView) (marks : List ℕ) → new ≡ record old { marks = marks } → HasLooked (own_view old) (own_view new)
marked old new marks same =
    subst (λ (b : BookView). HasLooked (own_view old) (own_view b)) (sym same)
    (moved old (record old { marks = marks }) old.history [] refl refl refl (omega arith) refl (sym (append-nil old.history)))

-- the mark that a report answers is its interval's
pub report-answer : (old new : BookView) (lease : LeaseView) (mark : ℕ) → IsLawful old.case (core_of old)
    → IsCurrent lease.interval lease.seq old.history
    → new ≡ record old { marks = with_mark lease.interval mark old.marks } → mark ≡ mark_of (own_view new).marks lease.interval
report-answer old new lease mark lawful last same =
    let there = lawful.claims lease.interval lease.seq last in
    let marks = lawful.marks in
    sym (ap (λ (b : BookView). mark_of b.marks lease.interval) same
    ∙ mark-here old.marks lease.interval mark (omega (arith, there, marks)))

-- no mark falls by a report
pub report-rise : (old new : BookView) (lease : LeaseView) (own mark : ℕ) → IsLawful old.case (core_of old)
    → IsCurrent lease.interval lease.seq old.history
    → mark ≡ reported old.case.topology lease.interval own old.marks
    → new ≡ record old { marks = with_mark lease.interval mark old.marks }
    → (interval : ℕ) → mark_of old.marks interval ≤ mark_of new.marks interval
report-rise old new lease own mark lawful last answer same interval =
    subst (λ (b : BookView). mark_of old.marks interval ≤ mark_of b.marks interval) (sym same)
    (by_test (interval == lease.interval) refl)
  where
    raised : List ℕ
    raised = with_mark lease.interval mark old.marks

    by_test : (b : Bool) → (interval == lease.interval) ≡ b → mark_of old.marks interval ≤ mark_of raised interval
    by_test true one =
        let is : interval ≡ lease.interval = eqb-true interval lease.interval one in
        let there = lawful.claims lease.interval lease.seq last in
        let marks = lawful.marks in
        let here = mark-here old.marks lease.interval mark (omega (arith, there, marks)) in
        let old_is = ap (mark_of old.marks) is in
        let new_is = ap (mark_of raised) is in omega (arith, here, old_is, new_is, answer)
    by_test false apart =
        let other = mark-other old.marks lease.interval interval mark
        (λ e. absurd (true≢false (sym (eq-eqb interval lease.interval e) ∙ apart))) in omega (arith, other)

-- a report that was accepted
pub is-reported : (old new : BookView) (lease : LeaseView) (own mark : ℕ) → IsCurrent lease.interval lease.seq old.history
    → mark ≡ reported old.case.topology lease.interval own old.marks
    → new ≡ record old { marks = with_mark lease.interval mark old.marks }
    → IsReported (own_view old) (own_view new) lease own mark
is-reported old new lease own mark last answer same = record {
  answer = answer;
  raised = ap (λ (b : BookView). b.marks) same;
  last = last;
}

-- What the calls of a desk leave, by what they did in a turn.
use Rattle.std.proofs.Common.{inl, ◌≡◌, ◌≢◌, ◌∙◌, ◌≤◌, ◌++◌, ◌∷◌, ℕ, true, List, [], length, drop, take, refl, sym, ap, subst, arith}
use Rattle.std.specs.Prelude.{◌↔◌, Err, IfErr, IfOk, IsErrOf, None, Ok, Result}
use Rattle.std.proofs.lemmas.List.{append-nil}
use Rattle.mw_types.specs.Causes.{HasCause, Rose}
use Rattle.mw_types.specs.declared.entry.Entry.{Entry}
use Rattle.mw_types.specs.declared.entry.Entry.TheVariants.{Claim, Ack, Purge}
use Rattle.mw_types.specs.declared.identity.RowName.{RowName}
use Rattle.row_keeper.specs.Rows.{Rows}
use Rattle.row_parts.specs.Contents.{Contents}
use Rattle.run_history.specs.Cases.{intervals_of}
use Rattle.run_history.specs.Fences.{Begins}
use Rattle.run_history.specs.Legal.{floor_of}
use Rattle.run_history.specs.Runs.{run_of, written_row}
use Rattle.history_laws.proofs.FloorLaws.{floor_of-rises}
use Rattle.watermark.specs.Marks.{mark_of}
use Rattle.book.specs.Answers.{HasStayed, IsFullWhere, IsSameBook, IsStaleWhere, IsWritten}
use Rattle.book.specs.Books.{BookView, LeaseView}
use Rattle.book.specs.Claims.{AreRowsOf, IsDamaged, IsDamagedRow}
use Rattle.book.specs.Conditions.{IsRowOf}
use Rattle.book.specs.DeskReasons.{HasClaimReason, HasReason, IsDamageOf, of_claim, of_write}
use Rattle.book.specs.Desking.{HasClaimed, HasStored, HasWritten}
use Rattle.book.specs.Desks.{HasLooked, HasMoved, KeepsMarks, numbers_from}
use Rattle.book.specs.Proposals.{IsWrittenBy}
use Rattle.book.specs.Writings.{HasPut}
use Rattle.book.specs.declared.answers.Claimed.{Claimed}
use Rattle.book.specs.declared.answers.Written.{Written}
use Rattle.book.specs.declared.desk_refusal.DeskRefusal.TheVariants as refusals
use Rattle.book.specs.declared.proposal.Proposal.{Proposal}
use Rattle.book.specs.declared.refusals.ClaimRefusal.{ClaimRefusal}
use Rattle.book.specs.declared.refusals.ClaimRefusal.TheVariants as claims
use Rattle.book.specs.declared.refusals.WriteRefusal.{WriteRefusal}
use Rattle.book.specs.declared.refusals.WriteRefusal.TheVariants as writes
use Rattle.book.specs.declared.writing.Writing.{Writing}
use Rattle.book.specs.declared.writing.Writing.TheVariants as writings
use Rattle.book.proofs.Numbers.{numbers_from-one, own-stays}
use Rattle.book.proofs.OwnReasons.{claim-reason, reason}
use Rattle.book.proofs.OwnLaws.{none-carried}
use Rattle.shared_book.specs.declared.views.Basis.{Basis}
use Rattle.shared_book.specs.declared.views.View.{View}
use Rattle.shared_book.specs.MarkSteps.{released}
use Rattle.shared_book.specs.SharedDesks.{is_held, shared_view}
use Rattle.shared_book.specs.Steps.{SeatView, grown, lease_in, missing}
use Rattle.shared_book.specs.Turns.{HasClaimedIn, HasFaulted, HasPutIn, HasStoredIn, HasTaken, HasWrittenIn}
use Rattle.shared_book.proofs.Held.{held-in, held-more, in-held}
use Rattle.shared_book.proofs.Lists.{drop_front, in_right}
use Rattle.shared_book.proofs.Moves.{off}
use Rattle.shared_book.proofs.Taking.{basis-taken, leases-taken}

-- ---- another has the turn

-- a desk that noted what it found has seen no more
looked-busy : (v : View) (found : ℕ) → HasLooked (shared_view v) (shared_view (missing v found))
looked-busy v found = record {
  case = refl;
  limit = refl;
  told = refl;
  alone = refl;
  others = [];
  more = sym (append-nil v.front);
  foreign = λ lease may. none-carried lease.seq;
  none = λ alone. refl;
  own = own-stays v.own v.front;
  leases = λ lease may. may;
  floor = omega arith;
  faults = omega arith;
}

-- the number that a refusal names
busy-number : (m n : ℕ) → refusals.Busy m ≡ refusals.Busy n → m ≡ n
busy-number m n e = cc

-- what was found is what is answered
reason-busy : (v : View) (lease : LeaseView) (found : ℕ)
    → HasReason (shared_view v) (shared_view (missing v found)) lease (refusals.Busy found)
reason-busy v lease found = record {
  stale = λ decided. absurd decided;
  full = λ decided. absurd decided;
  counts = record {
    keeper = λ e. absurd cc;
    busy = λ n e. ap (λ k. v.missed ++ k ∷ []) (busy-number found n e);
  };
  no_row = tt;
}

-- and so of a claim
claim-reason-busy : (v : View) (found : ℕ)
    → HasClaimReason (shared_view v) (shared_view (missing v found)) (refusals.Busy found)
claim-reason-busy v found = record {
  full = λ decided. absurd decided;
  never_stale = λ newer e. cc;
  counts = record {
    keeper = λ e. absurd cc;
    busy = λ n e. ap (λ k. v.missed ++ k ∷ []) (busy-number found n e);
  };
  damaged = tt;
}

-- the same, of the seat
module _ (old new : SeatView) (found : ℕ) (is : new ≡ (missing old.0 found, old.1)) where
  pub busy-looked : HasLooked (shared_view old.0) (shared_view new.0)
  busy-looked = subst (λ (m : SeatView). HasLooked (shared_view old.0) (shared_view m.0)) (sym is)
      (looked-busy old.0 found)

  pub busy-reason : (lease : LeaseView) → HasReason (shared_view old.0) (shared_view new.0) lease (refusals.Busy found)
  busy-reason lease = subst (λ (m : SeatView). HasReason (shared_view old.0) (shared_view m.0) lease (refusals.Busy found)) (sym is)
      (reason-busy old.0 lease found)

  pub busy-claim_reason : HasClaimReason (shared_view old.0) (shared_view new.0) (refusals.Busy found)
  busy-claim_reason = subst (λ (m : SeatView). HasClaimReason (shared_view old.0) (shared_view m.0) (refusals.Busy found)) (sym is)
      (claim-reason-busy old.0 found)

-- ---- no mark falls

pub marks-same : (v w : View) → w.basis ≡ v.basis → w.marks ≡ v.marks → KeepsMarks (shared_view v) (shared_view w)
marks-same v w basis marks = record {
  rise = λ interval.
      let same = ap (λ (l : List ℕ). mark_of l interval) (λ i. take (length (intervals_of (basis i).case.topology)) (marks i)) in
      omega (arith, same);
  same = λ alone. absurd (off alone);
}

-- another had the turn
pub marks-busy : (old new : SeatView) (found : ℕ) → new ≡ (missing old.0 found, old.1) → KeepsMarks (shared_view old.0) (shared_view new.0)
marks-busy old new found is = marks-same old.0 new.0 (ap (λ (m : SeatView). m.0.basis) is) (ap (λ (m : SeatView). m.0.marks) is)

-- ---- what a call in the turn left

-- the view of a seat whose call was refused: its keeper may have failed once more
pub record IsRefused (t w : View) : Type 0 where
  pub basis : w.basis ≡ t.basis
  pub front : w.front ≡ t.front
  pub leases : w.leases ≡ t.leases
  pub own : w.own ≡ t.own
  pub marks : w.marks ≡ t.marks
  pub faults : t.faults ≤ w.faults

-- nothing was changed
pub refused-same : (t w : View) → w ≡ t → IsRefused t w
refused-same t w is = record {
  basis = ap (λ (x : View). x.basis) is;
  front = ap (λ (x : View). x.front) is;
  leases = ap (λ (x : View). x.leases) is;
  own = ap (λ (x : View). x.own) is;
  marks = ap (λ (x : View). x.marks) is;
  faults = let same = ap (λ (x : View). x.faults) is in omega (arith, same);
}

-- a fault was noted
refused-fault : (t w : View) → HasFaulted t w → IsRefused t w
refused-fault t w fault = record {
  basis = ap (λ (x : View). x.basis) fault.2;
  front = ap (λ (x : View). x.front) fault.2;
  leases = ap (λ (x : View). x.leases) fault.2;
  own = ap (λ (x : View). x.own) fault.2;
  marks = ap (λ (x : View). x.marks) fault.2;
  faults = let one = ap (λ (x : View). x.faults) fault.2 in omega (arith, one);
}

-- a fault that was noted shows in the count
fault-rose : (t w : View) → HasFaulted t w → Rose t.faults w.faults
fault-rose t w fault = let one = ap (λ (x : View). x.faults) fault.2 in omega (arith, one)

-- a write that was refused
pub refused-write : (t w : View) (r : Result ℕ WriteRefusal) (why : WriteRefusal) → r ≡ Err why
    → (IsErrOf r writes.KeeperFault → HasFaulted t w) → IfErr r (λ why. (why ≢ writes.KeeperFault) → w ≡ t) → IsRefused t w
refused-write t w r why is faulted stayed = by_why why
    (subst (λ (x : Result ℕ WriteRefusal). IsErrOf x writes.KeeperFault → HasFaulted t w) is faulted)
    (subst (λ (x : Result ℕ WriteRefusal). IfErr x (λ why. (why ≢ writes.KeeperFault) → w ≡ t)) is stayed)
  where
    by_why : (why : WriteRefusal) → (IsErrOf {T = ℕ} (Err why) writes.KeeperFault → HasFaulted t w)
        → ((why ≢ writes.KeeperFault) → w ≡ t) → IsRefused t w
    by_why writes.KeeperFault fault same = refused-fault t w (fault refl)
    by_why (writes.Stale newer) fault same = refused-same t w (same (λ e. cc))
    by_why writes.HistoryFull fault same = refused-same t w (same (λ e. cc))
    by_why writes.NoMemory fault same = refused-same t w (same (λ e. cc))

-- what is said of a write that was accepted
pub accepted : (P : ℕ → Type 0) (r : Result ℕ WriteRefusal) (commit : ℕ) → r ≡ Ok commit → IfOk r P → P commit
accepted P r commit is = subst (λ (x : Result ℕ WriteRefusal). IfOk x P) is

-- and a claim
pub refused-claim : (t w : View) (why : ClaimRefusal)
    → (IsErrOf {T = Claimed} (Err why) claims.KeeperFault → HasFaulted t w) → ((why ≢ claims.KeeperFault) → w ≡ t) → IsRefused t w
refused-claim t w claims.KeeperFault fault same = refused-fault t w (fault refl)
refused-claim t w (claims.RowDamaged name bytes) fault same = refused-same t w (same (λ e. cc))
refused-claim t w claims.HistoryFull fault same = refused-same t w (same (λ e. cc))
refused-claim t w claims.NoMemory fault same = refused-same t w (same (λ e. cc))

-- what was seen begins what is seen after a call
pub begins-refused : (t w : View) → IsRefused t w → Begins t.front w.front
begins-refused t w refused = ([], append-nil t.front ∙ sym refused.front)

-- so much of a view as tells why a call was refused
abbrev book_of : View → BookView
book_of u = record {
  case = u.basis.case;
  history = u.front;
  limit = u.basis.limit;
  rows = None;
  faults = u.faults;
  work = 0;
  unacknowledged = [];
  marks = [];
}

-- ---- what the whole call left

-- a view before the turn, in it and after the call
module _ (v t w : View) (taken : HasTaken v t) (basis : w.basis ≡ t.basis) where
  -- no constant changed
  whole : w.basis ≡ v.basis
  whole = basis ∙ basis-taken v t taken

  -- the desk has seen so much before its own entry
  moved : (before : List Entry) → before ≡ t.front → Begins t.front w.front
      → ((lease : LeaseView) → is_held t.leases lease ≡ true → is_held w.leases lease ≡ true) → t.faults ≤ w.faults
      → w.own ≡ t.own ++ numbers_from (length before) (drop (length before) w.front)
      → HasMoved (shared_view v) (shared_view (released w)) before
  moved before is begins leases faults own = record {
    case = ap (λ (b : Basis). b.case) whole;
    limit = ap (λ (b : Basis). b.limit) whole;
    told = ap (λ (b : Basis). b.told) whole;
    alone = refl;
    others = taken.others;
    more = is ∙ sym taken.goes_on;
    foreign = λ lease may. (taken.seen_all lease (held-in v.leases lease may)).own;
    none = λ alone. absurd (off alone);
    own = own ∙ ap (λ (x : View). x.own ++ numbers_from (length before) (drop (length before) w.front)) taken.view;
    leases = λ lease may. leases lease (subst (λ (l : List LeaseView). is_held l lease ≡ true) (sym (leases-taken v t taken)) may);
    floor = let below = taken.floor in
        let rises = floor_of-rises v.basis.case.topology t.front begins.0 in
        let here : floor_of (run_of v.basis.case.topology (t.front ++ begins.0)) ≡ floor_of (run_of w.basis.case.topology w.front) =
        λ i. floor_of (run_of (sym whole i).case.topology (begins.1 i)) in omega (arith, below, rises, here);
    faults = let same = ap (λ (x : View). x.faults) taken.view in omega (arith, same, faults);
  }

  -- a call that was refused appended nothing
  pub looked-refused : IsRefused t w → HasLooked (shared_view v) (shared_view (released w))
  looked-refused refused = moved w.front refused.front (begins-refused t w refused)
      (λ lease held. subst (λ (l : List LeaseView). is_held l lease ≡ true) (sym refused.leases) held) refused.faults
      (refused.own ∙ own-stays t.own w.front)

  -- and loaded no mark
  pub marks-refused : IsRefused t w → KeepsMarks (shared_view v) (shared_view (released w))
  marks-refused refused = marks-same v (released w) whole (refused.marks ∙ ap (λ (x : View). x.marks) taken.view)

  -- nor did one that was accepted
  pub marks-grown : w ≡ grown t w.front → KeepsMarks (shared_view v) (shared_view (released w))
  marks-grown is = marks-same v (released w) whole (ap (λ (x : View). x.marks) is ∙ ap (λ (x : View). x.marks) taken.view)

  -- the view after an own entry
  grown-leases : w ≡ grown t w.front → (lease : LeaseView) → is_held t.leases lease ≡ true → is_held w.leases lease ≡ true
  grown-leases is lease held = subst (λ (l : List LeaseView). is_held l lease ≡ true) (sym (ap (λ (x : View). x.leases) is))
      (held-more t.leases (lease_in (drop (length t.front) w.front) (length t.front)) lease held)

  grown-faults : w ≡ grown t w.front → t.faults ≤ w.faults
  grown-faults is = let same = ap (λ (x : View). x.faults) is in omega (arith, same)

  grown-own : (entry : Entry) → w.front ≡ t.front ++ entry ∷ [] → w ≡ grown t w.front
      → w.own ≡ t.own ++ numbers_from (length t.front) (drop (length t.front) w.front)
  grown-own entry appended is = ap (λ (x : View). x.own) is
      ∙ ap (λ l. t.own ++ l) (sym (numbers_from-one t.front w.front entry appended))

  -- an entry was stored
  stored : (lease : LeaseView) (name : RowName) (entry : Entry) (row : Contents) (answer : Written)
      → HasStoredIn t w lease name entry row answer
      → HasStored (shared_view v) (shared_view (released w)) lease name entry row (λ commit. written_row commit entry [] row) answer
  stored lease name entry row answer is = record {
    before = t.front;
    moved = moved t.front refl (entry ∷ [], sym is.written.appended) (grown-leases is.view) (grown-faults is.view)
        (grown-own entry is.written.appended is.view);
    found = subst (λ (b : Basis). IsRowOf b.case b.told t.front name row) (basis-taken v t taken) is.found;
    written = subst (λ (b : Basis). IsWritten b.case b.told t.front w.front lease name entry (written_row (length t.front) entry [] row) answer)
        (basis-taken v t taken) is.written;
  }

  -- a proposal was written
  written-by : (lease : LeaseView) (name : RowName) (proposal : Proposal) (row : Contents) (answer : Written)
      → HasWrittenIn t w lease name proposal row answer
      → HasWritten (shared_view v) (shared_view (released w)) lease name proposal row answer
  written-by lease name proposal row answer is = record {
    before = t.front;
    moved = moved t.front refl (is.written.entry ∷ [], sym is.written.written.appended) (grown-leases is.view) (grown-faults is.view)
        (grown-own is.written.entry is.written.written.appended is.view);
    found = subst (λ (b : Basis). IsRowOf b.case b.told t.front name row) (basis-taken v t taken) is.found;
    written = subst (λ (b : Basis). IsWrittenBy b.case b.told t.front w.front lease name proposal row answer)
        (basis-taken v t taken) is.written;
  }

  -- whatever was put
  pub put-of : (lease : LeaseView) (name : RowName) (writing : Writing) (row : Contents) (answer : Written)
      → HasPutIn t w lease name writing row answer
      → HasPut (shared_view v) (shared_view (released w)) lease name writing row answer
  put-of lease name (writings.Propose proposal) row answer is = written-by lease name proposal.now row answer is
  put-of lease name (writings.Settle id) row answer is = stored lease name (Ack lease.seq name id) row answer is
  put-of lease name (writings.Purge floor) row answer is = stored lease name (Purge lease.seq name floor) row answer is

  -- an interval was claimed
  pub claimed : (worker interval : ℕ) (answer : Claimed) → HasClaimedIn t w worker interval answer
      → HasClaimed (shared_view v) (shared_view (released w)) worker interval answer
  claimed worker interval answer is = record {
    before = t.front;
    moved = moved t.front refl (Claim worker interval ∷ [], sym appended) (grown-leases here) (grown-faults here)
        (grown-own (Claim worker interval) appended here);
    appended = appended;
    lease = is.lease;
    may_use = subst (λ (l : List LeaseView). is_held l answer.lease ≡ true) (sym leases)
        (subst (λ (l : LeaseView). is_held (t.leases ++ gives ∷ []) l ≡ true) (sym is.lease)
        (in-held (t.leases ++ gives ∷ []) gives (in_right gives t.leases (gives ∷ []) (inl refl))));
    rows = subst (λ (b : Basis). AreRowsOf b.case b.told t.front interval answer.rows) (basis-taken v t taken) is.rows;
  }
    where
      appended : w.front ≡ t.front ++ Claim worker interval ∷ []
      appended = ap (λ (x : View). x.front) is.view

      here : w ≡ grown t w.front
      here = is.view ∙ ap (grown t) (sym appended)

      gives : LeaseView
      gives = record { interval = interval; seq = length t.front }

      leases : w.leases ≡ t.leases ++ gives ∷ []
      leases = ap (λ (x : View). x.leases) is.view
          ∙ ap (λ l. t.leases ++ lease_in l (length t.front)) (drop_front t.front (Claim worker interval ∷ []))

  -- ---- why it was refused

  stayed : IsRefused t w → HasStayed (book_of t) (book_of w)
  stayed refused = record { history = refused.front; rows = refl }

  same_book : IsSameBook (book_of t) (book_of w)
  same_book = record {
    case = ap (λ (b : Basis). b.case) basis;
    limit = ap (λ (b : Basis). b.limit) basis;
    marks = refl;
    tells = refl;
  }

  -- a count that rose in the turn rose in the call
  rose : Rose t.faults w.faults → Rose v.faults w.faults
  rose up = let same = ap (λ (x : View). x.faults) taken.view in omega (arith, same, up)

  -- nothing is nothing and one more
  none-found : (found : ℕ) → [] ≡ found ∷ [] → ⊥
  none-found found e = let long : 0 ≡ 1 = ap length e in omega (arith, long)

  -- a write
  pub reason-write : (lease : LeaseView) (result : Result ℕ WriteRefusal) (why : WriteRefusal) → result ≡ Err why → IsRefused t w
      → (IsErrOf result writes.KeeperFault → HasFaulted t w)
      → IsStaleWhere t.front lease result → IsFullWhere t.basis.limit t.front lease result
      → HasReason (shared_view v) (shared_view (released w)) lease (of_write why)
  reason-write lease result why is refused faulted stale full =
      let fault = subst (λ (x : Result ℕ WriteRefusal). IsErrOf x writes.KeeperFault → HasFaulted t w) is faulted in
      let cause : HasCause {T = ℕ} t.faults w.faults (Err why) writes.KeeperFault =
      record { later = refused.faults; rose = λ e. fault-rose t w (fault e) } in
      let r = reason (book_of t) (book_of w) lease why (stayed refused) same_book cause
      (subst (λ (x : Result ℕ WriteRefusal). IsStaleWhere t.front lease x) is stale)
      (subst (λ (x : Result ℕ WriteRefusal). IsFullWhere t.basis.limit t.front lease x) is full) in record {
        stale = r.stale;
        full = r.full;
        counts = record {
          keeper = λ e. rose (r.counts.keeper e);
          busy = λ found e. absurd (none-found found (r.counts.busy found e));
        };
        no_row = r.no_row;
      }

  -- a row that is damaged is so for the desk
  damage : (why : ClaimRefusal) → IsRefused t w → IsDamaged t.basis.case t.basis.told (length t.front) why
      → IsDamageOf (shared_view (released w)) (of_claim why)
  damage claims.HistoryFull refused is = tt
  damage claims.KeeperFault refused is = tt
  damage claims.NoMemory refused is = tt
  damage (claims.RowDamaged name bytes) refused is =
      subst (λ (p : Basis × List Entry). IsDamagedRow p.0.case p.0.told (length p.1) name bytes)
      (λ i. (sym basis i, sym refused.front i)) is

  -- the same where it is not told
  untold : (why : ClaimRefusal) → IsDamaged t.basis.case t.basis.told (length t.front) why
      → IsDamaged {X = Rows} t.basis.case None (length t.front) why
  untold claims.HistoryFull is = tt
  untold claims.KeeperFault is = tt
  untold claims.NoMemory is = tt
  untold (claims.RowDamaged name bytes) is = record { no_row = is.no_row; untold = tt }

  -- a claim
  pub reason-claim : (why : ClaimRefusal) → IsRefused t w
      → (IsErrOf {T = Claimed} (Err why) claims.KeeperFault → HasFaulted t w)
      → IsErrOf {T = Claimed} (Err why) claims.HistoryFull ↔ (length t.front ≡ t.basis.limit)
      → IsDamaged t.basis.case t.basis.told (length t.front) why
      → HasClaimReason (shared_view v) (shared_view (released w)) (of_claim why)
  reason-claim why refused fault full damaged =
      let cause : HasCause {T = Claimed} t.faults w.faults (Err why) claims.KeeperFault =
      record { later = refused.faults; rose = λ e. fault-rose t w (fault e) } in
      let r = claim-reason (book_of t) (book_of w) why (stayed refused) same_book cause full (untold why damaged) in record {
        full = r.full;
        never_stale = r.never_stale;
        counts = record {
          keeper = λ e. rose (r.counts.keeper e);
          busy = λ found e. absurd (none-found found (r.counts.busy found e));
        };
        damaged = damage why refused damaged;
      }

-- the turn was given back
pub given : (P : View → Type 0) (w x : SeatView) → x ≡ (released w.0, []) → P (released w.0) → P x.0
given P w x is so = subst (λ (m : SeatView). P m.0) (sym is) so

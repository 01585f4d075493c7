-- What a call of a book in a turn leaves, for the seat that has the turn.
use Rattle.std.proofs.Common.{◌≡◌, ℕ, ◌≤◌, List, [], ◌∷◌, ◌++◌, length, Option, Some, None, refl, sym, ap, ◌∙◌, subst, arith}
use Rattle.std.specs.Prelude.{IfSome, Result, take}
use Rattle.std.proofs.lemmas.List.{take_all}
use Rattle.mw_types.specs.Causes.{Rose}
use Rattle.mw_types.specs.declared.entry.Entry.{Entry}
use Rattle.mw_types.specs.declared.entry.Entry.TheVariants.{Claim, Ack, Purge}
use Rattle.mw_types.specs.declared.identity.RecordId.{RecordId}
use Rattle.mw_types.specs.declared.identity.RowName.{RowName}
use Rattle.row_parts.specs.Contents.{Contents}
use Rattle.run_history.specs.Cases.{CaseShape}
use Rattle.run_history.specs.Runs.{run_of, written_row}
use Rattle.run_history.specs.Fences.{IsClaimed, sequencer_of, interval_of}
use Rattle.list_lemmas.proofs.Lists.{some_same, none_some}
use Rattle.book.specs.Books.{CoreView, BookView, LeaseView, core_of}
use Rattle.book.specs.Lawful.{IsLawful}
use Rattle.book.specs.Answers.{IsSameBook, IsStaleWhere, IsWritten}
use Rattle.book.specs.Claims.{AreRowsOf, IsDamaged, IsDamagedRow}
use Rattle.book.specs.Conditions.{IsRowOf, IsRowSeen, IsRowSeenAt, MayForget, MayForgetAt, MaySettle, MaySettleAt, MayUseAt}
use Rattle.book.specs.OwnDesks.{telling}
use Rattle.book.specs.Proposals.{IsProposable, IsProposedOf, IsEntryOf, IsWrittenBy}
use Rattle.book.specs.Writings.{IsPut, MayPutAt}
use Rattle.book.specs.declared.answers.Written.{Written}
use Rattle.book.specs.declared.answers.Claimed.{Claimed}
use Rattle.book.specs.declared.refusals.ClaimRefusal.{ClaimRefusal}
use Rattle.book.specs.declared.refusals.ClaimRefusal.TheVariants as claims
use Rattle.book.specs.declared.proposal.Proposal.{Proposal}
use Rattle.book.specs.declared.proposal.Proposal.TheVariants as proposals
use Rattle.book.specs.declared.refusals.WriteRefusal.{WriteRefusal}
use Rattle.book.specs.declared.writing.Writing.{Writing}
use Rattle.book.specs.declared.writing.Writing.TheVariants as writings
use Rattle.book.proofs.DeskLaws.{telling-if, if-telling, telling-same, IsWritten-telling, IsWrittenBy-telling, AreRowsOf-telling, IsDamagedRow-telling}
use Rattle.book.proofs.OwnLaws.{claimed-is_claimed, may-use, may-settle, row-seen}
use Rattle.shared_book.specs.declared.views.View.{View}
use Rattle.shared_book.specs.Lists.{IsIn}
use Rattle.shared_book.specs.FenceLaw.{IsCore, AreClaimed, sequencers}
use Rattle.shared_book.specs.Steps.{SeatView, IsOwnEntry, grown}
use Rattle.shared_book.specs.Turns.{HasClaimedIn, HasPutIn, HasStoredIn, HasWrittenIn, IsGrown, MayPutIn, MayWrite, IsRowHeld, IsProposedIn}
use Rattle.shared_book.proofs.Histories.{seq_of_lease}

-- a claim carries no sequencer
pub claim_own : (v : View) (worker interval : ℕ) → IsOwnEntry v (Claim worker interval)
claim_own v worker interval seq carries = absurd (none_some seq carries)

-- an entry that carries the sequencer of a lease of the seat may be appended by it
pub lease_own : (v : View) (lease : LeaseView) (entry : Entry) → IsIn lease v.leases → sequencer_of entry ≡ Some lease.seq
    → IsOwnEntry v entry
lease_own v lease entry held carries seq other =
    subst (λ (s : ℕ). IsIn s (sequencers v.leases)) (some_same lease.seq seq (sym carries ∙ other)) (seq_of_lease lease v.leases held)

-- the entry of a proposal carries the sequencer that it was made under
pub entry_carries : (case : CaseShape) (seq : ℕ) (name : RowName) (proposal : Proposal) (entry : Entry)
    → IsEntryOf case seq name proposal entry → sequencer_of entry ≡ Some seq
entry_carries case seq name (proposals.Inject line) entry is = ap sequencer_of is.1.1
entry_carries case seq name (proposals.Handle delivery effects) entry is = ap sequencer_of is
entry_carries case seq name (proposals.Fire timer mark effects) entry is = ap sequencer_of is

-- one entry was appended, which carries this sequencer
pub record HasAppended (before after : List Entry) (seq : ℕ) : Type 0 where
  pub entry : Entry
  pub appended : after ≡ before ++ entry ∷ []
  pub carries : sequencer_of entry ≡ Some seq

-- whatever was put appended one under its lease
pub put_entry : {X : Type 0} (case : CaseShape) (told : Option X) (before after : List Entry) (lease : LeaseView) (name : RowName)
    (writing : Writing) (row : Contents) (answer : Written) → IsPut case told before after lease name writing row answer
    → HasAppended before after lease.seq
put_entry case told before after lease name (writings.Propose proposal) row answer put = record {
  entry = put.entry;
  appended = put.written.appended;
  carries = entry_carries case lease.seq name proposal.now put.entry put.of_proposal;
}
put_entry case told before after lease name (writings.Settle id) row answer put =
    record { entry = Ack lease.seq name id; appended = put.appended; carries = refl }
put_entry case told before after lease name (writings.Purge floor) row answer put =
    record { entry = Purge lease.seq name floor; appended = put.appended; carries = refl }

-- a seat's view, the book that it took out, and what is known of the two
module _ (v : View) (a : CoreView) (old : BookView) (z : CaseShape) (core : IsCore v.basis v.front v.count a)
    (is : core_of old ≡ a) (of_case : old.case ≡ z) (here : v.basis.case ≡ z) where
  -- the book's history is what the seat has seen
  pub seen_history : old.history ≡ v.front
  seen_history = ap (λ (b : CoreView). b.history) is ∙ core.whole

  -- whether it tells is what the seat knows
  pub seen_told : telling old.rows ≡ v.basis.told
  seen_told = ap (λ (b : CoreView). telling b.rows) is ∙ core.told

  -- its case is the seat's
  pub seen_case : old.case ≡ v.basis.case
  seen_case = of_case ∙ sym here

  -- its limit is the seat's
  pub seen_limit : old.limit ≡ v.basis.limit
  seen_limit = ap (λ (b : CoreView). b.limit) is ∙ core.limit

  -- a lease of the seat may be used
  pub use_held : (lease : LeaseView) (front : ℕ) (name : RowName) → AreClaimed v.front v.leases → front ≡ length old.history
      → MayWrite v lease name → MayUseAt old lease front name
  use_held lease front name claimed whole may = may-use old lease front name whole (record {
    may_use = claimed-is_claimed old.history lease
        (subst (IsClaimed lease.interval lease.seq) (sym seen_history) (claimed lease may.held));
    covers = subst (λ (c : CaseShape). interval_of c.topology name ≡ Some lease.interval) (sym seen_case) may.covers;
  })

  -- the row was seen
  pub row_held : (lease : LeaseView) (front : ℕ) (name : RowName) (row : Contents) → front ≡ length old.history
      → IsRowHeld v lease name row → IsRowSeenAt old lease front name row
  row_held lease front name row whole held = row-seen old lease front name row whole
      (subst (λ (t : CaseShape × Option Unit × List Entry). IsRowSeen t.0 t.1 (length t.2) t.2 lease name row)
      (λ i. (sym seen_case i, sym seen_told i, sym seen_history i)) held)

  -- what is taken of a book that was wholly seen
  take_seen : (front : ℕ) → front ≡ length old.history → take front old.history ≡ v.front
  take_seen front whole = take_all front old.history (omega (arith, whole)) ∙ seen_history

  -- what is proposed was made in what was seen, or is due by it
  proposed_held : (front : ℕ) (name : RowName) (proposal : Proposal) → front ≡ length old.history
      → IsProposedIn v name proposal
      → IfSome old.rows (λ _. IsProposedOf old.case name proposal (run_of old.case.topology (take front old.history)))
  proposed_held front name proposal whole held = if-telling old.rows _
      (subst (λ (t : CaseShape × Option Unit × List Entry).
      IfSome t.1 (λ _. IsProposedOf t.0 name proposal (run_of t.0.topology t.2)))
      (λ i. (sym seen_case i, sym seen_told i, sym (take_seen front whole) i)) held)

  -- an id may be settled by what was seen
  settle_held : (front : ℕ) (row : Contents) (id : RecordId) → front ≡ length old.history
      → MaySettle v.basis.told v.front row id → MaySettleAt old front row id
  settle_held front row id whole may = may-settle old front row id whole
      (subst (λ (t : Option Unit × List Entry). MaySettle t.0 t.1 row id) (λ i. (sym seen_told i, sym seen_history i)) may)

  -- a row may forget ids by what was seen
  forget_held : (front : ℕ) (name : RowName) (row : Contents) (floor : ℕ) → front ≡ length old.history
      → MayForget v.basis.case v.basis.told v.front name row floor → MayForgetAt old front name row floor
  forget_held front name row floor whole may =
      let told = subst (λ (t : CaseShape × Option Unit × List Entry). MayForget t.0 t.1 t.2 name row floor)
      (λ i. (sym seen_case i, sym seen_told i, sym (take_seen front whole) i)) may in
      record {
        rises = told.rises;
        few = told.few;
        there = if-telling old.rows _ told.there;
        finished = if-telling old.rows _ told.finished;
      }

  -- what is to be written may be by what was seen
  pub may_held : (front : ℕ) (name : RowName) (row : Contents) (writing : Writing) → front ≡ length old.history
      → MayPutIn v name row writing → MayPutAt old front name row writing
  may_held front name row (writings.Propose proposal) whole may = (
    subst (λ (c : CaseShape). IsProposable c name row proposal.now) (sym seen_case) may.0,
    proposed_held front name proposal.now whole may.1,
  )
  may_held front name row (writings.Settle id) whole may = settle_held front row id whole may
  may_held front name row (writings.Purge floor) whole may = forget_held front name row floor whole may

  -- a write that is stale by the book's history is stale by what was seen
  pub stale_seen : {T : Type 0} (lease : LeaseView) (r t : Result T WriteRefusal) → r ≡ t → IsStaleWhere old.history lease r
      → IsStaleWhere v.front lease t
  stale_seen {T} lease r t is stale =
      subst (λ (p : Result T WriteRefusal × List Entry). IsStaleWhere p.1 lease p.0) (λ i. (is i, seen_history i)) stale

  -- what the book found is what was seen
  found_seen : (name : RowName) (row : Contents) → IsRowOf old.case old.rows old.history name row
      → IsRowOf v.basis.case v.basis.told v.front name row
  found_seen name row found =
      subst (λ (t : CaseShape × Option Unit × List Entry). IsRowOf t.0 t.1 t.2 name row)
      (λ i. (seen_case i, seen_told i, seen_history i)) (telling-if old.rows _ found)

  -- a row that is damaged by the book's history is so by what was seen
  pub damaged_seen : (why : ClaimRefusal) → IsDamaged old.case old.rows (length old.history) why
      → IsDamaged v.basis.case v.basis.told (length v.front) why
  damaged_seen claims.HistoryFull is = tt
  damaged_seen claims.KeeperFault is = tt
  damaged_seen claims.NoMemory is = tt
  damaged_seen (claims.RowDamaged name bytes) is =
      subst (λ (t : CaseShape × Option Unit × List Entry). IsDamagedRow t.0 t.1 (length t.2) name bytes)
      (λ i. (seen_case i, seen_told i, seen_history i)) (IsDamagedRow-telling old.case old.rows (length old.history) name bytes is)

  module _ (new : BookView) (c : CoreView) (w : CaseShape) (claimed : AreClaimed v.front v.leases) (same : IsSameBook old new)
      (later : old.faults ≤ new.faults) (parts : c ≡ core_of new) (is_case : w ≡ new.case) (lawful : IsLawful w c) where
    -- the book is lawful by the seat's case
    left_lawful : IsLawful v.basis.case c
    left_lawful = subst (λ (y : CaseShape). IsLawful y c) (is_case ∙ same.case ∙ seen_case) lawful

    -- whether it tells has stayed
    left_told : telling c.rows ≡ v.basis.told
    left_told = ap (λ (b : CoreView). telling b.rows) parts ∙ telling-same old.rows new.rows same.tells ∙ seen_told

    -- so has its limit
    left_limit : c.limit ≡ v.basis.limit
    left_limit = ap (λ (b : CoreView). b.limit) parts ∙ same.limit ∙ seen_limit

    -- its keeper's count has not fallen
    left_enough : v.count ≤ c.faults
    left_enough = omega (arith, core.enough, later, ap (λ (b : CoreView). b.faults) is, ap (λ (b : CoreView). b.faults) parts)

    -- a call appended an entry of the seat's own
    pub grown_by : (e : Entry) → new.history ≡ old.history ++ e ∷ [] → IsOwnEntry v e → IsGrown v c
    grown_by e appended own = record {
      next = (
        e,
        ap (λ (b : CoreView). b.history) parts ∙ appended ∙ ap (λ (h : List Entry). h ++ e ∷ []) seen_history,
        own,
      );
      lawful = left_lawful;
      limit = left_limit;
      told = left_told;
      enough = left_enough;
      claimed = claimed;
    }

    -- a call appended nothing
    pub kept_by : new.history ≡ old.history → IsCore v.basis v.front v.count c
    kept_by stayed = record {
      whole = ap (λ (b : CoreView). b.history) parts ∙ stayed ∙ seen_history;
      enough = left_enough;
      lawful = left_lawful;
      limit = left_limit;
      told = left_told;
    }

    -- the keeper failed in a call
    pub rose_by : Rose old.faults new.faults → Rose v.count c.faults
    rose_by rose = omega (arith, rose, core.enough, ap (λ (b : CoreView). b.faults) is, ap (λ (b : CoreView). b.faults) parts)

    -- the view of a seat that appended, by what it has seen then
    grown_view : (next : View) → next ≡ grown v c.history → next ≡ grown v next.front
    grown_view next e = e ∙ ap (grown v) (sym (ap (λ (x : View). x.front) e))

    -- what the seat has seen then is the book's history
    grown_front : (next : View) → next ≡ grown v c.history → new.history ≡ next.front
    grown_front next e = sym (ap (λ (x : View). x.front) e ∙ ap (λ (b : CoreView). b.history) parts)

    -- what was written of a proposal, as the seat knows it
    written_in : (next : View) (lease : LeaseView) (name : RowName) (proposal : Proposal) (row : Contents) (answer : Written)
        → next ≡ grown v c.history → IsRowOf old.case old.rows old.history name row
        → IsWrittenBy old.case old.rows old.history new.history lease name proposal row answer
        → HasWrittenIn v next lease name proposal row answer
    written_in next lease name proposal row answer e found by = record {
      view = grown_view next e;
      found = found_seen name row found;
      written = subst (λ (t : CaseShape × Option Unit × List Entry × List Entry).
          IsWrittenBy t.0 t.1 t.2 t.3 lease name proposal row answer)
          (λ i. (seen_case i, seen_told i, seen_history i, grown_front next e i))
          (IsWrittenBy-telling old.case old.rows old.history new.history lease name proposal row answer by);
    }

    -- what was written of an entry, as the seat knows it
    stored_in : (next : View) (lease : LeaseView) (name : RowName) (entry : Entry) (row : Contents) (answer : Written)
        → next ≡ grown v c.history → IsRowOf old.case old.rows old.history name row
        → IsWritten old.case old.rows old.history new.history lease name entry
        (written_row (length old.history) entry [] row) answer
        → HasStoredIn v next lease name entry row answer
    stored_in next lease name entry row answer e found by = record {
      view = grown_view next e;
      found = found_seen name row found;
      written = subst (λ (t : CaseShape × Option Unit × List Entry × List Entry).
          IsWritten t.0 t.1 t.2 t.3 lease name entry (written_row (length t.2) entry [] row) answer)
          (λ i. (seen_case i, seen_told i, seen_history i, grown_front next e i))
          (IsWritten-telling old.case old.rows old.history new.history lease name entry
          (written_row (length old.history) entry [] row) answer by);
    }

    -- whatever was put, as the seat knows it
    pub put_in : (next : View) (lease : LeaseView) (name : RowName) (writing : Writing) (row : Contents) (answer : Written)
        → next ≡ grown v c.history → IsRowOf old.case old.rows old.history name row
        → IsPut old.case old.rows old.history new.history lease name writing row answer
        → HasPutIn v next lease name writing row answer
    put_in next lease name (writings.Propose proposal) row answer e found put =
        written_in next lease name proposal.now row answer e found put
    put_in next lease name (writings.Settle id) row answer e found put =
        stored_in next lease name (Ack lease.seq name id) row answer e found put
    put_in next lease name (writings.Purge floor) row answer e found put =
        stored_in next lease name (Purge lease.seq name floor) row answer e found put

    -- what was claimed, as the seat knows it
    pub claimed_in : (next : View) (worker interval : ℕ) (answer : Claimed) → next ≡ grown v c.history
        → new.history ≡ old.history ++ Claim worker interval ∷ []
        → answer.lease ≡ record { interval = interval; seq = length old.history }
        → AreRowsOf old.case old.rows old.history interval answer.rows
        → HasClaimedIn v next worker interval answer
    claimed_in next worker interval answer e appended lease rows = record {
      view = e ∙ ap (grown v) (ap (λ (b : CoreView). b.history) parts ∙ appended
          ∙ ap (λ (h : List Entry). h ++ Claim worker interval ∷ []) seen_history);
      lease = lease ∙ ap (λ (h : List Entry). record { interval = interval; seq = length h }) seen_history;
      rows = subst (λ (t : CaseShape × Option Unit × List Entry). AreRowsOf t.0 t.1 t.2 interval answer.rows)
          (λ i. (seen_case i, seen_told i, seen_history i))
          (AreRowsOf-telling old.case old.rows old.history interval answer.rows rows);
    }

-- what is said of the view of a seat that took the book out is said of the view before
pub as_out : (old out : SeatView) (P : View → Type 0) → out ≡ (old.0, (0, None) ∷ []) → P old.0 → P out.0
as_out old out P e p = subst (λ (m : SeatView). P m.0) (sym e) p

-- the view once the entry is appended, of a seat that took the book out
pub in_after : (old out new : SeatView) (b : CoreView) → out ≡ (old.0, (0, None) ∷ [])
    → new ≡ (grown out.0 b.history, (0, Some b) ∷ []) → new.0 ≡ grown old.0 b.history
in_after old out new b was is = ap (λ (m : SeatView). m.0) is ∙ ap (λ (m : SeatView). grown m.0 b.history) was

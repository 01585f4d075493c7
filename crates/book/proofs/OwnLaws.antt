-- What a book asks and answers, in words of a desk that has it to itself.
use Rattle.std.proofs.Common.{◌≡◌, ◌≤◌, ℕ, true, false, List, [], ◌∷◌, ◌++◌, length, take, drop, refl, sym, ◌∙◌, ap, subst, arith}
use Rattle.std.specs.Prelude.{Option, Some, None, IfSome, IsSome, slice_get, ◌≢◌}
use Rattle.std.specs.Option.{is_some, option_map_or}
use Rattle.std.proofs.lemmas.Bool.{eqb-true, eq-eqb}
use Rattle.std.proofs.lemmas.List.{take_all, drop_all, append-nil}
use Rattle.std.proofs.lemmas.List.Elements.{All-nil}
use Rattle.list_lemmas.proofs.Told.{if-anyway}
use Rattle.mw_types.specs.declared.identity.RecordId.{RecordId}
use Rattle.mw_types.specs.declared.identity.RowName.{RowName}
use Rattle.mw_types.specs.declared.entry.Entry.{Entry}
use Rattle.mw_types.specs.declared.entry.Entry.TheVariants.{Claim, Inject, Handle, Fire, Ack, Purge}
use Rattle.row_parts.specs.Contents.{Contents}
use Rattle.run_history.specs.Cases.{CaseShape}
use Rattle.run_history.specs.Runs.{run_of, row_in, written_row}
use Rattle.run_history.specs.Legal.{floor_of}
use Rattle.run_history.specs.Fences.{CarryNot, IsClaimed, is_claim, known, sequencer_of}
use Rattle.run_history.proofs.Beginnings.{slice_get-more, slice_get-last}
use Rattle.run_history.proofs.Fitting.{fits-parts}
use Rattle.history_laws.proofs.FloorLaws.{floor_of-below, floor_of-rises}
use Rattle.history_laws.proofs.IdLaws.{next-length}
use Rattle.watermark.specs.Marks.{mark_of}
use Rattle.book.specs.Answers.{HasStayed, IsSameBook, IsWritten}
use Rattle.book.specs.Books.{BookView, LeaseView, core_of}
use Rattle.book.specs.Claims.{AreRowsOf}
use Rattle.book.specs.Conditions.{HasSeenAllAt, IsOwnWork, IsOwnWorkAt, IsRowOf, IsRowSeen, IsRowSeenAt, MayForgetAt, MaySettle, MaySettleAt, MayUseAt}
use Rattle.book.specs.Desking.{HasClaimed, HasStored, HasWritten, IsKnownOf, IsPurgeKnown, IsRowKnown, MayAsk}
use Rattle.book.specs.Desks.{HasLooked, HasMoved, IsSound, KeepsMarks, numbers_from}
use Rattle.book.specs.Lawful.{HoldsRowsOf, IsLawful}
use Rattle.book.specs.Marks.{AreUnderLow}
use Rattle.book.specs.OwnDesks.{is_claimed, own_view}
use Rattle.book.specs.Proposals.{IsProposedOf, IsWrittenBy}
use Rattle.book.specs.Writings.{HasPut, IsPut, MayPut, MayPutAt}
use Rattle.book.specs.declared.answers.Claimed.{Claimed}
use Rattle.book.specs.declared.answers.Written.{Written}
use Rattle.book.specs.declared.proposal.Proposal.{Proposal}
use Rattle.book.specs.declared.proposal.Proposal.TheVariants as proposals
use Rattle.book.specs.declared.writing.Writing.{Writing}
use Rattle.book.specs.declared.writing.Writing.TheVariants as writings
use Rattle.book.proofs.DeskLaws.{telling-if, if-telling, telling-same, IsRowSeen-told, MaySettle-told, IsOwnWork-told, IsWritten-telling, IsWrittenBy-telling, AreRowsOf-telling}
use Rattle.book.proofs.Numbers.{drop-front, numbers_from-append}
use Rattle.book.proofs.SeenRows.{part-there, told-then}

-- ---- leases

-- a lease that the desk may use is claimed in what it has seen
pub is_claimed-claimed : (history : List Entry) (lease : LeaseView) → is_claimed history lease ≡ true
    → IsClaimed lease.interval lease.seq history
is_claimed-claimed history lease is = by_entry (slice_get history lease.seq) refl is
  where
    by_entry : (o : Option Entry) → slice_get history lease.seq ≡ o → option_map_or (is_claim lease.interval) o false ≡ true
        → IsClaimed lease.interval lease.seq history
    by_entry None at is = absurd cc
    by_entry (Some (Claim worker claimed)) at is = (worker, at ∙ ap (λ n. Some (Claim worker n)) (eqb-true claimed lease.interval is))
    by_entry (Some (Inject seq part line item)) at is = absurd cc
    by_entry (Some (Handle seq row id effects)) at is = absurd cc
    by_entry (Some (Fire seq row timer mark effects)) at is = absurd cc
    by_entry (Some (Ack seq row id)) at is = absurd cc
    by_entry (Some (Purge seq row floor)) at is = absurd cc

-- and back
pub claimed-is_claimed : (history : List Entry) (lease : LeaseView) → IsClaimed lease.interval lease.seq history
    → is_claimed history lease ≡ true
claimed-is_claimed history lease claimed =
    ap (λ o. option_map_or (is_claim lease.interval) o false) claimed.1 ∙ eq-eqb lease.interval lease.interval refl

-- a lease may be used where more entries follow
pub is_claimed-more : (history more : List Entry) (lease : LeaseView) → is_claimed history lease ≡ true
    → is_claimed (history ++ more) lease ≡ true
is_claimed-more history more lease is =
    let claimed = is_claimed-claimed history lease is in
    claimed-is_claimed (history ++ more) lease
    (claimed.0, slice_get-more history lease.seq (Claim claimed.0 lease.interval) more claimed.1)

-- no entry carries a sequencer among none
pub none-carried : (seq : ℕ) → CarryNot seq []
none-carried seq = All-nil (λ (e : Entry). sequencer_of e ≢ Some seq)

-- ---- what a caller of the book knows, who has seen all of it

-- that much is the whole history
take-whole : (book : BookView) (front : ℕ) → front ≡ length book.history → take front book.history ≡ book.history
take-whole book front whole = take_all front book.history (omega (arith, whole))

-- and nothing is left
drop-whole : (book : BookView) (front : ℕ) → front ≡ length book.history → drop front book.history ≡ []
drop-whole book front whole = drop_all front book.history (omega (arith, whole))

-- all under the lease was seen
pub seen-all : (book : BookView) (lease : LeaseView) (front : ℕ) → front ≡ length book.history
    → is_claimed book.history lease ≡ true → HasSeenAllAt book lease front
seen-all book lease front whole is = record {
  claimed = subst (IsClaimed lease.interval lease.seq) (sym (take-whole book front whole)) (is_claimed-claimed book.history lease is);
  own = subst (CarryNot lease.seq) (sym (drop-whole book front whole)) (none-carried lease.seq);
}

-- the lease may be used
pub may-use : (book : BookView) (lease : LeaseView) (front : ℕ) (name : RowName) → front ≡ length book.history
    → MayAsk (own_view book) lease name → MayUseAt book lease front name
may-use book lease front name whole may = record {
  seen_all = seen-all book lease front whole may.may_use;
  covers = may.covers;
}

-- the row was seen
pub row-seen : (book : BookView) (lease : LeaseView) (front : ℕ) (name : RowName) (row : Contents) → front ≡ length book.history
    → IsRowKnown (own_view book) lease name row → IsRowSeenAt book lease front name row
row-seen book lease front name row whole is =
    subst (λ (h : List Entry). IsRowSeen book.case book.rows (length book.history) h lease name row) (sym (take-whole book front whole))
    (IsRowSeen-told book.case book.rows (length book.history) book.history lease name row is)

-- the id may be settled
pub may-settle : (book : BookView) (front : ℕ) (row : Contents) (id : RecordId) → front ≡ length book.history
    → MaySettle (own_view book).told book.history row id → MaySettleAt book front row id
may-settle book front row id whole may =
    subst (λ (h : List Entry). MaySettle book.rows h row id) (sym (take-whole book front whole))
    (MaySettle-told book.rows book.history row id may)

-- the own work is what was seen
pub own-work : (book : BookView) (lease : LeaseView) (front own : ℕ) → front ≡ length book.history
    → IsOwnWork book.case (own_view book).told book.history lease own → IsOwnWorkAt book lease front own
own-work book lease front own whole is =
    subst (λ (h : List Entry). IsOwnWork book.case book.rows h lease own) (sym (take-whole book front whole))
    (IsOwnWork-told book.case book.rows book.history lease own is)

-- the floor of a history is at most the number of its entries
floor-few : (book : BookView) → floor_of (run_of book.case.topology book.history) ≤ length book.history
floor-few book =
    let below = (floor_of-below (run_of book.case.topology book.history)).next in
    let number = next-length book.case.topology book.history in omega (arith, below, number)

-- the ids below the floor may be forgotten
pub may-forget : (book : BookView) (front : ℕ) (name : RowName) (row : Contents) (floor : ℕ) → front ≡ length book.history
    → IsLawful book.case (core_of book) → IsPurgeKnown (own_view book) name row floor → MayForgetAt book front name row floor
may-forget book front name row floor whole lawful may =
    let under = may.known in
    let few = floor-few book in
    let back = sym (take-whole book front whole) in record {
      rises = may.rises;
      few = let room = lawful.few in let limit = lawful.limit in omega (arith, under, few, room, limit);
      there = subst (λ (h : List Entry). IfSome book.rows (λ _. IsSome (row_in (run_of book.case.topology h) name))) back
          (if-telling book.rows _ may.there);
      finished = subst (λ (h : List Entry). IfSome book.rows (λ _. floor ≤ floor_of (run_of book.case.topology h))) back
          (if-anyway book.rows _ under);
    }

-- what is proposed was made in what was seen, or is due by the marks
pub proposed : (book : BookView) (front : ℕ) (lease : LeaseView) (name : RowName) (row : Contents) (proposal : Proposal)
    → front ≡ length book.history → IfSome book.rows (λ _. AreUnderLow book.case (run_of book.case.topology book.history) book.marks)
    → IsRowKnown (own_view book) lease name row → IsKnownOf (own_view book) name proposal
    → IfSome book.rows (λ _. IsProposedOf book.case name proposal (run_of book.case.topology (take front book.history)))
proposed book front lease name row proposal whole low is known =
    subst (λ (h : List Entry). IfSome book.rows (λ _. IsProposedOf book.case name proposal (run_of book.case.topology h)))
    (sym (take-whole book front whole)) (by_kind proposal known)
  where
    by_kind : (p : Proposal) → IsKnownOf (own_view book) name p
        → IfSome book.rows (λ _. IsProposedOf book.case name p (run_of book.case.topology book.history))
    by_kind (proposals.Inject line) known = if-anyway book.rows _ tt
    by_kind (proposals.Handle delivery effects) known = if-telling book.rows _ known
    by_kind (proposals.Fire timer mark effects) known =
        let there = part-there book.case name.part row (fits-parts book.case (length book.history) name row is.fit).0 in
        told-then book.rows (λ _. AreUnderLow book.case (run_of book.case.topology book.history) book.marks) _ low
        (λ _ under.
        let least = under name.part there in
        let marks = known.under_marks in record {
          due = known.due;
          under_watermark = omega (arith, least, marks);
        })

-- what is to be written may be
pub may-put : (book : BookView) (front : ℕ) (lease : LeaseView) (name : RowName) (row : Contents) (writing : Writing)
    → front ≡ length book.history → IsLawful book.case (core_of book)
    → IfSome book.rows (λ _. AreUnderLow book.case (run_of book.case.topology book.history) book.marks)
    → IsRowKnown (own_view book) lease name row → MayPut (own_view book) name row writing → MayPutAt book front name row writing
may-put book front lease name row (writings.Propose proposal) whole lawful low is may =
    (may.0, proposed book front lease name row proposal.now whole low is may.1)
may-put book front lease name row (writings.Settle id) whole lawful low is may = may-settle book front row id whole may
may-put book front lease name row (writings.Purge floor) whole lawful low is may = may-forget book front name row floor whole lawful may

-- ---- what a call leaves

-- all that a book has more was appended by the desk that is alone
own-more : (old new before more : List Entry) → before ≡ old → new ≡ old ++ more
    → numbers_from 0 new ≡ numbers_from 0 old ++ numbers_from (length before) (drop (length before) new)
own-more old new before more from appended =
    ap (numbers_from 0) appended ∙ numbers_from-append 0 old more
    ∙ ap (λ n. numbers_from 0 old ++ numbers_from n more) (omega arith)
    ∙ ap (λ l. numbers_from 0 old ++ numbers_from (length old) l)
    (sym (ap (λ l. drop (length old) l) appended ∙ drop-front old more))
    ∙ ap (λ b. numbers_from 0 old ++ numbers_from (length b) (drop (length b) new)) (sym from)

-- a book that goes on
pub moved : (old new : BookView) (before more : List Entry) → new.case ≡ old.case → new.limit ≡ old.limit
    → is_some new.rows ≡ is_some old.rows → old.faults ≤ new.faults → before ≡ old.history → new.history ≡ old.history ++ more
    → HasMoved (own_view old) (own_view new) before
moved old new before more case limit tells later from appended = record {
  case = case;
  limit = limit;
  told = telling-same old.rows new.rows tells;
  alone = refl;
  others = [];
  more = from ∙ sym (append-nil old.history);
  foreign = λ lease _. none-carried lease.seq;
  none = λ _. refl;
  own = own-more old.history new.history before more from appended;
  leases = λ lease is. subst (λ (h : List Entry). is_claimed h lease ≡ true) (sym appended) (is_claimed-more old.history more lease is);
  floor = subst (λ (p : CaseShape × List Entry). floor_of (run_of old.case.topology old.history) ≤ floor_of (run_of p.0.topology p.1))
      (λ i. (sym case i, sym appended i)) (floor_of-rises old.case.topology old.history more);
  faults = later;
}

-- a book that has stayed
pub looked : (old new : BookView) → HasStayed old new → IsSameBook old new → old.faults ≤ new.faults
    → HasLooked (own_view old) (own_view new)
looked old new stayed same later =
    moved old new new.history [] same.case same.limit same.tells later stayed.history (stayed.history ∙ sym (append-nil old.history))

-- a book that is read has stayed
pub looked-still : (book : BookView) → HasLooked (own_view book) (own_view book)
looked-still book = looked book book (record { history = refl; rows = refl })
    (record { case = refl; limit = refl; marks = refl; tells = refl }) (omega arith)

-- no mark changes
pub marks-stay : (old new : BookView) → IsSameBook old new → KeepsMarks (own_view old) (own_view new)
marks-stay old new same = record {
  rise = λ interval. let is = ap (λ (m : List ℕ). mark_of m interval) same.marks in omega (arith, is);
  same = λ _. same.marks;
}

-- what was written
pub stored : (old new : BookView) (lease : LeaseView) (name : RowName) (entry : Entry) (row : Contents) (left : ℕ → Contents)
    (answer : Written)
    → IsSameBook old new → old.faults ≤ new.faults → IsRowOf old.case old.rows old.history name row
    → IsWritten old.case old.rows old.history new.history lease name entry (left (length old.history)) answer
    → HasStored (own_view old) (own_view new) lease name entry row left answer
stored old new lease name entry row left answer same later found written = record {
  before = old.history;
  moved = moved old new old.history (entry ∷ []) same.case same.limit same.tells later refl written.appended;
  found = telling-if old.rows _ found;
  written = IsWritten-telling old.case old.rows old.history new.history lease name entry (left (length old.history)) answer written;
}

-- what was written of a proposal
pub written-by : (old new : BookView) (lease : LeaseView) (name : RowName) (proposal : Proposal) (row : Contents) (answer : Written)
    → IsSameBook old new → old.faults ≤ new.faults → IsRowOf old.case old.rows old.history name row
    → IsWrittenBy old.case old.rows old.history new.history lease name proposal row answer
    → HasWritten (own_view old) (own_view new) lease name proposal row answer
written-by old new lease name proposal row answer same later found by = record {
  before = old.history;
  moved = moved old new old.history (by.entry ∷ []) same.case same.limit same.tells later refl by.written.appended;
  found = telling-if old.rows _ found;
  written = IsWrittenBy-telling old.case old.rows old.history new.history lease name proposal row answer by;
}

-- what was put
pub put-of : (old new : BookView) (lease : LeaseView) (name : RowName) (writing : Writing) (row : Contents) (answer : Written)
    → IsSameBook old new → old.faults ≤ new.faults → IsRowOf old.case old.rows old.history name row
    → IsPut old.case old.rows old.history new.history lease name writing row answer
    → HasPut (own_view old) (own_view new) lease name writing row answer
put-of old new lease name (writings.Propose proposal) row answer same later found put =
    written-by old new lease name proposal.now row answer same later found put
put-of old new lease name (writings.Settle id) row answer same later found put =
    let entry = Ack lease.seq name id in
    stored old new lease name entry row (λ commit. written_row commit entry [] row) answer same later found put
put-of old new lease name (writings.Purge floor) row answer same later found put =
    let entry = Purge lease.seq name floor in
    stored old new lease name entry row (λ commit. written_row commit entry [] row) answer same later found put

-- a claim that was accepted
pub claimed : (old new : BookView) (worker interval : ℕ) (answer : Claimed) → IsSameBook old new → old.faults ≤ new.faults
    → new.history ≡ old.history ++ Claim worker interval ∷ []
    → answer.lease ≡ record { interval = interval; seq = length old.history }
    → AreRowsOf old.case old.rows old.history interval answer.rows
    → HasClaimed (own_view old) (own_view new) worker interval answer
claimed old new worker interval answer same later appended lease rows = record {
  before = old.history;
  moved = moved old new old.history (Claim worker interval ∷ []) same.case same.limit same.tells later refl appended;
  appended = appended;
  lease = lease;
  may_use = subst (λ (l : LeaseView). is_claimed new.history l ≡ true) (sym lease)
      (claimed-is_claimed new.history (record { interval = interval; seq = length old.history })
      (worker, ap (λ (h : List Entry). slice_get h (length old.history)) appended ∙ slice_get-last old.history (Claim worker interval)));
  rows = AreRowsOf-telling old.case old.rows old.history interval answer.rows rows;
}

-- what always holds
pub sound : (book : BookView) → IsLawful book.case (core_of book) → IsSound (own_view book)
sound book lawful = record {
  runnable = lawful.runnable;
  limit = lawful.limit;
  few = lawful.few;
  fenced = lawful.fenced;
  legal = telling-if book.rows _ (told-then book.rows (HoldsRowsOf book.case book.history) _ lawful.held (λ r held. held.legal));
  claimed = λ lease is. is_claimed-claimed book.history lease is;
  marks = lawful.marks;
  floor = let few = floor-few book in let room = lawful.few in let limit = lawful.limit in omega (arith, few, room, limit);
  own_floor = λ _. refl;
}

-- A seat's arrays are those of its view after each call of a turn.
use Rattle.std.proofs.Common.{◌≡◌, ◌≢◌, ◌∙◌, ℕ, suc, ◌<◌, ◌++◌, ◌∷◌, Bool, true, false, List, [], length, drop, refl, sym, ap, subst}
use Rattle.std.specs.Prelude.{Err, IfErr, IfOk, IsErrOf, Ok, Result, Some, slice_set}
use Rattle.std.proofs.lemmas.List.{append-nil}
use Rattle.mw_types.specs.declared.entry.Entry.{Entry}
use Rattle.mw_types.specs.declared.entry.Entry.TheVariants.{Claim, Inject, Handle, Fire, Ack, Purge}
use Rattle.mw_types.specs.declared.identity.RowName.{RowName}
use Rattle.row_parts.specs.Contents.{Contents}
use Rattle.run_history.specs.Cases.{intervals_of}
use Rattle.run_history.specs.Fences.{sequencer_of}
use Rattle.list_lemmas.proofs.Lists.{none_some}
use Rattle.book.specs.Answers.{answer_of}
use Rattle.book.specs.Books.{LeaseView}
use Rattle.book.specs.declared.answers.Claimed.{Claimed}
use Rattle.book.specs.declared.answers.Written.{Written}
use Rattle.book.specs.declared.proposal.Proposal.{Proposal}
use Rattle.book.specs.declared.refusals.ClaimRefusal.{ClaimRefusal}
use Rattle.book.specs.declared.refusals.ClaimRefusal.TheVariants as claims
use Rattle.book.specs.declared.refusals.WriteRefusal.{WriteRefusal}
use Rattle.book.specs.declared.refusals.WriteRefusal.TheVariants as writes
use Rattle.book.specs.declared.writing.Writing.{Writing}
use Rattle.book.specs.declared.writing.Writing.TheVariants as writings
use Rattle.shared_book.specs.declared.views.Settled.{Settled}
use Rattle.shared_book.specs.declared.views.View.{View}
use Rattle.shared_book.specs.Places.{PLACES, settled_by, settled_in}
use Rattle.shared_book.specs.Settling.{AreSettled}
use Rattle.shared_book.specs.Steps.{grown, lease_in}
use Rattle.shared_book.specs.Turns.{HasClaimedIn, HasFaulted, HasPutIn, HasStoredIn, HasWrittenIn}
use Rattle.shared_book.proofs.Calls.{entry_carries}
use Rattle.shared_book.proofs.Lists.{drop_front}
use Rattle.shared_book.proofs.SeatArrays.{HasArrays, arrays-claimed, arrays-moved, arrays-same}
use Rattle.shared_book.proofs.Staying.{settled-carried}

-- an entry that carries a sequencer is no claim, and settles nothing
settles-none : (e : Entry) (seq commit : ℕ) (places : List Settled) → sequencer_of e ≡ Some seq → settled_by e commit places ≡ places
settles-none (Claim worker interval) seq commit places carries = absurd (none_some seq carries)
settles-none (Inject q part line item) seq commit places carries = refl
settles-none (Handle q row id effects) seq commit places carries = refl
settles-none (Fire q row timer mark effects) seq commit places carries = refl
settles-none (Ack q row id) seq commit places carries = refl
settles-none (Purge q row floor) seq commit places carries = refl

-- and gives no lease
gives-none : (e : Entry) (seq commit : ℕ) → sequencer_of e ≡ Some seq → lease_in (e ∷ []) commit ≡ []
gives-none (Claim worker interval) seq commit carries = absurd (none_some seq carries)
gives-none (Inject q part line item) seq commit carries = refl
gives-none (Handle q row id effects) seq commit carries = refl
gives-none (Fire q row timer mark effects) seq commit carries = refl
gives-none (Ack q row id) seq commit carries = refl
gives-none (Purge q row floor) seq commit carries = refl

-- an entry of the seat was appended that is no claim
arrays-grown : (v w : View) (e : Entry) (seq : ℕ) (settled : Bool) (marks claims inputs : List ℕ) → w ≡ grown v w.front → w.front ≡ v.front ++ e ∷ []
    → sequencer_of e ≡ Some seq → HasArrays v settled marks claims inputs → HasArrays w settled marks claims inputs
arrays-grown v w e seq settled marks claims inputs is front carries = arrays-moved v w settled marks claims inputs
    (ap (λ (u : View). u.basis) is) (ap (λ (u : View). u.marks) is)
    (ap (λ (u : View). u.settled) is ∙ ap (λ l. settled_in l (length v.front) v.settled) left
    ∙ settles-none e seq (length v.front) v.settled carries)
    (ap (λ (u : View). u.leases) is ∙ ap (λ l. v.leases ++ lease_in l (length v.front)) left
    ∙ ap (λ l. v.leases ++ l) (gives-none e seq (length v.front) carries) ∙ append-nil v.leases)
    (λ has. subst (λ (h : List Entry). AreSettled v.basis.case.topology h marks claims inputs) (sym front)
    (settled-carried v.basis.case.topology v.front e seq marks claims inputs carries has))
  where
    left : drop (length v.front) w.front ≡ e ∷ []
    left = ap (drop (length v.front)) front ∙ drop_front v.front (e ∷ [])

-- nothing was changed
pub arrays-is : (v w : View) (settled : Bool) (marks claims inputs : List ℕ) → w ≡ v → HasArrays v settled marks claims inputs → HasArrays w settled marks claims inputs
arrays-is v w settled marks claims inputs is = subst (λ (u : View). HasArrays u settled marks claims inputs) (sym is)

-- a fault was noted
arrays-fault : (v w : View) (settled : Bool) (marks claims inputs : List ℕ) → HasFaulted v w → HasArrays v settled marks claims inputs → HasArrays w settled marks claims inputs
arrays-fault v w settled marks claims inputs fault = arrays-same v w settled marks claims inputs (ap (λ (u : View). u.basis) fault.2) (ap (λ (u : View). u.marks) fault.2)
    (ap (λ (u : View). u.settled) fault.2) (ap (λ (u : View). u.leases) fault.2) (ap (λ (u : View). u.front) fault.2)

-- a write was refused
arrays-refused : (v w : View) (settled : Bool) (marks claims inputs : List ℕ) (why : WriteRefusal)
    → (IsErrOf {T = ℕ} (Err why) writes.KeeperFault → HasFaulted v w) → ((why ≢ writes.KeeperFault) → w ≡ v)
    → HasArrays v settled marks claims inputs → HasArrays w settled marks claims inputs
arrays-refused v w settled marks claims inputs writes.KeeperFault fault same = arrays-fault v w settled marks claims inputs (fault refl)
arrays-refused v w settled marks claims inputs (writes.Stale newer) fault same = arrays-is v w settled marks claims inputs (same (λ e. cc))
arrays-refused v w settled marks claims inputs writes.HistoryFull fault same = arrays-is v w settled marks claims inputs (same (λ e. cc))
arrays-refused v w settled marks claims inputs writes.NoMemory fault same = arrays-is v w settled marks claims inputs (same (λ e. cc))

-- a call was refused in a turn in which the book was out, and its keeper may have failed
pub arrays-back : (v out w : View) (settled : Bool) (marks claims inputs : List ℕ) (failed : Bool) → out ≡ v → (failed ≡ false → w ≡ out)
    → (failed ≡ true → HasFaulted out w) → HasArrays v settled marks claims inputs → HasArrays w settled marks claims inputs
arrays-back v out w settled marks claims inputs true was same fault has =
    arrays-fault out w settled marks claims inputs (fault refl) (arrays-is v out settled marks claims inputs was has)
arrays-back v out w settled marks claims inputs false was same fault has =
    arrays-is out w settled marks claims inputs (same refl) (arrays-is v out settled marks claims inputs was has)

-- a proposal was written
arrays-written : (v w : View) (settled : Bool) (marks claims inputs : List ℕ) (lease : LeaseView) (name : RowName) (proposal : Proposal) (row : Contents)
    (answer : Written) → HasWrittenIn v w lease name proposal row answer → HasArrays v settled marks claims inputs → HasArrays w settled marks claims inputs
arrays-written v w settled marks claims inputs lease name proposal row answer is =
    arrays-grown v w is.written.entry lease.seq settled marks claims inputs is.view is.written.written.appended
    (entry_carries v.basis.case lease.seq name proposal is.written.entry is.written.of_proposal)

-- and an entry stored
arrays-stored : (v w : View) (settled : Bool) (marks claims inputs : List ℕ) (lease : LeaseView) (name : RowName) (entry : Entry) (row : Contents)
    (answer : Written) → sequencer_of entry ≡ Some lease.seq → HasStoredIn v w lease name entry row answer
    → HasArrays v settled marks claims inputs → HasArrays w settled marks claims inputs
arrays-stored v w settled marks claims inputs lease name entry row answer carries is =
    arrays-grown v w entry lease.seq settled marks claims inputs is.view is.written.appended carries

-- whatever was put, the entry is the seat's own
pub put-view : (v w : View) (lease : LeaseView) (name : RowName) (writing : Writing) (row : Contents) (answer : Written)
    → HasPutIn v w lease name writing row answer → w ≡ grown v w.front
put-view v w lease name (writings.Propose proposal) row answer is = is.view
put-view v w lease name (writings.Settle id) row answer is = is.view
put-view v w lease name (writings.Purge floor) row answer is = is.view

-- and the arrays are those of the view
pub arrays-put_at : (v w : View) (settled : Bool) (marks claims inputs : List ℕ) (lease : LeaseView) (name : RowName) (writing : Writing) (row : Contents)
    (answer : Written) → HasPutIn v w lease name writing row answer → HasArrays v settled marks claims inputs → HasArrays w settled marks claims inputs
arrays-put_at v w settled marks claims inputs lease name (writings.Propose proposal) row answer is =
    arrays-written v w settled marks claims inputs lease name proposal.now row answer is
arrays-put_at v w settled marks claims inputs lease name (writings.Settle id) row answer is =
    arrays-stored v w settled marks claims inputs lease name (Ack lease.seq name id) row answer refl is
arrays-put_at v w settled marks claims inputs lease name (writings.Purge floor) row answer is =
    arrays-stored v w settled marks claims inputs lease name (Purge lease.seq name floor) row answer refl is

-- a write came to its end, on a row where it lies
pub arrays-put : (v w : View) (settled : Bool) (marks claims inputs : List ℕ) (lease : LeaseView) (name : RowName) (writing : Writing) (row left : Contents)
    (r : Result ℕ WriteRefusal) → IfOk r (λ commit. HasPutIn v w lease name writing row (answer_of commit left))
    → (IsErrOf r writes.KeeperFault → HasFaulted v w) → IfErr r (λ why. (why ≢ writes.KeeperFault) → w ≡ v)
    → HasArrays v settled marks claims inputs → HasArrays w settled marks claims inputs
arrays-put v w settled marks claims inputs lease name writing row left (Ok commit) ok fault same =
    arrays-put_at v w settled marks claims inputs lease name writing row (answer_of commit left) ok
arrays-put v w settled marks claims inputs lease name writing row left (Err why) ok fault same =
    arrays-refused v w settled marks claims inputs why fault same

-- a claim was refused
pub arrays-unclaimed : (v w : View) (settled : Bool) (marks owned inputs : List ℕ) (why : ClaimRefusal)
    → (IsErrOf {T = Claimed} (Err why) claims.KeeperFault → HasFaulted v w) → ((why ≢ claims.KeeperFault) → w ≡ v)
    → HasArrays v settled marks owned inputs → HasArrays w settled marks owned inputs
arrays-unclaimed v w settled marks owned inputs claims.KeeperFault fault same = arrays-fault v w settled marks owned inputs (fault refl)
arrays-unclaimed v w settled marks owned inputs (claims.RowDamaged name bytes) fault same = arrays-is v w settled marks owned inputs (same (λ e. cc))
arrays-unclaimed v w settled marks owned inputs claims.HistoryFull fault same = arrays-is v w settled marks owned inputs (same (λ e. cc))
arrays-unclaimed v w settled marks owned inputs claims.NoMemory fault same = arrays-is v w settled marks owned inputs (same (λ e. cc))

-- and accepted
pub arrays-claim : (v w : View) (settled : Bool) (marks claims inputs : List ℕ) (worker interval : ℕ) (answer : Claimed)
    → HasClaimedIn v w worker interval answer → interval < PLACES → interval < length (intervals_of v.basis.case.topology) → (claim : ℕ) → claim ≡ suc answer.lease.seq
    → HasArrays v settled marks claims inputs
    → HasArrays w false marks (slice_set claims interval claim) (slice_set inputs interval 0)
arrays-claim v w settled marks claims inputs worker interval answer is within here claim next has =
    subst (λ (n : ℕ). HasArrays w false marks (slice_set claims interval n) (slice_set inputs interval 0))
    (sym (next ∙ ap (λ (l : LeaseView). suc l.seq) is.lease))
    (arrays-claimed v w settled marks claims inputs interval (length v.front) (ap (λ (u : View). u.basis) is.view) (ap (λ (u : View). u.marks) is.view)
    (ap (λ (u : View). u.settled) is.view ∙ ap (λ l. settled_in l (length v.front) v.settled) left)
    (ap (λ (u : View). u.leases) is.view ∙ ap (λ l. v.leases ++ lease_in l (length v.front)) left)
    within here has)
  where
    left : drop (length v.front) (v.front ++ Claim worker interval ∷ []) ≡ Claim worker interval ∷ []
    left = drop_front v.front (Claim worker interval ∷ [])

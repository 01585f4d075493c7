-- What a write in place appends.
use Rattle.std.proofs.Common.{◌≡◌, ◌++◌, ◌∷◌, ℕ, [], length, take, arith}
use Rattle.std.specs.Prelude.{IfOk, IfSome, OnOk, Result}
use Rattle.mw_types.specs.declared.entry.Entry.{Entry}
use Rattle.mw_types.specs.declared.identity.RowName.{RowName}
use Rattle.row_parts.specs.Contents.{Contents}
use Rattle.run_history.specs.Runs.{run_of}
use Rattle.book.specs.Answers.{answer_of}
use Rattle.book.specs.Appending.{IsNext}
use Rattle.book.specs.Books.{BookView, LeaseView, core_of}
use Rattle.book.specs.Conditions.{IsRowSeenAt, MayUseAt}
use Rattle.book.specs.Drafts.{IsAdmitted, IsDrafting, MayDraft, drafted}
use Rattle.book.specs.Proposals.{IsEntryOf, IsProposable, IsProposedOf, IsWrittenBy, left_by}
use Rattle.book.specs.declared.drafts.Draft.{Draft}
use Rattle.book.specs.declared.proposal.Proposal.{Proposal}
use Rattle.book.specs.declared.refusals.WriteRefusal.{WriteRefusal}
use Rattle.book.proofs.ProposalLaws.{IsNext-proposed, IsWrittenBy-result}
use Rattle.book.proofs.SeenRows.{row-was}
use Rattle.book.proofs.SentCounts.{left-more}

-- the entry of a proposal may be appended, where its draft makes of the row what the entry leaves
pub IsDrafting-proposed : (book : BookView) (lease : LeaseView) (front : ℕ) (name : RowName) (row : Contents) (draft : Draft) (commit : ℕ)
    (proposal : Proposal) (entry : Entry)
    → IsAdmitted book lease commit → MayUseAt book lease front name → IsRowSeenAt book lease front name row
    → IsProposable book.case name row proposal
    → IfSome book.rows (λ _. IsProposedOf book.case name proposal (run_of book.case.topology (take front book.history)))
    → IsEntryOf book.case lease.seq name proposal entry → MayDraft row draft
    → drafted draft commit row ≡ left_by book.case.topology name proposal (length book.history) entry row
    → IsDrafting book name row draft commit entry
IsDrafting-proposed book lease front name row draft commit proposal entry admitted uses seen proposable told of may leaves =
    let left = drafted draft commit row in
    let next : IsNext book.case (core_of book) name entry left =
    IsNext-proposed book lease front name row left proposal entry admitted.lawful uses seen admitted.last admitted.room proposable told of leaves in
    let more = left-more book.case book.history lease.seq name proposal entry row left of next.on_row leaves in record {
      may = may;
      next = next;
      sent = omega (arith, more);
      was = row-was book lease front name row admitted.lawful uses seen admitted.last;
    }

-- and was accepted, by what putting the draft answered
pub IsWrittenBy-drafted : (old new : BookView) (lease : LeaseView) (front : ℕ) (name : RowName) (row after : Contents) (draft : Draft)
    (commit : ℕ) (proposal : Proposal) (entry : Entry) (result : Result ℕ WriteRefusal)
    → IsAdmitted old lease commit → MayUseAt old lease front name → IsRowSeenAt old lease front name row
    → IsProposable old.case name row proposal
    → IfSome old.rows (λ _. IsProposedOf old.case name proposal (run_of old.case.topology (take front old.history)))
    → IsEntryOf old.case lease.seq name proposal entry
    → drafted draft commit row ≡ left_by old.case.topology name proposal (length old.history) entry row
    → OnOk result (new.history ≡ old.history ++ entry ∷ []) → IfOk result (λ n. n ≡ length old.history)
    → OnOk result (after ≡ drafted draft commit row)
    → IfOk result (λ n. IsWrittenBy old.case old.rows old.history new.history lease name proposal row (answer_of n after))
IsWrittenBy-drafted old new lease front name row after draft commit proposal entry result admitted uses seen proposable told of leaves
    appended number changed =
    let left = drafted draft commit row in
    IsWrittenBy-result old new lease name proposal row left after entry result
    (IsNext-proposed old lease front name row left proposal entry admitted.lawful uses seen admitted.last admitted.room proposable told of leaves)
    admitted.last of leaves appended number changed

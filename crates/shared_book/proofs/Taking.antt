-- What a desk knew before its turn is right in the turn, whatever others appended.
use Rattle.std.proofs.Common.{◌≡◌, ◌∙◌, ◌≤◌, ℕ, true, List, length, take, sym, ap, subst, arith}
use Rattle.std.proofs.lemmas.List.{length-take-le}
use Rattle.std.specs.Prelude.{IfSome, IsSome, Some, unwrap_or}
use Rattle.list_lemmas.proofs.Told.{if-anyway}
use Rattle.mw_types.specs.declared.entry.Entry.{Entry}
use Rattle.mw_types.specs.declared.identity.RecordId.{RecordId}
use Rattle.mw_types.specs.declared.identity.RowName.{RowName}
use Rattle.row_parts.specs.Contents.{Contents, fresh, found_delivery}
use Rattle.run_history.specs.Cases.{fresh_of, intervals_of}
use Rattle.topology.specs.Shapes.{Shape}
use Rattle.run_history.specs.Fences.{interval_of, known}
use Rattle.run_history.specs.Finished.{is_handled}
use Rattle.run_history.specs.Legal.{IsLegal, floor_of}
use Rattle.run_history.specs.Runs.{row_in, row_of, run_of}
use Rattle.topology.specs.Rules.{interval_count}
use Rattle.run_history.proofs.Beginnings.{Begins-length}
use Rattle.run_history.proofs.CaseIntervals.{length-intervals}
use Rattle.run_history.proofs.Fitting.{fits-more, fits-parts}
use Rattle.history_laws.proofs.FinishedLaws.{is_handled-more}
use Rattle.history_laws.proofs.SeenLaws.{found-more}
use Rattle.book.specs.Books.{CoreView, LeaseView}
use Rattle.book.specs.Conditions.{IsRowSeen, MayForget, MaySettle}
use Rattle.book.specs.Desking.{IsKnownOf, IsPurgeKnown, IsRowKnown, MayAsk}
use Rattle.book.specs.Lawful.{IsLawful}
use Rattle.book.specs.Marks.{AreSafe, AreUnderLow}
use Rattle.book.specs.OwnDesks.{telling}
use Rattle.book.specs.Proposals.{IsProposable, IsProposedOf}
use Rattle.book.specs.Writings.{MayPut}
use Rattle.book.specs.declared.proposal.Proposal.{Proposal}
use Rattle.book.specs.declared.proposal.Proposal.TheVariants as proposals
use Rattle.book.specs.declared.writing.Writing.{Writing}
use Rattle.book.specs.declared.writing.Writing.TheVariants as writings
use Rattle.watermark.proofs.SafeMarks.{are-under_low}
use Rattle.book.proofs.SeenRows.{part-there, told-both, told-then}
use Rattle.shared_book.specs.declared.views.Basis.{Basis}
use Rattle.shared_book.specs.declared.views.View.{View}
use Rattle.shared_book.specs.FenceLaw.{IsCore}
use Rattle.shared_book.specs.Lists.{IsIn}
use Rattle.shared_book.specs.SharedDesks.{shared_view}
use Rattle.shared_book.specs.Turns.{HasTaken, IsProposedIn, IsRowHeld, MayPutIn, MayWrite}
use Rattle.shared_book.proofs.Appending.{lawful_legal}
use Rattle.shared_book.proofs.Held.{held-in}
use Rattle.shared_book.proofs.LawSteps.{floor-few}
use Rattle.history_laws.proofs.StayLaws.{row-stays}
use Rattle.shared_book.proofs.Filling.{mark-front_le}
use Rattle.shared_book.proofs.Vouching.{AreSafe-lower}

-- marks that are safe are under the low watermarks, where told
under-low : (basis : Basis) (front : List Entry) (marks : List ℕ) (b : CoreView) → b.history ≡ front → telling b.rows ≡ basis.told
    → IsLawful basis.case b → length marks ≡ 61 → IfSome basis.told (λ _. AreSafe basis.case (run_of basis.case.topology front) marks)
    → IfSome basis.told (λ _. AreUnderLow basis.case (run_of basis.case.topology front)
    (take (length (intervals_of basis.case.topology)) marks))
under-low basis front marks b same told lawful long safe =
    told-then basis.told
    (λ _. IsLegal basis.case front × AreSafe basis.case (run_of basis.case.topology front) marks) _
    (told-both basis.told (λ _. IsLegal basis.case front) _ (lawful_legal basis front b lawful same told) safe)
    (λ _ p. are-under_low basis.case front (take n marks) lawful.runnable p.0
    (length-take-le n marks (omega (arith, long, few, all)))
    (AreSafe-lower basis.case (run_of basis.case.topology front) (take n marks) marks (λ k. mark-front_le n k marks) p.1))
  where
    n : ℕ
    n = length (intervals_of basis.case.topology)

    few : interval_count basis.case.topology ≤ 61
    few = lawful.runnable.topology.few_intervals

    all : n ≡ interval_count basis.case.topology
    all = length-intervals basis.case.topology

-- a view before a turn, and in it
module _ (v t : View) (taken : HasTaken v t) where
  -- the turn changes no constant
  pub basis-taken : t.basis ≡ v.basis
  basis-taken = ap (λ (x : View). x.basis) taken.view

  -- no lease
  pub leases-taken : t.leases ≡ v.leases
  leases-taken = ap (λ (x : View). x.leases) taken.view

  -- and no number of a seat
  pub numbers-taken : t.numbers ≡ v.numbers
  numbers-taken = ap (λ (x : View). x.numbers) taken.view

  -- and the book that was found is that of the desk's constants
  pub core-taken : (count : ℕ) (b : CoreView) → IsCore t.basis t.front count b → IsCore v.basis t.front count b
  core-taken count b = subst (λ (x : Basis). IsCore x t.front count b) basis-taken

  -- what was seen goes on
  longer : length v.front ≤ length t.front
  longer = Begins-length v.front t.front (taken.others, taken.goes_on)

  -- a lease may be used
  pub write-taken : (lease : LeaseView) (name : RowName) → MayAsk (shared_view v) lease name
      → MayWrite t lease name
  write-taken lease name may = record {
    held = subst (IsIn lease) (sym leases-taken) (held-in v.leases lease may.may_use);
    covers = subst (λ (b : Basis). interval_of b.case.topology name ≡ Some lease.interval) (sym basis-taken) may.covers;
  }

  -- the row is as it was
  pub row-taken : (lease : LeaseView) (name : RowName) (row : Contents) → MayAsk (shared_view v) lease name
      → IsRowKnown (shared_view v) lease name row → IsRowHeld t lease name row
  row-taken lease name row may is =
      subst (λ (b : Basis). IsRowSeen b.case b.told (length t.front) t.front lease name row) (sym basis-taken) (record {
        fit = fits-more v.basis.case (length v.front) (length t.front) name row longer is.fit;
        known = told-then v.basis.told (λ _. row ≡ row_of shape (run_of shape (known lease.interval lease.seq v.front)) name) _ is.known
            (λ _ same. same ∙ sym (ap (λ o. unwrap_or o (fresh (fresh_of shape name.part)))
            (taken.rows lease name (held-in v.leases lease may.may_use) may.covers)));
      })
    where
      shape : Shape
      shape = v.basis.case.topology

  -- an id may be settled
  settle-taken : (row : Contents) (id : RecordId) → MaySettle v.basis.told v.front row id → MaySettle t.basis.told t.front row id
  settle-taken row id may =
      subst (λ (p : Basis × List Entry). MaySettle p.0.told p.1 row id) (λ i. (sym basis-taken i, taken.goes_on i)) (record {
        pending = may.pending;
        handled = told-then v.basis.told (λ _. is_handled id v.front ≡ true) _ may.handled
            (λ _ is. is_handled-more id v.front taken.others is);
      })

  -- ids may be forgotten
  forget-taken : (b : CoreView) (name : RowName) (row : Contents) (floor : ℕ) → b.history ≡ t.front → IsLawful v.basis.case b
      → IsPurgeKnown (shared_view v) name row floor → MayForget t.basis.case t.basis.told t.front name row floor
  forget-taken b name row floor same lawful may =
      subst (λ (p : Basis). MayForget p.case p.told t.front name row floor) (sym basis-taken) (record {
        rises = may.rises;
        few = let count : length b.history ≡ length t.front = ap length same in
            let few = lawful.few in let limit = lawful.limit in let most = floor-few v.basis.case t.front in
            omega (arith, below, most, few, limit, count);
        there = subst (λ (h : List Entry). IfSome v.basis.told (λ _. IsSome (row_in (run_of v.basis.case.topology h) name))) taken.goes_on
            (told-then v.basis.told (λ _. IsSome (row_in (run_of v.basis.case.topology v.front) name)) _ may.there
            (λ _ there. row-stays v.basis.case.topology v.front taken.others name there));
        finished = if-anyway v.basis.told _ below;
      })
    where
      below : floor ≤ floor_of (run_of v.basis.case.topology t.front)
      below = let at_most = may.known in let low = taken.floor in omega (arith, at_most, low)

  -- what is proposed was made, or is due
  proposed-taken : (b : CoreView) (lease : LeaseView) (name : RowName) (row : Contents) (proposal : Proposal)
      → b.history ≡ t.front → telling b.rows ≡ v.basis.told → IsLawful v.basis.case b → length v.marks ≡ 61
      → IsRowKnown (shared_view v) lease name row → IsKnownOf (shared_view v) name proposal → IsProposedIn t name proposal
  proposed-taken b lease name row proposal same told lawful long row_is proposed =
      subst (λ (p : Basis). IfSome p.told (λ _. IsProposedOf p.case name proposal (run_of p.case.topology t.front))) (sym basis-taken)
      (by_kind proposal proposed)
    where
      by_kind : (p : Proposal) → IsKnownOf (shared_view v) name p
          → IfSome v.basis.told (λ _. IsProposedOf v.basis.case name p (run_of v.basis.case.topology t.front))
      by_kind (proposals.Inject line) so = if-anyway v.basis.told _ tt
      by_kind (proposals.Handle delivery effects) so =
          subst (λ (h : List Entry). IfSome v.basis.told (λ _. found_delivery delivery.id (run_of v.basis.case.topology h).made ≡ Some delivery))
          taken.goes_on
          (told-then v.basis.told (λ _. found_delivery delivery.id (run_of v.basis.case.topology v.front).made ≡ Some delivery) _ so
          (λ _ found. found-more v.basis.case.topology v.front taken.others delivery.id delivery found))
      by_kind (proposals.Fire timer mark effects) so =
          let there = part-there v.basis.case name.part row (fits-parts v.basis.case (length v.front) name row row_is.fit).0 in
          told-then v.basis.told (λ _. AreUnderLow v.basis.case (run_of v.basis.case.topology t.front)
          (take (length (intervals_of v.basis.case.topology)) v.marks)) _
          (under-low v.basis t.front v.marks b same told lawful long taken.marks)
          (λ _ under.
          let least = under name.part there in
          let marks = so.under_marks in record {
            due = so.due;
            under_watermark = omega (arith, least, marks);
          })

  -- what is to be written may be
  pub may-taken : (b : CoreView) (lease : LeaseView) (name : RowName) (row : Contents) (writing : Writing)
      → b.history ≡ t.front → telling b.rows ≡ v.basis.told → IsLawful v.basis.case b → length v.marks ≡ 61
      → IsRowKnown (shared_view v) lease name row → MayPut (shared_view v) name row writing → MayPutIn t name row writing
  may-taken b lease name row (writings.Propose proposal) same told lawful long row_is may = (
    subst (λ (x : Basis). IsProposable x.case name row proposal.now) (sym basis-taken) may.0,
    proposed-taken b lease name row proposal.now same told lawful long row_is may.1,
  )
  may-taken b lease name row (writings.Settle id) same told lawful long row_is may = settle-taken row id may
  may-taken b lease name row (writings.Purge floor) same told lawful long row_is may = forget-taken b name row floor same lawful may

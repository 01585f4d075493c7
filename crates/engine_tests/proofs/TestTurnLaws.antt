-- How the seats of the tests go on.
use Rattle.std.proofs.Common.{inl, ◌≡◌, ◌≤◌, ℕ, List, [], ◌∷◌, ◌++◌, length, drop, refl, sym, ◌∙◌, ap, subst, arith, length-append}
use Rattle.std.specs.Prelude.{◌<◌, ◌&&◌, Bool, false, Option, Some, None, IfSome, true}
use Rattle.std.specs.List.{list_all}
use Rattle.mw_types.specs.declared.entry.Entry.{Entry}
use Rattle.mw_types.specs.declared.entry.Entry.TheVariants.{Claim}
use Rattle.mw_types.specs.declared.identity.RowName.{RowName}
use Rattle.row_parts.specs.Contents.{Contents}
use Rattle.topology.specs.Shapes.{parts_of}
use Rattle.run_history.specs.Cases.{CaseShape}
use Rattle.run_history.specs.Fences.{known}
use Rattle.run_history.specs.Fits.{fits, is_sent_before, suits_part}
use Rattle.run_history.specs.Inputs.{IsRunnable}
use Rattle.run_history.specs.Legal.{IsLegal}
use Rattle.run_history.specs.Marks.{IsUnderMarks}
use Rattle.run_history.specs.Runs.{run_of}
use Rattle.run_history.specs.Watermarks.{low_watermark}
use Rattle.run_history.proofs.Fitting.{fits-more}
use Rattle.watermark.specs.Marks.{mark_of}
use Rattle.book.specs.Conditions.{IsRowOf, IsRowSeen}
use Rattle.book.specs.Marks.{AreSafe}
use Rattle.book.proofs.SeenRows.{told-both, told-then}
use Rattle.shared_book.specs.declared.views.Basis.{Basis}
use Rattle.shared_book.proofs.Appending.{lawful_legal}
use Rattle.book.specs.Books.{LeaseView}
use Rattle.book.specs.declared.answers.Claimed.{Claimed}
use Rattle.book.specs.declared.answers.Written.{Written}
use Rattle.book.specs.declared.proposal.Proposal.{Proposal}
use Rattle.shared_book.specs.declared.views.View.{View}
use Rattle.shared_book.specs.Lists.{IsIn}
use Rattle.shared_book.specs.MarkSteps.{released}
use Rattle.shared_book.specs.Steps.{SeatView, grown, lease_in}
use Rattle.shared_book.specs.Turns.{HasClaimedIn, HasStoredIn, HasTaken, HasTurn, HasWrittenIn}
use Rattle.shared_book.proofs.Lists.{drop_front, in_left, in_right}
use Rattle.engine_tests.specs.TestSeats.{AreLoadedUnderLow, HasGoneOn}

-- a beginning is not longer
not-longer : (front more whole : List Entry) → front ++ more ≡ whole → length front ≤ length whole
not-longer front more whole same =
    let long = length-append front more in let all = ap length same in omega (arith, long, all)

-- one step after the other
pub on-then : (u v w : View) → HasGoneOn u v → HasGoneOn v w → HasGoneOn u w
on-then u v w one other = record {
  told = other.told ∙ one.told;
  grown = let first = one.grown in let then = other.grown in omega (arith, first, then);
  leases = λ lease held. other.leases lease (one.leases lease held);
}

-- a turn is taken
pub on-taken : (v t : View) → HasTaken v t → HasGoneOn v t
on-taken v t taken = record {
  told = ap (λ (x : View). x.basis.told) taken.view;
  grown = not-longer v.front taken.others t.front taken.goes_on;
  leases = λ lease held. subst (λ (x : View). IsIn lease x.leases) (sym taken.view) held;
}

-- a turn is given back
pub on-released : (t : View) → HasGoneOn t (released t)
on-released t = record { told = refl; grown = omega arith; leases = λ lease held. held }

-- an entry is appended
on-grown : (t w : View) (entry : Entry) → w ≡ grown t w.front → w.front ≡ t.front ++ entry ∷ [] → HasGoneOn t w
on-grown t w entry view appended = record {
  told = ap (λ (x : View). x.basis.told) view;
  grown = not-longer t.front (entry ∷ []) w.front (sym appended);
  leases = λ lease held. subst (λ (x : View). IsIn lease x.leases) (sym view)
      (in_left lease t.leases (lease_in (drop (length t.front) w.front) (length t.front)) held);
}

-- an interval is claimed, and the lease is the seat's
pub on-claimed : (t w : View) (worker interval : ℕ) (answer : Claimed) → HasClaimedIn t w worker interval answer → HasGoneOn t w
on-claimed t w worker interval answer claimed =
    let front : w.front ≡ t.front ++ Claim worker interval ∷ [] = ap (λ (x : View). x.front) claimed.view in
    on-grown t w (Claim worker interval) (claimed.view ∙ ap (grown t) (sym front)) front

pub held-claimed : (t w : View) (worker interval : ℕ) (answer : Claimed) → HasClaimedIn t w worker interval answer
    → IsIn answer.lease w.leases
held-claimed t w worker interval answer claimed =
    let commit = length t.front in
    let last : IsIn answer.lease (lease_in (drop commit (t.front ++ Claim worker interval ∷ [])) commit) =
    subst (λ (es : List Entry). IsIn answer.lease (lease_in es commit)) (sym (drop_front t.front (Claim worker interval ∷ [])))
    (inl claimed.lease) in
    subst (λ (x : View). IsIn answer.lease x.leases) (sym claimed.view)
    (in_right answer.lease t.leases (lease_in (drop commit (t.front ++ Claim worker interval ∷ [])) commit) last)

-- a row is written anew
pub on-written : (t w : View) (lease : LeaseView) (name : RowName) (proposal : Proposal) (row : Contents) (answer : Written)
    → HasWrittenIn t w lease name proposal row answer → HasGoneOn t w
on-written t w lease name proposal row answer written =
    on-grown t w written.written.entry written.view written.written.written.appended

-- a row is settled or purged
pub on-stored : (t w : View) (lease : LeaseView) (name : RowName) (entry : Entry) (row : Contents) (answer : Written)
    → HasStoredIn t w lease name entry row answer → HasGoneOn t w
on-stored t w lease name entry row answer stored = on-grown t w entry stored.view stored.written.appended

-- ---- rows that fit their names

-- a row that fits its name does so later
pub fit-on : (v w : View) (shape : CaseShape) (name : RowName) (row : Contents) → HasGoneOn v w
    → fits shape (length v.front) name row ≡ true → fits shape (length w.front) name row ≡ true
fit-on v w shape name row on is = fits-more shape (length v.front) (length w.front) name row on.grown is

-- and suits its part
pub fit-suits : (shape : CaseShape) (number : ℕ) (name : RowName) (row : Contents) → fits shape number name row ≡ true
    → suits_part shape name.part row ≡ true
fit-suits shape number name row is = first (suits_part shape name.part row) (list_all (is_sent_before shape.topology number) row.pending) is
  where
    first : (a b : Bool) → (a && b) ≡ true → a ≡ true
    first true b e = refl
    first false b e = e

-- ---- what a turn asks and finds

-- over a keeper that tells no row, a row that fitted its name before a turn may be handed in there
pub row-seen : (v t : View) (shape : CaseShape) (lease : LeaseView) (name : RowName) (row : Contents) → HasTaken v t
    → t.basis.case ≡ shape → v.basis.told ≡ None → fits shape (length v.front) name row ≡ true
    → IsRowSeen t.basis.case t.basis.told (length t.front) t.front lease name row
row-seen v t shape lease name row taken of untold is =
    let on = on-taken v t taken in
    record {
      fit = ap (λ (c : CaseShape). fits c (length t.front) name row) of
          ∙ fits-more shape (length v.front) (length t.front) name row on.grown is;
      known = subst (λ (o : Option (Unit {0})). IsRowOf t.basis.case o (known lease.interval lease.seq t.front) name row)
          (sym (on.told ∙ untold)) tt;
    }

-- what a law says of marks: one that is at most a safe mark of each interval of a part is at most the part's low watermark
abbrev SafeAreUnderLow : Type 0
SafeAreUnderLow = (case : CaseShape) (history : List Entry) (part mark : ℕ) → IsRunnable case → IsLegal case history
    → part < parts_of case.topology → IsUnderMarks case (run_of case.topology history) part mark
    → mark ≤ low_watermark case (run_of case.topology history) part

-- what was loaded before a turn is at most the low watermarks in what the turn found
pub loaded-under : (v : View) (seat : SeatView) (shape : CaseShape) → SafeAreUnderLow → HasTaken v seat.0 → HasTurn seat
    → seat.0.basis.case ≡ shape
    → IfSome v.basis.told (λ _. AreLoadedUnderLow shape (run_of shape.topology seat.0.front) v.marks)
loaded-under v seat shape law taken turn of =
    subst (λ (c : CaseShape). IfSome v.basis.told (λ _. AreLoadedUnderLow c (run_of c.topology h) v.marks)) is
    (told-then v.basis.told (λ _. IsLegal v.basis.case h × AreSafe v.basis.case (run_of v.basis.case.topology h) v.marks) _
    (told-both v.basis.told (λ _. IsLegal v.basis.case h) _ legal taken.marks)
    (λ _ p part mark there under. law v.basis.case h part mark runs p.0 there
    (λ interval bounds at among. (mark_of v.marks interval, under interval bounds at among, p.1 interval bounds at))))
  where
    h : List Entry
    h = seat.0.front

    same : seat.0.basis ≡ v.basis
    same = ap (λ (x : View). x.basis) taken.view

    is : v.basis.case ≡ shape
    is = sym (ap (λ (b : Basis). b.case) same) ∙ of

    runs : IsRunnable v.basis.case
    runs = subst (λ (b : Basis). IsRunnable b.case) same turn.core.lawful.runnable

    legal : IfSome v.basis.told (λ _. IsLegal v.basis.case h)
    legal = subst (λ (b : Basis). IfSome b.told (λ _. IsLegal b.case h)) same
        (lawful_legal seat.0.basis h turn.book turn.core.lawful turn.core.whole turn.core.told)

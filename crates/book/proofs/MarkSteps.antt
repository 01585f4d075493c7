-- Claims are of intervals that are there, and marks stay safe, as a book grows.
use Rattle.std.proofs.Common.{◌≡◌, ◌≢◌, ℕ, ◌<◌, ◌==◌, Bool, true, false, cond, List, [], ◌∷◌, ◌++◌, length, refl, sym, ◌∙◌, ap, subst, arith, true≢false}
use Rattle.std.specs.Prelude.{max, Option, Some, None, IfSome, option_map, slice_get}
use Rattle.std.proofs.lemmas.Bool.{eqb-true, eq-eqb}
use Rattle.std.proofs.lemmas.List.{length-set, get_or-set_same, get_or-set_other}
use Rattle.std.proofs.lemmas.Option.{unwrap_or-slice_get}
use Rattle.mw_types.specs.declared.identity.RowName.{RowName}
use Rattle.mw_types.specs.declared.entry.Entry.{Entry}
use Rattle.mw_types.specs.declared.entry.Entry.TheVariants.{Claim, Inject, Handle, Fire, Ack, Purge}
use Rattle.topology.specs.Shapes.{Shape}
use Rattle.row_keeper.specs.Rows.{Rows}
use Rattle.run_history.specs.Cases.{CaseShape, intervals_of}
use Rattle.run_history.specs.Made.{row_written}
use Rattle.run_history.specs.Runs.{Run, run_of}
use Rattle.run_history.specs.Legal.{MayClaim}
use Rattle.run_history.proofs.CaseIntervals.{length-intervals}
use Rattle.run_history.specs.Fences.{is_claim, last_claim}
use Rattle.run_history.specs.Inputs.{IsRunnable}
use Rattle.run_history.specs.Marks.{IsSafe}
use Rattle.list_lemmas.proofs.Lists.{none_some}
use Rattle.run_history.proofs.Claims.{last_claim-push}
use Rattle.history_laws.proofs.MarkLaws.{IsSafe-stays}
use Rattle.history_laws.proofs.ReportLaws.{IsSafe-greater}
use Rattle.watermark.specs.Marks.{mark_of}
use Rattle.book.specs.Books.{CoreView}
use Rattle.book.specs.Lawful.{AreClaimsThere, HoldsRowsOf, IsLawful}
use Rattle.book.specs.Marks.{IsSafeAt, AreSafe, with_mark}

-- ---- claims

-- the last claim of an interval, after an entry that is no claim of it, or a claim of one that is there
claims-by : (shape : Shape) (history : List Entry) (entry : Entry) (interval seq : ℕ) (test : Bool)
    → (test ≡ true → interval < length (intervals_of shape))
    → AreClaimsThere shape history → cond test (Some (length history)) (last_claim interval history) ≡ Some seq
    → interval < length (intervals_of shape)
claims-by shape history entry interval seq true here there last = here refl
claims-by shape history entry interval seq false here there last = there interval seq last

-- an entry on a row claims nothing
written-claims : (entry : Entry) (name : RowName) (interval : ℕ) → row_written entry ≡ Some name → is_claim interval entry ≡ false
written-claims (Claim worker claimed) name interval on = absurd (none_some name on)
written-claims (Inject seq part line item) name interval on = refl
written-claims (Handle seq row id effects) name interval on = refl
written-claims (Fire seq row timer mark effects) name interval on = refl
written-claims (Ack seq row id) name interval on = refl
written-claims (Purge seq row floor) name interval on = refl

-- an entry on a row leaves the claims as they were
pub claims-next : (shape : Shape) (history : List Entry) (entry : Entry) (name : RowName) → row_written entry ≡ Some name
    → AreClaimsThere shape history → AreClaimsThere shape (history ++ entry ∷ [])
claims-next shape history entry name on there interval seq last =
    there interval seq
    (sym (ap (λ b. cond b (Some (length history)) (last_claim interval history)) (written-claims entry name interval on))
    ∙ sym (last_claim-push interval history entry) ∙ last)

-- a claim that may come next is of an interval that is there
pub claims-claim : (case : CaseShape) (history : List Entry) (worker interval : ℕ) → MayClaim case worker interval
    → AreClaimsThere case.topology history → AreClaimsThere case.topology (history ++ Claim worker interval ∷ [])
claims-claim case history worker interval may there other seq last =
    claims-by case.topology history (Claim worker interval) other seq (interval == other)
    (λ same. let is : interval ≡ other = eqb-true interval other same in
    let below = may.interval_there in
    let all = length-intervals case.topology in omega (arith, is, below, all))
    there (sym (last_claim-push other history (Claim worker interval)) ∙ last)

-- ---- marks

-- marks that are safe after a legal history are so after one more entry, where a contract can see the keeper's rows
pub AreSafe-next : (case : CaseShape) (history : List Entry) (entry : Entry) (marks : List ℕ) (told : Option Rows) → IsRunnable case
    → IfSome told (HoldsRowsOf case (history ++ entry ∷ [])) → IfSome told (λ _. AreSafe case (run_of case.topology history) marks)
    → IfSome told (λ _. AreSafe case (run_of case.topology (history ++ entry ∷ [])) marks)
AreSafe-next case history entry marks None runs held safe = tt
AreSafe-next case history entry marks (Some rows) runs held safe =
    λ interval bounds at. IsSafe-stays case history (entry ∷ []) interval bounds (mark_of marks interval) runs held.legal at
    (safe interval bounds at)

-- and so over all of a book, where the marks stay
pub AreSafe-appended : (case : CaseShape) (old new : CoreView) (entry : Entry) → IsRunnable case → new.history ≡ old.history ++ entry ∷ []
    → new.marks ≡ old.marks
    → IfSome new.rows (HoldsRowsOf case new.history) → IfSome new.rows (λ _. AreSafe case (run_of case.topology old.history) old.marks)
    → IfSome new.rows (λ _. AreSafe case (run_of case.topology new.history) new.marks)
AreSafe-appended case old new entry runs appended same held safe =
    subst (λ (l : List ℕ). IfSome new.rows (λ _. AreSafe case (run_of case.topology new.history) l)) (sym same)
    (subst (λ (h : List Entry). IfSome new.rows (λ _. AreSafe case (run_of case.topology h) old.marks)) (sym appended)
    (AreSafe-next case old.history entry old.marks new.rows runs
    (subst (λ (h : List Entry). IfSome new.rows (HoldsRowsOf case h)) appended held) safe))

-- marks are safe where nothing was appended
pub AreSafe-same : (case : CaseShape) (old new : CoreView) → new.history ≡ old.history → new.rows ≡ old.rows → new.marks ≡ old.marks
    → IfSome old.rows (λ _. AreSafe case (run_of case.topology old.history) old.marks)
    → IfSome new.rows (λ _. AreSafe case (run_of case.topology new.history) new.marks)
AreSafe-same case old new history rows same safe =
    subst (λ (l : List ℕ). IfSome new.rows (λ _. AreSafe case (run_of case.topology new.history) l)) (sym same)
    (subst (λ (h : List Entry). IfSome new.rows (λ _. AreSafe case (run_of case.topology h) old.marks)) (sym history)
    (subst (λ o. IfSome o (λ _. AreSafe case (run_of case.topology old.history) old.marks)) (sym rows) safe))

-- what is told of the rows, and not of which they are, is told of them as they are stored
pub told-stored : (P : Type 0) (store : Rows → Rows) (o : Option Rows) → IfSome o (λ _. P) → IfSome (option_map store o) (λ _. P)
told-stored P store None is = tt
told-stored P store (Some rows) is = is

-- the mark of an interval is the one that was put there
pub mark-here : (marks : List ℕ) (interval mark : ℕ) → interval < length marks → mark_of (with_mark interval mark marks) interval ≡ mark
mark-here marks interval mark within =
    unwrap_or-slice_get (with_mark interval mark marks) interval 0 ∙ get_or-set_same marks interval mark 0 within

-- and all others are as they were
pub mark-other : (marks : List ℕ) (interval other mark : ℕ) → other ≢ interval
    → mark_of (with_mark interval mark marks) other ≡ mark_of marks other
mark-other marks interval other mark differs =
    unwrap_or-slice_get (with_mark interval mark marks) other 0 ∙ get_or-set_other marks interval other mark 0 differs
    ∙ sym (unwrap_or-slice_get marks other 0)

-- marks stay safe, once that of an interval is raised to a safe one
pub AreSafe-raised : (case : CaseShape) (run : Run) (marks : List ℕ) (interval mark : ℕ) → interval < length marks → AreSafe case run marks
    → IsSafeAt case run interval mark → AreSafe case run (with_mark interval (max (mark_of marks interval) mark) marks)
AreSafe-raised case run marks interval mark within safe new other bounds at =
    by_test (other == interval) refl
  where
    raised : ℕ
    raised = max (mark_of marks interval) mark

    by_test : (b : Bool) → (other == interval) ≡ b → IsSafe case run bounds (mark_of (with_mark interval raised marks) other)
    by_test true same =
        let is : other ≡ interval = eqb-true other interval same in
        let here : slice_get (intervals_of case.topology) interval ≡ Some bounds = ap (slice_get (intervals_of case.topology)) (sym is)
        ∙ at in
        subst (IsSafe case run bounds)
        (sym (mark-here marks interval raised within) ∙ ap (mark_of (with_mark interval raised marks)) (sym is))
        (IsSafe-greater case run bounds (mark_of marks interval) mark (safe interval bounds here) (new bounds here))
    by_test false apart =
        subst (IsSafe case run bounds)
        (sym (mark-other marks interval other raised (λ same. absurd (true≢false (sym (eq-eqb other interval same) ∙ apart)))))
        (safe other bounds at)

-- there are as many marks, once one is raised
pub length-with_mark : (interval mark : ℕ) (marks : List ℕ) → length (with_mark interval mark marks) ≡ length marks
length-with_mark interval mark marks = length-set marks interval mark

-- a book stays lawful, once the mark of an interval is raised to a safe one
pub IsLawful-raised : (case : CaseShape) (old : CoreView) (interval mark : ℕ) → IsLawful case old
    → interval < length (intervals_of case.topology)
    → IfSome old.rows (λ _. IsSafeAt case (run_of case.topology old.history) interval mark)
    → IsLawful case (record old { marks = with_mark interval (max (mark_of old.marks interval) mark) old.marks })
IsLawful-raised case old interval mark lawful there new = record {
  runnable = lawful.runnable;
  limit = lawful.limit;
  few = lawful.few;
  fenced = lawful.fenced;
  claims = lawful.claims;
  printable = lawful.printable;
  lines = lawful.lines;
  held = lawful.held;
  left = lawful.left;
  senders = lawful.senders;
  marks = length-with_mark interval (max (mark_of old.marks interval) mark) old.marks ∙ lawful.marks;
  safe = by_told old.rows lawful.safe new;
}
  where
    raised : List ℕ
    raised = with_mark interval (max (mark_of old.marks interval) mark) old.marks

    by_told : (told : Option Rows) → IfSome told (λ _. AreSafe case (run_of case.topology old.history) old.marks)
        → IfSome told (λ _. IsSafeAt case (run_of case.topology old.history) interval mark)
        → IfSome told (λ _. AreSafe case (run_of case.topology old.history) raised)
    by_told None safe new = tt
    by_told (Some rows) safe new = AreSafe-raised case (run_of case.topology old.history) old.marks interval mark
        (omega (arith, there, lawful.marks)) safe new

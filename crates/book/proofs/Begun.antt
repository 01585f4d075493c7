-- A book in which nothing has happened is lawful.
use Rattle.std.proofs.Common.{◌≡◌, ◌≤◌, ◌^◌, ◌++◌, ◌∷◌, ℕ, List, [], All, IfSome, None, Some, Option, length, replicate, refl, sym, ◌∙◌, ap, subst, arith, length-append, is_some, true≢false, zero, suc}
use Rattle.std.proofs.lemmas.List.{length-replicate}
use Rattle.mw_types.specs.declared.entry.Entry.{Entry}
use Rattle.row_keeper.specs.Rows.{Rows}
use Rattle.topology.specs.Shapes.{Shape}
use Rattle.run_history.specs.Cases.{CaseShape, intervals_of}
use Rattle.run_history.specs.Runs.{empty_run, run_of}
use Rattle.run_history.specs.Fences.{IsFenced}
use Rattle.run_history.specs.Finished.{unfinished}
use Rattle.run_history.specs.HistoryLines.{HasLine}
use Rattle.run_history.specs.Marks.{IsSafe}
use Rattle.run_history.specs.Inputs.{IsRunnable}
use Rattle.run_history.specs.Printing.{IsPrintable}
use Rattle.watermark.specs.Marks.{mark_of}
use Rattle.book.specs.Books.{CoreView}
use Rattle.book.specs.Lawful.{AreClaimsThere, HoldsRowsOf, IsLawful}
use Rattle.book.specs.Marks.{AreSafe}
use Rattle.book.specs.Senders.{AreSenders}

-- no entry is there that has to be fenced
nothing-fenced : (shape : Shape) → IsFenced shape []
nothing-fenced shape before entry begins =
    absurd (omega (arith, ap length begins.1, length-append (before ++ entry ∷ []) begins.0, length-append before (entry ∷ [])))

-- and none that has to be printed
nothing-printed : (shape : Shape) → IsPrintable shape []
nothing-printed shape = record {
  few = omega arith;
  parts = λ k d below. absurd (omega arith);
  productions = λ k d below. absurd (omega arith);
}

-- a keeper without rows holds those of no entry
nothing-held : (case : CaseShape) (rows : Option Rows) → IfSome rows (λ r. r ≡ []) → IfSome rows (HoldsRowsOf case [])
nothing-held case None none = tt
nothing-held case (Some rows) none = record { legal = tt; stored = none; kept = tt }

-- and nothing was sent
nothing-sent : (shape : Shape) → AreSenders shape empty_run []
nothing-sent shape id name =
    ((λ is. absurd (true≢false (sym (ap is_some is)))), (λ some. absurd (true≢false (sym some))))

-- what is so of any rows is so of these
whatever : {P : Type 0} (rows : Option Rows) → P → IfSome rows (λ _. P)
whatever None p = tt
whatever (Some rows) p = p

-- each mark is 0, and safe
mark-none : (n interval : ℕ) → mark_of (replicate n 0) interval ≡ 0
mark-none zero interval = refl
mark-none (suc n) zero = refl
mark-none (suc n) (suc interval) = mark-none n interval

nothing-safe : (case : CaseShape) (n : ℕ) → AreSafe case empty_run (replicate n 0)
nothing-safe case n interval bounds there = subst (λ m. IsSafe case empty_run bounds m) (sym (mark-none n interval))
    (record { own = omega arith; inputs = λ k d below. omega arith })

-- no entry, no row and no mark above 0
pub lawful_begun : (case : CaseShape) (core : CoreView) → IsRunnable case → core.limit ≤ 2 ^ 32 → core.history ≡ []
    → IfSome core.rows (λ rows. rows ≡ []) → core.work ≡ unfinished case empty_run → core.unacknowledged ≡ []
    → core.marks ≡ replicate (length (intervals_of case.topology)) 0 → IsLawful case core
lawful_begun case core runnable limit none rows work sent marks = record {
  runnable = runnable;
  limit = limit;
  few = omega (arith, ap length none);
  fenced = subst (IsFenced case.topology) (sym none) (nothing-fenced case.topology);
  claims = subst (AreClaimsThere case.topology) (sym none) (λ interval seq is. absurd (true≢false (sym (ap is_some is))));
  printable = subst (IsPrintable case.topology) (sym none) (nothing-printed case.topology);
  lines = subst (All HasLine) (sym none) (λ k d below. absurd (omega arith));
  held = subst (λ (h : List Entry). IfSome core.rows (HoldsRowsOf case h)) (sym none) (nothing-held case core.rows rows);
  left = whatever core.rows (work ∙ sym (ap (λ (h : List Entry). unfinished case (run_of case.topology h)) none));
  senders = subst (λ (h : List Entry). AreSenders case.topology (run_of case.topology h) core.unacknowledged) (sym none)
      (subst (AreSenders case.topology empty_run) (sym sent) (nothing-sent case.topology));
  marks = ap length marks ∙ length-replicate _ 0;
  safe = whatever core.rows (subst (λ (h : List Entry). AreSafe case (run_of case.topology h) core.marks) (sym none)
      (subst (AreSafe case empty_run) (sym marks) (nothing-safe case _)));
}

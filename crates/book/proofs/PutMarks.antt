-- A lawful book with other safe marks, as many as before, is lawful.
use Rattle.std.proofs.Common.{◌≡◌, ℕ, List, length}
use Rattle.std.specs.Prelude.{IfSome}
use Rattle.run_history.specs.Cases.{CaseShape, intervals_of}
use Rattle.run_history.specs.Runs.{run_of}
use Rattle.book.specs.Books.{CoreView}
use Rattle.book.specs.Lawful.{IsLawful}
use Rattle.book.specs.Marks.{AreSafe}

pub IsLawful-marked : (case : CaseShape) (old : CoreView) (marks : List ℕ) → IsLawful case old
    → length marks ≡ length (intervals_of case.topology)
    → IfSome old.rows (λ _. AreSafe case (run_of case.topology old.history) marks)
    → IsLawful case (record old { marks = marks })
IsLawful-marked case old marks lawful long safe = record {
  runnable = lawful.runnable;
  limit = lawful.limit;
  few = lawful.few;
  fenced = lawful.fenced;
  claims = lawful.claims;
  printable = lawful.printable;
  lines = lawful.lines;
  held = lawful.held;
  left = lawful.left;
  senders = lawful.senders;
  marks = long;
  safe = safe;
}

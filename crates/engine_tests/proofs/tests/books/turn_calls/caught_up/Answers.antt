use Rattle.std.proofs.Common.{◌≡◌, rules, subst, sym}
use Rattle.std.specs.Prelude.{IfSome}
use Rattle.run_history.specs.Runs.{run_of}
use Rattle.shared_book.specs.MarkSteps.{released}
use Rattle.shared_book.specs.declared.views.View.{View}
use Rattle.engine_tests.specs.TestSeats.{AreLoadedUnderLow}
use Rattle.engine_tests.proofs.TestTurnLaws.{loaded-under}
use Rattle.engine_tests.proofs.tests.books.turn_calls.caught_up.Goals as goal

-- what was loaded is under the low watermarks of what the turn found
pub returns-clause-low : goal.returns-clause-low
returns-clause-low g c =
    let v = c.args.seat.now.place.me.0 in
    let case = c.args.shared.now.case.now in
    let t = c.in-Ok.turn.seat.now.place.me.0 in
    let last : c.seat-1.given.0.place.me.0 ≡ released t = search rules in
    subst (λ (u : View). IfSome v.basis.told (λ _. AreLoadedUnderLow case (run_of case.topology u.front) v.marks)) (sym last)
    (loaded-under v c.in-Ok.turn.seat.now.place.me case c.safe_marks_are_under_low_watermarks.ensures.low
    c.in-Ok.ensures.taken c.in-Ok.ensures.turn c.in-Ok.ensures.here.case)

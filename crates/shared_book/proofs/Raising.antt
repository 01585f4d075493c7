-- What a seat's call to raise a mark asks of the step.
use Rattle.std.proofs.Common.{◌≡◌, ◌≤◌, ◌==◌, ℕ, suc, Bool, true, false, cond, take, refl, ap, arith}
use Rattle.std.specs.Prelude.{min}
use Rattle.std.proofs.lemmas.Bool.{eqb-true}
use Rattle.key_intervals.specs.declared.bounds.Bounds.{Bounds}
use Rattle.run_history.specs.Marks.{own_work}
use Rattle.run_history.specs.Runs.{run_of}
use Rattle.book.specs.Books.{LeaseView}
use Rattle.book.proofs.SeenRows.{told-then}
use Rattle.shared_book.specs.declared.views.Settled.{Settled}
use Rattle.shared_book.specs.declared.views.View.{View}
use Rattle.shared_book.specs.Lists.{IsIn}
use Rattle.shared_book.specs.MarkSteps.{IsOwnSettled, MayRaise}
use Rattle.shared_book.specs.Places.{input_under, place_of}

-- the lesser of the own work and of the settled input mark may be raised to
pub may-raise : (v : View) (lease : LeaseView) (own mark : ℕ) → IsIn lease v.leases → IsOwnSettled v lease own
    → mark ≡ min own (input_under v lease) → MayRaise v lease mark
may-raise v lease own mark held is least = record {
  held = held;
  input = omega (arith, least);
  own = told-then v.basis.told _ _ is (λ _ work bounds at. by_test bounds (place.claim == suc lease.seq) refl (work bounds at));
}
  where
    place : Settled
    place = place_of v.settled lease.interval

    by_test : (bounds : Bounds) (b : Bool) → (place.claim == suc lease.seq) ≡ b
        → (place.claim ≡ suc lease.seq → own ≡ own_work v.basis.case (run_of v.basis.case.topology (take place.base v.front)) bounds)
        → mark ≤ own_work v.basis.case (run_of v.basis.case.topology (take place.base v.front)) bounds
    by_test bounds true same work = let here = work (eqb-true place.claim (suc lease.seq) same) in omega (arith, least, here)
    by_test bounds false other work = let none : input_under v lease ≡ 0 = ap (λ b. cond b place.input 0) other in omega (arith, least, none)

use Rattle.shared_book.specs.Turns.{HasReloaded, IsHere}
use Rattle.shared_book.proofs.put_back.reload.Given as goal

-- so many marks were loaded
abbrev pub invariant-loop-interval : goal.invariant-loop-interval
invariant-loop-interval g l = IsHere l.fn.shared.table.shared.table_id l.fn.shared.case.now l.seat.place
    × HasReloaded l.initial.seat.place.me l.seat.place.me

use Rattle.shared_book.specs.Settling.{AreSettledTo, IsFed}
use Rattle.shared_book.proofs.settling.settle.Given as goal

-- so many input marks are settled, and a part is told with its least mark, or none
abbrev pub invariant-loop-interval : goal.invariant-loop-interval
invariant-loop-interval g l =
    AreSettledTo l.fn.book.case.topology l.fn.book.history l.fn.marks l.fn.claims l.fn.inputs l.interval l.settled
    × IsFed l.fn.book.case.topology l.fn.marks l.last

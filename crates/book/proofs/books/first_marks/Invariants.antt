use Rattle.std.proofs.Common.{◌≡◌, replicate}
use Rattle.book.proofs.books.first_marks.Given as goal

-- a mark of 0 for each interval so far
abbrev pub invariant-loop : goal.invariant-loop
invariant-loop l = l.marks.items ≡ replicate l.counter 0

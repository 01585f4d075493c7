use Rattle.std.specs.Prelude.{max, slice_index}
use Rattle.shared_book.specs.Settling.{IsFilledTo}
use Rattle.shared_book.proofs.joined_arrays.greater_of.Given as goal

-- so many numbers are the greater
abbrev pub invariant-loop-at : goal.invariant-loop-at
invariant-loop-at l = IsFilledTo (λ k. max (slice_index l.fn.one k) (slice_index l.fn.other k)) l.fn.one l.at l.greater

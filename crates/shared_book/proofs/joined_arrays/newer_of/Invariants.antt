use Rattle.std.specs.Prelude.{cond, nat_lt, slice_index}
use Rattle.shared_book.specs.Settling.{IsFilledTo}
use Rattle.shared_book.proofs.joined_arrays.newer_of.Given as goal

-- so many numbers are of the newer
abbrev pub invariant-loop-at : goal.invariant-loop-at
invariant-loop-at l = IsFilledTo
    (λ k. cond (nat_lt (slice_index l.fn.claims k) (slice_index l.fn.other_claims k)) (slice_index l.fn.other k) (slice_index l.fn.one k))
    l.fn.one l.at l.newer

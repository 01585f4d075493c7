use Rattle.std.proofs.Common.{◌≡◌, ℕ, [], get_or, length}
use Rattle.audit.proofs.works.no_works.Given as goal

-- there are so many parts so far, and none has work
abbrev pub invariant-loop-part : goal.invariant-loop-part
invariant-loop-part l = record {
  many : length l.works.items ≡ l._part;
  none : (p : ℕ) → get_or l.works.items p [] ≡ [];
}

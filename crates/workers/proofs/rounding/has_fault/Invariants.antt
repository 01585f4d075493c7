use Rattle.std.proofs.Common.{◌≡◌, ◌<◌, ℕ}
use Rattle.std.specs.Prelude.{None, slice_index_or}
use Rattle.workers.proofs.rounding.has_fault.Given as goal

-- none so far has a fault
abbrev pub invariant-loop-worker : goal.invariant-loop-worker
invariant-loop-worker g l = (at : ℕ) (d : _) → at < l.worker-index → (slice_index_or l.crew at d).fault ≡ None

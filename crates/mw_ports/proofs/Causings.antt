-- A count that goes up where a refusal comes is that refusal's cause.
use Rattle.std.proofs.Common.{ℕ, Result, Ok, Err, OnErr, IsErrOf, arith}
use Rattle.mw_types.specs.Causes.{HasCause, Counts}

-- counted where this happened, it is the cause of each refusal that comes only where this happened
pub cause_of : {T E : Type 0} {happened : Type 0} (before now : ℕ) (result : Result T E) (refusal : E)
    → (IsErrOf result refusal → happened) → Counts happened before now → HasCause before now result refusal
cause_of before now result refusal only counts = record {
  later = counts.later;
  rose = λ came. let up = counts.up (only came) in omega arith;
}

-- what holds anyway holds at a refusal
pub OnErr-always : {T E P : Type 0} (result : Result T E) → P → OnErr result P
OnErr-always (Ok value) fact = tt
OnErr-always (Err refusal) fact = fact

-- Why a call may answer that the outside world failed or lacked something: a count rose in that call. Own.
-- A count that has reached its last value stays there, and then counts as one that rose.
use Rattle.std.specs.Prelude.{◌≡◌, ◌≤◌, ◌+◌, ◌-◌, ◌^◌, ℕ, min, Result, IsErrOf}

-- the count after one more
abbrev pub raised : ℕ → ℕ
raised count = min (count + 1) (2 ^ 64 - 1)

-- the count rose, or stands at its last value
abbrev pub Rose : ℕ → ℕ → Type 0
Rose before now = raised before ≤ now

-- the count never falls, and this refusal comes only where it rose
pub record HasCause {T E : Type 0} (before now : ℕ) (result : Result T E) (refusal : E) : Type 0 where
  pub later : before ≤ now
  pub rose : IsErrOf result refusal → Rose before now

-- the count goes up by one where this happened, and else stays
pub record Counts (happened : Type 0) (before now : ℕ) : Type 0 where
  pub later : before ≤ now
  pub up : happened → now ≡ raised before
  pub same : ¬ happened → now ≡ before

-- When a count rose.
use Rattle.std.proofs.Common.{ℕ, ◌≤◌, arith}
use Rattle.mw_types.specs.Causes.{Rose}

-- a count that rose after it had not fallen rose in all
pub Rose-before : (a b c : ℕ) → a ≤ b → Rose b c → Rose a c
Rose-before a b c le rose = omega (arith, le, rose)

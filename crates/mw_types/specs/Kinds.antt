-- Which numbers a kind of computation may have. Own.
use Rattle.std.specs.Prelude.{◌≤◌, ◌^◌, ⊤}
use Rattle.mw_types.specs.declared.kind.Kind.{Kind}
use Rattle.mw_types.specs.declared.kind.Kind.TheVariants.{Count, Spike, Pass}

-- windows last 1 to 2^40 microseconds; a spike compares a total with 1 to 64 before it,
-- and asks for 1 to 1,000 times their mean
abbrev pub IsKind : Kind → Type 0
IsKind (Count size) = (1 ≤ size) × (size ≤ 2 ^ 40)
IsKind (Spike last times) = (1 ≤ last) × (last ≤ 64) × (1 ≤ times) × (times ≤ 1000)
IsKind Pass = ⊤

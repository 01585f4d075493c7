-- How steps that may refuse follow one another, and what a refusal says of the whole. Own.
use Rattle.std.specs.Prelude.{◌≡◌, ◌≢◌, Result, Ok, Err}

-- what the second gives of what the first gave, or why the first gave nothing
abbrev pub and_then : {A B E : Type 0} → Result A E → (A → Result B E) → Result B E
and_then (Ok x) f = f x
and_then (Err why) f = Err why

-- a refusal is that of the whole, unless it is that memory ran out
abbrev pub IsRefusalOf : {A E : Type 0} → E → Result A E → E → Type 0
IsRefusalOf no_memory whole refusal = refusal ≢ no_memory → whole ≡ Err refusal

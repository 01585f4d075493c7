-- What a text holds. No public clause cites this module.
use Rattle.std.specs.Prelude.{ℕ, List, string_bytes}
use Rattle.mw_types.specs.declared.text.Held.{Held}
use Rattle.mw_types.specs.declared.text.Held.TheVariants.{Short, Long}

-- the bytes of a text in the value itself, or of one on the heap
abbrev pub held_bytes : Held → List ℕ
held_bytes (Short text) = text
held_bytes (Long text) = string_bytes text

-- How long a history may be. Own.
use Rattle.std.specs.Prelude.{ℕ, ◌^◌}

-- how many entries a history may have
abbrev pub history_limit : ℕ
history_limit = 2 ^ 32

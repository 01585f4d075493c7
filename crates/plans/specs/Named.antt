-- What a word of a line names, in plans of either mode. Own.
use Rattle.std.specs.Prelude.{ℕ, List, Option}
use Rattle.text_lines.specs.Numbers.{below}
use Rattle.topology.specs.Shapes.{Shape}
use Rattle.topology.specs.Rules.{interval_count}

-- the interval that a word names
abbrev pub interval_in : Shape → List ℕ → Option ℕ
interval_in shape word = below (interval_count shape) word

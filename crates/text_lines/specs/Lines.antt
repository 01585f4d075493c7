-- Which lines a text has. Own.
-- A line ends at a line feed, which the last one may lack, and one carriage return at its end is no part of it.
use Rattle.std.specs.Prelude.{ℕ, ◌-◌, ◌==◌, List, [], ◌∷◌, length, map, take, slice_index, if◌then◌else◌}
use Rattle.std.specs.List.{slice_split}

-- the last part of a text is a line where it is not empty
abbrev pub last_line : List ℕ → List (List ℕ)
last_line [] = []
last_line (b ∷ bs) = (b ∷ bs) ∷ []

-- the parts between line feeds, but for an empty one at the end
abbrev pub without_empty_end : List (List ℕ) → List (List ℕ)
without_empty_end [] = []
without_empty_end (part ∷ []) = last_line part
without_empty_end (part ∷ (next ∷ parts)) = part ∷ without_empty_end (next ∷ parts)

-- a line without the one carriage return at its end
abbrev pub without_return : List ℕ → List ℕ
without_return line = if slice_index line (length line - 1) == 13 then take (length line - 1) line else line

-- the lines of a text
abbrev pub lines_of : List ℕ → List (List ℕ)
lines_of bytes = map without_return (without_empty_end (slice_split (λ b. b == 10) bytes))

-- What the mode `load` runs: a topology of its own, and event lines that a seed decides. Own.
use Rattle.std.specs.Prelude.{ℕ, zero, suc, ◌+◌, ◌*◌, ◌%◌, ◌==◌, List, [], ◌∷◌, ◌++◌, codes, decimal, if◌then◌else◌}

-- the topology of load: one injector, and a count over windows of 60, in three intervals
abbrev pub load_topology : List ℕ
load_topology =
    codes "{\"injectors\":[{\"name\":\"clicks\",\"stream\":\"raw\"}],\"computations\":[{\"name\":\"per_minute\",\"kind\":\"count\",\"size\":60,\"reads\":[{\"stream\":\"raw\",\"by\":\"key\"}],\"stream\":\"windows\",\"cuts\":[\"h\",\"q\"]}]}"

-- the number that is drawn after another
abbrev pub drawn_after : ℕ → ℕ
drawn_after x = (75 * x + 74) % 65537

-- the number that is drawn so often from a seed
abbrev pub drawn : ℕ → ℕ → ℕ
drawn seed zero = seed % 65537
drawn seed (suc n) = drawn_after (drawn seed n)

-- the record line of this number, from 0, by the number that is drawn for it: its key is one of the letters
-- from a to z, and its timestamp lies less than 100 behind ten times its number
abbrev pub record_line : ℕ → ℕ → List ℕ
record_line line number =
    codes "{\"key\":\"" ++ ((97 + number % 26)
    ∷ (codes "\",\"ts\":" ++ (decimal (10 * line + number % 100) ++ codes "}\n")))

-- what stands behind the record line of this number: a watermark line after each fifty
abbrev pub mark_line : ℕ → List ℕ
mark_line line = if (line + 1) % 50 == 0
    then codes "{\"watermark\":" ++ (decimal (10 * (line + 1) + 20) ++ codes "}\n") else []

-- so many record lines by this seed, with the watermark lines between them
abbrev pub load_text : ℕ → ℕ → List ℕ
load_text seed zero = []
load_text seed (suc n) = load_text seed n ++ (record_line n (drawn seed (suc n)) ++ mark_line n)

-- What a sink has been given. Own.
use Rattle.std.specs.Prelude.{◌≡◌, ◌≤◌, ℕ, List, Option, length, take}
use Rattle.std.specs.Io.KnownBytes.{append_known}

-- a beginning of the piece was appended, and nothing else
abbrev pub AppendsPrefix : List ℕ → Option (List ℕ) → Option (List ℕ) → Type 0
AppendsPrefix piece old new = (count : ℕ) × (count ≤ length piece) × (new ≡ append_known old (take count piece))

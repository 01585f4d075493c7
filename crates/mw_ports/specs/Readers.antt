-- What is taken from an open file, where a contract can see what its reader has left. No public clause cites
-- this module. Own.
use Rattle.std.specs.Prelude.{◌≡◌, ◌<◌, ◌≤◌, ◌++◌, ℕ, List, Option, Some, IfSome, Result, length}
use Rattle.std.specs.Io.KnownBytes.{Consumes}
use Rattle.mw_ports.specs.declared.shelf.ShelfFault.{ShelfFault}
use Rattle.mw_ports.specs.Shelves.{ReadsFile}

-- the answer is that of a file which has what the reader has left
abbrev pub ReadsAll : Option (List ℕ) → ℕ → Result (List ℕ) ShelfFault → Type 0
ReadsAll left limit result = IfSome left (λ bytes. ReadsFile (Some bytes) limit result)

-- so many bytes were taken, and stand behind those that were there
abbrev pub Moves : Option (List ℕ) → Option (List ℕ) → List ℕ → List ℕ → ℕ → Type 0
Moves left_old left_new old new count = (bytes : List ℕ) × (length bytes ≡ count) × (new ≡ old ++ bytes) × Consumes left_old left_new bytes

-- more bytes were taken than this
abbrev pub TakesMoreThan : ℕ → Option (List ℕ) → Option (List ℕ) → Type 0
TakesMoreThan limit old new = (bytes : List ℕ) × (limit < length bytes) × Consumes old new bytes

-- no more bytes were taken than this
abbrev pub TakesAtMost : ℕ → Option (List ℕ) → Option (List ℕ) → Type 0
TakesAtMost most old new = (bytes : List ℕ) × (length bytes ≤ most) × Consumes old new bytes

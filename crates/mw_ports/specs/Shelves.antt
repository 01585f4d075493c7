-- What a shelf holds, and what a read of it may answer. Own.
use Rattle.std.specs.Prelude.{◌≡◌, ◌<◌, ◌⊎◌, ℕ, List, Option, Some, None, Result, length, IfOk, IsErrOf, IsSomeAnd}
use Rattle.mw_ports.specs.declared.shelf.ShelfFault.{ShelfFault}
use Rattle.mw_ports.specs.declared.shelf.ShelfFault.TheVariants.{Missing, TooLong}

-- the bytes of each file by its name, and none where there is no such file
abbrev pub Files : Type 0
Files = List ℕ → Option (List ℕ)

-- what a read says of the file of that name, where a contract can see the shelf's files
pub record ReadsFile (found : Option (List ℕ)) (limit : ℕ) (result : Result (List ℕ) ShelfFault) : Type 0 where
  pub bytes : IfOk result (λ bytes. found ≡ Some bytes)
  pub missing : IsErrOf result Missing → found ≡ None
  pub too_long : IsErrOf result TooLong → IsSomeAnd found (λ bytes. limit < length bytes)

-- the file is not there, or too long
abbrev pub IsLack : Result (List ℕ) ShelfFault → Type 0
IsLack result = IsErrOf result Missing ⊎ IsErrOf result TooLong

-- how often the outside world failed, and how often something was not there or too long
pub record ShelfCounts : Type 0 where
  pub faults : ℕ
  pub lacks : ℕ

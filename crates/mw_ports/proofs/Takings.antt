-- What was taken from a reader, and what it says of all that the reader had.
use Rattle.std.proofs.Common.{◌≡◌, ◌<◌, ◌+◌, ◌++◌, ◌∙◌, ℕ, List, Option, Some, None, Result, Ok, IsErr, IsErrOf, sym, ap, subst, length, append_assoc, append-nil, arith}
use Rattle.std.proofs.lemmas.List.{length-append}
use Rattle.std.proofs.lemmas.Result.{IfOk-from_err}
use Rattle.std.specs.Io.KnownBytes.{Consumes, IsAtEnd}
use Rattle.mw_ports.specs.declared.shelf.ShelfFault.{ShelfFault}
use Rattle.mw_ports.specs.declared.shelf.ShelfFault.TheVariants.{Missing, TooLong}
use Rattle.mw_ports.specs.Readers.{Moves, ReadsAll, TakesMoreThan, TakesAtMost}

-- one thing taken behind another
pub Consumes-append : (a b c : Option (List ℕ)) (xs ys : List ℕ) → Consumes a b xs → Consumes b c ys → Consumes a c (xs ++ ys)
Consumes-append None b c xs ys took more = tt
Consumes-append (Some l) None c xs ys took more = absurd took
Consumes-append (Some l) (Some m) None xs ys took more = absurd more
Consumes-append (Some l) (Some m) (Some n) xs ys took more =
    took ∙ ap (λ rest. xs ++ rest) more ∙ sym (append_assoc xs ys n)

-- what was taken up to the end is all
pub ReadsFile-all : (a b : Option (List ℕ)) (xs : List ℕ) (limit : ℕ) → Consumes a b xs → IsAtEnd b
    → ReadsAll a limit (Ok xs)
ReadsFile-all None b xs limit took ended = tt
ReadsFile-all (Some l) None xs limit took ended = absurd took
ReadsFile-all (Some l) (Some m) xs limit took ended = record {
  bytes = ap Some (took ∙ ap (λ rest. xs ++ rest) ended ∙ append-nil xs);
  missing = λ e. cc;
  too_long = λ e. cc;
}

-- a reader from which more was taken has more
pub longer : (l : List ℕ) (b : Option (List ℕ)) (limit : ℕ) → TakesMoreThan limit (Some l) b → limit < length l
longer l None limit over = absurd over.2
longer l (Some m) limit over = omega (arith, ap length over.2 ∙ length-append over.0 m, over.1)

-- a refusal that is no lack, or of a reader that has too much
pub ReadsFile-refused : (a b : Option (List ℕ)) (limit : ℕ) (result : Result (List ℕ) ShelfFault) → IsErr result
    → (IsErrOf result Missing → ⊥) → (IsErrOf result TooLong → TakesMoreThan limit a b)
    → ReadsAll a limit result
ReadsFile-refused None b limit result refused here over = tt
ReadsFile-refused (Some l) b limit result refused here over = record {
  bytes = IfOk-from_err result (λ bytes. Some l ≡ Some bytes) refused;
  missing = λ came. absurd (here came);
  too_long = λ came. longer l b limit (over came);
}

-- what was moved behind what had been taken was taken too
pub Consumes-moves : (a b c : Option (List ℕ)) (old new : List ℕ) (count : ℕ) → Consumes a b old → Moves b c old new count
    → Consumes a c new
Consumes-moves a b c old new count took moved =
    subst (Consumes a c) (sym moved.2) (Consumes-append a b c old moved.0 took moved.3)

-- more than what is left of the limit, behind what had been taken, is more than the limit
pub TakesMoreThan-all : (a b c : Option (List ℕ)) (old : List ℕ) (left limit : ℕ) → length old + left ≡ limit → Consumes a b old
    → TakesMoreThan left b c → TakesMoreThan limit a c
TakesMoreThan-all a b c old left limit sum took over = (
  old ++ over.0,
  omega (arith, length-append old over.0, sum, over.1),
  Consumes-append a b c old over.0 took over.2,
)

-- at most one above what is left of the limit, behind what had been taken, is at most one above the limit
pub TakesAtMost-all : (a b c : Option (List ℕ)) (old : List ℕ) (left limit : ℕ) → length old + left ≡ limit → Consumes a b old
    → TakesAtMost (left + 1) b c → TakesAtMost (limit + 1) a c
TakesAtMost-all a b c old left limit sum took most = (
  old ++ most.0,
  omega (arith, length-append old most.0, sum, most.1),
  Consumes-append a b c old most.0 took most.2,
)

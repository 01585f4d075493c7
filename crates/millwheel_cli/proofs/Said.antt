-- What stands on standard error after a line was said, whole or not.
use Rattle.std.proofs.Common.{◌≡◌, ◌∙◌, ℕ, List, Option, Result, Ok, Err, OnOk, OnErr, length, sym, ap, arith}
use Rattle.std.proofs.lemmas.List.{take_all}
use Rattle.std.specs.Io.KnownBytes.{append_known}
use Rattle.mw_ports.specs.Sinks.{AppendsPrefix}

-- the whole of a line is a beginning of it, so that one was written in either case
pub AppendsPrefix-either : {T E : Type 0} (line : List ℕ) (old new : Option (List ℕ)) (result : Result T E)
    → OnOk result (new ≡ append_known old line) → OnErr result (AppendsPrefix line old new) → AppendsPrefix line old new
AppendsPrefix-either line old new (Ok value) whole part =
    (length line, omega arith, whole ∙ ap (append_known old) (sym (take_all (length line) line (omega arith))))
AppendsPrefix-either line old new (Err fault) whole part = part

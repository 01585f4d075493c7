-- What holds of the first of two values that is there.
use Rattle.std.proofs.Common.{◌≡◌, Option, Some, None, IfSome, sym, subst}
use Rattle.std.specs.Option.{option_or}

-- it holds of whichever it is, where it holds of each
pub of-either : {X : Type 0} (P : X → Type 0) (one other chosen : Option X) → chosen ≡ option_or one other
    → IfSome one P → IfSome other P → IfSome chosen P
of-either P None other chosen is first second = subst (λ o. IfSome o P) (sym is) second
of-either P (Some x) other chosen is first second = subst (λ o. IfSome o P) (sym is) first

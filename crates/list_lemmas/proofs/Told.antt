-- What is said where an option or a result has a value.
use Rattle.std.proofs.Common.{◌≡◌, refl, sym, subst}
use Rattle.std.specs.Prelude.{Option, Some, None, IsSome, IfSome, Result, Ok, Err, OnErr, OnOk}

-- what holds anyway holds where there is a value
pub if-anyway : {X : Type 0} (o : Option X) (P : Type 0) → P → IfSome o (λ _. P)
if-anyway None P is = tt
if-anyway (Some x) P is = is

-- what follows from there being a value holds where there is one
pub if-there : {X : Type 0} {P : Type 0} (o : Option X) → (IsSome o → P) → IfSome o (λ _. P)
if-there None f = tt
if-there (Some x) f = f refl

-- what follows from what is said where one option has a value is said where an equal one has
pub if-same : {X : Type 0} (old new : Option X) (P Q : Type 0) → new ≡ old → (P → Q) → IfSome old (λ _. P) → IfSome new (λ _. Q)
if-same {X = X} None new P Q same step was = subst (λ (o : Option X). IfSome o (λ _. Q)) (sym same) tt
if-same {X = X} (Some x) new P Q same step was = subst (λ (o : Option X). IfSome o (λ _. Q)) (sym same) (step was)

-- what follows from what is said of Ok is said of Ok
pub on_ok-map : {T E P Q : Type 0} (result : Result T E) → (P → Q) → OnOk result P → OnOk result Q
on_ok-map (Ok x) f is = f is
on_ok-map (Err why) f is = tt

-- what holds anyway holds after a refusal
pub on_err-anyway : {T E P : Type 0} (result : Result T E) → P → OnErr result P
on_err-anyway (Ok x) is = tt
on_err-anyway (Err why) is = is

-- and where nothing was refused
pub on_ok-anyway : {T E P : Type 0} (result : Result T E) → P → OnOk result P
on_ok-anyway (Ok x) is = is
on_ok-anyway (Err why) is = tt

-- From what a call says of its result to what its caller does.
use Rattle.std.specs.Prelude.{Result, Ok, Err, IfOk, IfErr}

-- of what is answered
pub ok-then : {T E : Type 0} {P Q : T → Type 0} (r : Result T E) → ((x : T) → P x → Q x) → IfOk r P → IfOk r Q
ok-then (Ok x) f is = f x is
ok-then (Err e) f is = tt

-- of what is answered, by two facts
pub ok-both : {T E : Type 0} {P Q S : T → Type 0} (r : Result T E) → ((x : T) → P x → Q x → S x) → IfOk r P → IfOk r Q → IfOk r S
ok-both (Ok x) f one two = f x one two
ok-both (Err e) f one two = tt

-- of a refusal
pub err-then : {T E : Type 0} {P Q : E → Type 0} (r : Result T E) → ((e : E) → P e → Q e) → IfErr r P → IfErr r Q
err-then (Ok x) f is = tt
err-then (Err e) f is = f e is

-- what holds of each refusal holds of one
pub err-any : {T E : Type 0} {Q : E → Type 0} (r : Result T E) → ((e : E) → Q e) → IfErr r Q
err-any (Ok x) f = tt
err-any (Err e) f = f e

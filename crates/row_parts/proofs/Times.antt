-- Reading values one after the other, as a loop does.
use Rattle.std.proofs.Common.{◌≡◌, ℕ, suc, ◌-◌, ◌+◌, ◌≤◌, ◌<◌, List, [], ◌∷◌, ◌++◌, Option, Some, None, length, get_or, take, refl, sym, ap, subst, ◌∙◌, append_assoc, arith}
use Rattle.std.proofs.lemmas.List.{append-nil, take_more, flat_map_more}
use Rattle.std.proofs.lemmas.List.Elements.{All-push}
use Rattle.std.specs.Prelude.{All}
use Rattle.std.specs.List.{flat_map}
use Rattle.row_parts.specs.declared.refusal.StateRefusal.{StateRefusal}
use Rattle.row_parts.specs.declared.refusal.StateRefusal.TheVariants as refusals
use Rattle.row_parts.specs.Reading.{◌>>=◌, Fails, times_at}

-- what was read before, and what is still read
abbrev pub with_front : {X : Type 0} → List X → Option (List X × List ℕ) → Option (List X × List ℕ)
with_front front read = read >>= λ x. Some (front ++ x.0, x.1)

regroup : {X : Type 0} (front : List X) (x : X) (read : Option (List X × List ℕ))
    → with_front front (read >>= λ y. Some (x ∷ y.0, y.1)) ≡ with_front (front ++ x ∷ []) read
regroup {X} front x (Some y) = ap (λ (xs : List X). Some (xs, y.1)) (simp append_assoc)
regroup front x None = refl

-- one more value
pub goes_on : {X : Type 0} (read : List ℕ → Option (X × List ℕ)) (front : List X) (count i : ℕ) (bytes : List ℕ) (x : X) (after : List ℕ)
    (total : Option (List X × List ℕ)) → i < count → read bytes ≡ Some (x, after)
    → with_front front (times_at read (count - i) bytes) ≡ total
    → with_front (front ++ x ∷ []) (times_at read (count - (i + 1)) after) ≡ total
unfolding times_at
goes_on read front count i bytes x after total lt h so_far =
    let k : count - i ≡ suc (count - (i + 1)) = omega arith in
    let one : with_front front (times_at read (count - i) bytes) ≡ with_front (front ++ x ∷ []) (times_at read (count - (i + 1)) after) =
    rw (k, h) (regroup front x (times_at read (count - (i + 1)) after)) in
    sym one ∙ so_far

-- a value that could not be read
pub ends : {X : Type 0} (read : List ℕ → Option (X × List ℕ)) (e : StateRefusal) (front : List X) (count i : ℕ) (bytes : List ℕ)
    (total : Option (List X × List ℕ)) → i < count → Fails e (read bytes)
    → with_front front (times_at read (count - i) bytes) ≡ total → Fails e total
unfolding times_at
ends read refusals.NoMemory front count i bytes total lt h so_far = tt
ends read refusals.Damaged front count i bytes total lt h so_far =
    let k : count - i ≡ suc (count - (i + 1)) = omega arith in
    let one : with_front front (times_at read (count - i) bytes) ≡ None = rw (k, h) refl in
    sym so_far ∙ one

-- the end
pub is_done : {X : Type 0} (read : List ℕ → Option (X × List ℕ)) (front : List X) (count i : ℕ) (bytes : List ℕ)
    (total : Option (List X × List ℕ)) → count ≤ i → with_front front (times_at read (count - i) bytes) ≡ total
    → total ≡ Some (front, bytes)
unfolding times_at
is_done {X} read front count i bytes total le so_far =
    let k : count - i ≡ 0 = omega arith in
    let one : with_front front (times_at read (count - i) bytes) ≡ Some (front, bytes) = rw k
    (ap (λ (xs : List X). Some (xs, bytes)) (append-nil front)) in
    sym so_far ∙ one

-- writing one more value
pub put_more : {X : Type 0} (spelling : X → List ℕ) (typed : X → Type 0) (xs : List X) (i : ℕ) (x : X) (base items written : List ℕ)
    → i < length xs → x ≡ get_or xs i x
    → written ≡ items ++ spelling x → typed x → (items ≡ base ++ flat_map spelling (take i xs)) × All typed (take i xs)
    → (written ≡ base ++ flat_map spelling (take (i + 1) xs)) × All typed (take (i + 1) xs)
put_more {X} spelling typed xs i x base items written within read more is so_far =
    let next : take (i + 1) xs ≡ take i xs ++ x ∷ [] = take_more xs i x within ∙ ap (λ (y : X). take i xs ++ y ∷ []) (sym read) in (
      more ∙ ap (λ (l : List ℕ). l ++ spelling x) so_far.0 ∙ flat_map_more spelling base (take i xs) x
          ∙ ap (λ (l : List X). base ++ flat_map spelling l) (sym next),
      subst (All typed) (sym next) (All-push typed (take i xs) x so_far.1 is),
    )

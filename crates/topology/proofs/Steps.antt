-- One step of a loop that adds what each element gives, where the invariant speaks of the elements that are left.
use Rattle.std.proofs.Common.{◌≡◌, ℕ, ◌+◌, ◌<◌, Bool, true, false, List, [], ◌∷◌, ◌++◌, length, get_or, drop, sym, ◌∙◌, ap, append_assoc, arith, unwrap_or, slice_get}
use Rattle.std.specs.List.{flat_map, enumerate_from}
use Rattle.std.proofs.lemmas.List.{at_drop_more, get_or_read}
use Rattle.std.proofs.lemmas.Option.{unwrap_or-slice_get}
use Rattle.topology.specs.Kept.{numbers_from}

-- an element that was read at its place
pub unwrap_or_read : (xs : List (List ℕ)) (i : ℕ) (x : List ℕ) → i < length xs → x ≡ get_or xs i x → x ≡ unwrap_or (slice_get xs i) []
unwrap_or_read xs i x within is = get_or_read xs i x within is [] ∙ sym (unwrap_or-slice_get xs i [])

-- what one more numbered element gives is appended
pub flat_map_step : {X S : Type 0} (f : ℕ × X → List S) (xs : List X) (n i : ℕ) (x : X) (found all : List S)
    → i < length xs → x ≡ get_or xs i x → found ++ flat_map f (enumerate_from (n + i) (drop i xs)) ≡ all
    → (found ++ f (n + i, x)) ++ flat_map f (enumerate_from (n + (i + 1)) (drop (i + 1) xs)) ≡ all
flat_map_step f xs n i x found all within is left =
    let next : n + (i + 1) ≡ n + i + 1 = omega arith in
    append_assoc found _ _
    ∙ ap (λ m. found ++ (f (n + i, x) ++ flat_map f (enumerate_from m (drop (i + 1) xs)))) next
    ∙ ap (λ y. found ++ (f (n + i, y) ++ flat_map f (enumerate_from (n + i + 1) (drop (i + 1) xs)))) is
    ∙ sym (ap (λ l. found ++ l) (at_drop_more (λ l. flat_map f (enumerate_from (n + i) l)) xs i x within))
    ∙ left

-- the numbers of the streams from the next on, by whether this one passes
numbers_step : (test : List ℕ → Bool) (xs : List (List ℕ)) (i : ℕ) (x : List ℕ) → i < length xs → x ≡ get_or xs i x
    → numbers_from test i (drop i xs) ≡ numbers_from test i (x ∷ drop (i + 1) xs)
numbers_step test xs i x within is =
    at_drop_more (numbers_from test i) xs i x within ∙ ap (λ y. numbers_from test i (y ∷ drop (i + 1) xs)) (sym is)

-- a stream that passes adds its number
pub numbers_step_yes : (test : List ℕ → Bool) (xs : List (List ℕ)) (i : ℕ) (x : List ℕ) (found all : List ℕ)
    → i < length xs → x ≡ get_or xs i x → found ++ numbers_from test i (drop i xs) ≡ all → test x ≡ true
    → (found ++ i ∷ []) ++ numbers_from test (i + 1) (drop (i + 1) xs) ≡ all
numbers_step_yes test xs i x found all within is left passes =
    append_assoc found _ _
    ∙ ap (λ l. found ++ l) (sym (rw passes at (numbers_step test xs i x within is)))
    ∙ left

-- another adds nothing
pub numbers_step_no : (test : List ℕ → Bool) (xs : List (List ℕ)) (i : ℕ) (x : List ℕ) (found all : List ℕ)
    → i < length xs → x ≡ get_or xs i x → found ++ numbers_from test i (drop i xs) ≡ all → test x ≡ false
    → found ++ numbers_from test (i + 1) (drop (i + 1) xs) ≡ all
numbers_step_no test xs i x found all within is left fails =
    ap (λ l. found ++ l) (sym (rw fails at (numbers_step test xs i x within is))) ∙ left

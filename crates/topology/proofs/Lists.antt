-- Of lists in general: what a test or a sum says of the images, of a part, and of lists that are joined.
use Rattle.std.proofs.Common.{◌≡◌, ℕ, ◌≤◌, Bool, true, false, cond, List, [], ◌∷◌, length, map, filter, sum_by, sum, refl, sym, ◌∙◌, ap, arith, length-append, inl, inr, ◌||◌}
use Rattle.std.specs.List.{flat_map, list_any, list_all, AllByRecursion}
use Rattle.std.proofs.lemmas.Bool.{or_parts, or_from, or_cases, or_left, or_right, cond_both}
use Rattle.std.proofs.lemmas.Simd.{map-map}
use Rattle.std.proofs.lemmas.List.{length-map}
use Rattle.std.proofs.lemmas.List.Folds.{list_any-append}
use Rattle.std.proofs.lemmas.List.Elements.{All-from_recursion, recursion_from_All}
use Rattle.std.proofs.lemmas.List.Sums.{sum-map, AllPass-from_list_all, list_all-from_AllPass}
use Rattle.list_lemmas.proofs.Lists.{each-weaker}

-- where all pass, each does
pub each-passes : {X : Type 0} (p : X → Bool) (xs : List X) → list_all p xs ≡ true → AllByRecursion (λ x. p x ≡ true) xs
each-passes p xs all = recursion_from_All (λ x. p x ≡ true) xs (AllPass-from_list_all p xs all)

-- and back
pub all-pass : {X : Type 0} (p : X → Bool) (xs : List X) → AllByRecursion (λ x. p x ≡ true) xs → list_all p xs ≡ true
all-pass p xs each = list_all-from_AllPass p xs (All-from_recursion (λ x. p x ≡ true) xs each)

-- where all pass one test, all pass a weaker one
pub all-weaker : {X : Type 0} (p q : X → Bool) → ((x : X) → p x ≡ true → q x ≡ true) → (xs : List X)
    → list_all p xs ≡ true
    → list_all q xs ≡ true
all-weaker p q weaker xs all =
    all-pass q xs (each-weaker (λ x. p x ≡ true) (λ x. q x ≡ true) weaker xs (each-passes p xs all))

-- what holds of the images holds of what they are images of
pub map-each : {X Y : Type 0} (P : Y → Type 0) (f : X → Y) (xs : List X) → AllByRecursion P (map f xs)
    → AllByRecursion (λ x. P (f x)) xs
map-each P f [] each = tt
map-each P f (x ∷ xs) each = (each.0, map-each P f xs each.1)

-- a fact of each of some things with each of others is one of each of these with each of those
pub each-turned : {A B : Type 0} (P : A → B → Type 0) (xs : List A) (ys : List B)
    → AllByRecursion (λ a. AllByRecursion (P a) ys) xs → AllByRecursion (λ b. AllByRecursion (λ a. P a b) xs) ys
each-turned P xs [] each = tt
each-turned P xs (y ∷ ys) each = (
  each-weaker (λ a. AllByRecursion (P a) (y ∷ ys)) (λ a. P a y) (λ a all. all.0) xs each,
  each-turned P xs ys (each-weaker (λ a. AllByRecursion (P a) (y ∷ ys)) (λ a. AllByRecursion (P a) ys)
      (λ a all. all.1) xs each),
)

-- a sum over images
pub sum_by-map : {X Y : Type 0} (g : Y → ℕ) (f : X → Y) (xs : List X) → sum_by g (map f xs) ≡ sum_by (λ x. g (f x)) xs
sum_by-map g f xs = sym (sum-map g (map f xs)) ∙ ap sum (map-map g f xs) ∙ sum-map (λ x. g (f x)) xs

-- where none passes, none of a part does
pub any-fewer : {X Y : Type 0} (p : Y → Bool) (f : X → Y) (keep : X → Bool) (xs : List X)
    → list_any p (map f xs) ≡ false
    → list_any p (map f (filter keep xs)) ≡ false
any-fewer p f keep [] none = refl
any-fewer p f keep (x ∷ xs) none =
    let neither = or_parts (p (f x)) (list_any p (map f xs)) none in
    let rest = any-fewer p f keep xs neither.1 in
    cond_both (keep x) (x ∷ filter keep xs) (filter keep xs) (λ l. list_any p (map f l) ≡ false)
    (λ kept. or_from (p (f x)) (list_any p (map f (filter keep xs))) neither.0 rest) (λ left_out. rest)

-- where one passes, one passes a weaker test
any-weaker : {X : Type 0} (p q : X → Bool) → ((x : X) → p x ≡ true → q x ≡ true) → (xs : List X) → list_any p xs ≡ true
    → list_any q xs ≡ true
any-weaker p q weaker [] some = some
any-weaker p q weaker (x ∷ xs) some = elim (or_cases (p x) (list_any p xs) some) [
  | inl here ↦ or_left (q x) (list_any q xs) (weaker x here)
  | inr later ↦ or_right (q x) (list_any q xs) (any-weaker p q weaker xs later)
]

-- a test of images is a test of what they are images of
pub any-map : {X Y : Type 0} (p : Y → Bool) (f : X → Y) (xs : List X)
    → list_any p (map f xs) ≡ list_any (λ x. p (f x)) xs
any-map p f [] = refl
any-map p f (x ∷ xs) = ap (λ b. p (f x) || b) (any-map p f xs)

-- one of joined lists passes where one of those lists has one that does
pub any-flat_map : {X Y : Type 0} (p : Y → Bool) (f : X → List Y) (xs : List X)
    → list_any p (flat_map f xs) ≡ list_any (λ x. list_any p (f x)) xs
any-flat_map p f [] = refl
any-flat_map p f (x ∷ xs) =
    list_any-append p (f x) (flat_map f xs) ∙ ap (λ b. list_any p (f x) || b) (any-flat_map p f xs)

-- a choice between a test and nothing is that test
pub or-nothing : (b : Bool) → (b || false) ≡ b
or-nothing true = refl
or-nothing false = refl

-- where one answer stands for a test of some elements, which are there, one passes by that answer or by the other test
pub any-replaced : {X : Type 0} (u v : X → Bool) (answer : Bool) → ((x : X) → u x ≡ true → v x ≡ false) → (xs : List X)
    → list_any u xs ≡ true → list_any (λ x. cond (u x) answer (v x)) xs ≡ (answer || list_any v xs)
any-replaced u v true apart xs some =
    any-weaker u (λ x. cond (u x) true (v x)) (λ x passes. ap (λ b. cond b true (v x)) passes) xs some
any-replaced {X} u v false apart xs some = λ i. list_any (λ x. same x (u x) refl i) xs
  where
    same : (x : X) (b : Bool) → u x ≡ b → cond b false (v x) ≡ v x
    same x true passes = sym (apart x passes)
    same x false fails = refl

-- lists of which none is empty are as long as they are many, joined
pub length-flat_map_some : {X Y : Type 0} (f : X → List Y) → ((x : X) → 1 ≤ length (f x)) → (xs : List X)
    → length xs ≤ length (flat_map f xs)
length-flat_map_some f some [] = omega arith
length-flat_map_some f some (x ∷ xs) = omega (
  arith,
  some x,
  length-append (f x) (flat_map f xs),
  length-flat_map_some f some xs,
)

-- a list is not empty where it is the images of one that is not, or else of one element
pub some-either : {X Y : Type 0} (b : Bool) (f : X → Y) (xs : List X) (y : Y) → 1 ≤ length xs
    → 1 ≤ length (cond b (map f xs) (y ∷ []))
some-either true f xs y some = omega (arith, some, length-map xs f)
some-either false f xs y some = omega arith

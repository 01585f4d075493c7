-- What is an element of lists that are joined, filtered and mapped.
use Rattle.std.proofs.Common.{◌≡◌, ◌∙◌, ◌<◌, ◌≤◌, ◌+◌, ℕ, zero, suc, Bool, true, false, cond, List, [], ◌∷◌, ◌++◌, map, refl, sym, ap, subst, arith, inl, inr}
use Rattle.std.specs.Prelude.{◌⊎◌, Contains, None, Option, Some, filter, find}
use Rattle.std.specs.List.{AllByRecursion, cons_option, filter_map, flat_map, range_with_len}
use Rattle.std.proofs.lemmas.Bool.{cases_eq}
use Rattle.list_lemmas.proofs.Lists.{none_some, some_same}

-- one of a list
abbrev pub IsIn : {A : Type 0} → A → List A → Type 0
IsIn x [] = ⊥
IsIn x (y ∷ ys) = (x ≡ y) ⊎ IsIn x ys

-- an element of a list is one of it
pub in-contained : {A : Type 0} (x : A) (xs : List A) → Contains xs x → IsIn x xs
in-contained x [] (k, within, is) = absurd (omega (arith, within))
in-contained x (y ∷ ys) (zero, within, is) = inl (sym is)
in-contained x (y ∷ ys) (suc k, within, is) = inr (in-contained x ys (k, omega (arith, within), is))

-- one of a list is an element of it
pub contained-in : {A : Type 0} (x : A) (xs : List A) → IsIn x xs → Contains xs x
contained-in x [] here = absurd here
contained-in x (y ∷ ys) (inl same) = (zero, omega arith, sym same)
contained-in x (y ∷ ys) (inr later) = let c = contained-in x ys later in (suc c.0, (let l = c.1 in omega (arith, l)), c.2)

-- what holds of each holds of one
pub each-in : {A : Type 0} (P : A → Type 0) (x : A) (xs : List A) → AllByRecursion P xs → IsIn x xs → P x
each-in P x [] all here = absurd here
each-in P x (y ∷ ys) all (inl same) = subst P (sym same) all.0
each-in P x (y ∷ ys) all (inr later) = each-in P x ys all.1 later

-- one of the first of two lists
pub in-front : {A : Type 0} (x : A) (xs ys : List A) → IsIn x xs → IsIn x (xs ++ ys)
in-front x [] ys here = absurd here
in-front x (z ∷ zs) ys (inl same) = inl same
in-front x (z ∷ zs) ys (inr later) = inr (in-front x zs ys later)

-- one of the second of two lists
pub in-behind : {A : Type 0} (x : A) (xs ys : List A) → IsIn x ys → IsIn x (xs ++ ys)
in-behind x [] ys here = here
in-behind x (z ∷ zs) ys here = inr (in-behind x zs ys here)

-- one of two lists, one behind the other
pub in-either : {A : Type 0} (x : A) (xs ys : List A) → IsIn x (xs ++ ys) → IsIn x xs ⊎ IsIn x ys
in-either x [] ys here = inr here
in-either x (z ∷ zs) ys (inl same) = inl (inl same)
in-either x (z ∷ zs) ys (inr later) = elim (in-either x zs ys later) [
  | inl first ↦ inl (inr first)
  | inr second ↦ inr second
]

-- one of many lists, one behind the other
pub in-flat : {X A : Type 0} (f : X → List A) (x : X) (xs : List X) (y : A) → IsIn x xs → IsIn y (f x) → IsIn y (flat_map f xs)
in-flat f x [] y here is = absurd here
in-flat f x (z ∷ zs) y (inl same) is = in-front y (f z) (flat_map f zs) (subst (λ w. IsIn y (f w)) same is)
in-flat f x (z ∷ zs) y (inr later) is = in-behind y (f z) (flat_map f zs) (in-flat f x zs y later is)

-- is one of one of them
pub flat-in : {X A : Type 0} (f : X → List A) (xs : List X) (y : A) → IsIn y (flat_map f xs) → (x : X) × IsIn x xs × IsIn y (f x)
flat-in f [] y here = absurd here
flat-in f (z ∷ zs) y here = elim (in-either y (f z) (flat_map f zs) here) [
  | inl first ↦ (z, inl refl, first)
  | inr second ↦ let rest = flat-in f zs y second in (rest.0, inr rest.1, rest.2)
]

-- one that passes
pub in-filter : {A : Type 0} (test : A → Bool) (x : A) (xs : List A) → IsIn x xs → test x ≡ true → IsIn x (filter test xs)
in-filter test x [] here passes = absurd here
in-filter test x (y ∷ ys) (inl same) passes =
    subst (λ b. IsIn x (cond b (y ∷ filter test ys) (filter test ys))) (sym (sym (ap test same) ∙ passes)) (inl same)
in-filter test x (y ∷ ys) (inr later) passes =
    elim (test y) as (λ b. IsIn x (cond b (y ∷ filter test ys) (filter test ys))) [
      | true ↦ inr (in-filter test x ys later passes)
      | false ↦ in-filter test x ys later passes
    ]

-- is one, and passes
pub filter-in : {A : Type 0} (test : A → Bool) (x : A) (xs : List A) → IsIn x (filter test xs) → (test x ≡ true) × IsIn x xs
filter-in test x [] here = absurd here
filter-in test x (y ∷ ys) here = elim (test y) as (λ b. test y ≡ b → IsIn x (cond b (y ∷ filter test ys) (filter test ys))
    → (test x ≡ true) × IsIn x (y ∷ ys)) [
      | true ↦ λ is place. elim place [
        | inl same ↦ (ap test same ∙ is, inl same)
        | inr later ↦ let rest = filter-in test x ys later in (rest.0, inr rest.1)
      ]
      | false ↦ λ is later. let rest = filter-in test x ys later in (rest.0, inr rest.1)
    ] refl here

-- what one becomes
pub in-map : {X A : Type 0} (f : X → A) (x : X) (xs : List X) → IsIn x xs → IsIn (f x) (map f xs)
in-map f x [] here = absurd here
in-map f x (y ∷ ys) (inl same) = inl (ap f same)
in-map f x (y ∷ ys) (inr later) = inr (in-map f x ys later)

-- is what some one becomes
pub map-in : {X A : Type 0} (f : X → A) (xs : List X) (y : A) → IsIn y (map f xs) → (x : X) × IsIn x xs × (y ≡ f x)
map-in f [] y here = absurd here
map-in f (z ∷ zs) y (inl same) = (z, inl refl, same)
map-in f (z ∷ zs) y (inr later) = let rest = map-in f zs y later in (rest.0, inr rest.1, rest.2)

-- what one becomes, where it becomes something
pub in-filter_map : {X A : Type 0} (f : X → Option A) (x : X) (xs : List X) (y : A) → IsIn x xs → f x ≡ Some y
    → IsIn y (filter_map f xs)
in-filter_map f x [] y here is = absurd here
in-filter_map f x (z ∷ zs) y (inl same) is =
    subst (λ o. IsIn y (cons_option o (filter_map f zs))) (sym (sym (ap f same) ∙ is)) (inl refl)
in-filter_map f x (z ∷ zs) y (inr later) is = elim (f z) as (λ o. IsIn y (cons_option o (filter_map f zs))) [
  | None ↦ in-filter_map f x zs y later is
  | Some w ↦ inr (in-filter_map f x zs y later is)
]

-- is what some one becomes
pub filter_map-in : {X A : Type 0} (f : X → Option A) (xs : List X) (y : A) → IsIn y (filter_map f xs)
    → (x : X) × IsIn x xs × (f x ≡ Some y)
filter_map-in f [] y here = absurd here
filter_map-in {X} f (z ∷ zs) y here = elim (f z) as (λ o. f z ≡ o → IsIn y (cons_option o (filter_map f zs))
    → (x : X) × IsIn x (z ∷ zs) × (f x ≡ Some y)) [
      | None ↦ λ is later. let rest = filter_map-in f zs y later in (rest.0, inr rest.1, rest.2)
      | Some w ↦ λ is place. elim place [
        | inl same ↦ (z, inl refl, is ∙ ap Some (sym same))
        | inr later ↦ let rest = filter_map-in f zs y later in (rest.0, inr rest.1, rest.2)
      ]
    ] refl here

-- a number of a range
pub in-range : (first count n : ℕ) → first ≤ n → n < first + count → IsIn n (range_with_len first count)
in-range first zero n least most = absurd (omega (arith, least, most))
in-range first (suc count) n least most = elim (cases_eq n first) [
  | inl same ↦ inl same
  | inr other ↦ inr (in-range (first + 1) count n (omega (arith, least, other)) (omega (arith, most)))
]

-- what is found is one, and passes
pub found-of : {A : Type 0} (test : A → Bool) (x : A) (xs : List A) → find test xs ≡ Some x → (test x ≡ true) × IsIn x xs
found-of test x [] is = absurd (none_some x is)
found-of test x (y ∷ ys) is = elim (test y) as (λ b. test y ≡ b → cond b (Some y) (find test ys) ≡ Some x
    → (test x ≡ true) × IsIn x (y ∷ ys)) [
      | true ↦ λ passes found. let same = some_same y x found in (ap test (sym same) ∙ passes, inl (sym same))
      | false ↦ λ fails found. let rest = found-of test x ys found in (rest.0, inr rest.1)
    ] refl is

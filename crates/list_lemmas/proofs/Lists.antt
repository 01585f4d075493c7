-- What holds of each element of a list, where the list is joined, filtered or searched.
use Rattle.std.proofs.Common.{◌≡◌, ◌≤◌, ℕ, ◌+◌, Bool, true, false, cond, ◌&&◌, List, [], ◌∷◌, ◌++◌, length, map, refl, sym, ◌∙◌, ap, subst, append_assoc, arith}
use Rattle.std.specs.Prelude.{Some, None, unwrap_or, find, filter}
use Rattle.std.specs.Option.{option_or}
use Rattle.std.specs.List.{AllByRecursion, enumerate_from, flat_map}
use Rattle.std.specs.List.Sorted.{IsStrictlySortedBy}
use Rattle.std.specs.Map.{lookup}
use Rattle.std.specs.declared.cmp.Ordering.{Ordering}
use Rattle.std.specs.declared.cmp.Ordering.TheVariants.{Less}
use Rattle.std.proofs.lemmas.List.Folds.{find-append}

-- none is not some
pub none_some : {X : Type 0} (x : X) → None ≡ Some x → ⊥
none_some x e = cc

-- what is held by one choice is held by an equal one
pub some_same : {X : Type 0} (x y : X) → Some x ≡ Some y → x ≡ y
some_same x y e = ap (λ o. unwrap_or o x) e

-- what holds of two lists holds of both together
pub each-append : {X : Type 0} (P : X → Type 0) (xs ys : List X) → AllByRecursion P xs → AllByRecursion P ys → AllByRecursion P (xs ++ ys)
each-append P [] ys each other = other
each-append P (x ∷ xs) ys each other = (each.0, each-append P xs ys each.1 other)

-- what follows from a fact of each holds of each
pub each-weaker : {X : Type 0} (P Q : X → Type 0) → ((x : X) → P x → Q x) → (xs : List X) → AllByRecursion P xs → AllByRecursion Q xs
each-weaker P Q weaker [] each = tt
each-weaker P Q weaker (x ∷ xs) each = (weaker x each.0, each-weaker P Q weaker xs each.1)

-- what holds of each holds of each that passes a test
pub each-filter : {X : Type 0} (P : X → Type 0) (test : X → Bool) (xs : List X) → AllByRecursion P xs → AllByRecursion P (filter test xs)
each-filter P test [] each = tt
each-filter P test (x ∷ xs) each = elim (test x) as (λ b. AllByRecursion P (cond b (x ∷ filter test xs) (filter test xs))) [
  | true ↦ (each.0, each-filter P test xs each.1)
  | false ↦ each-filter P test xs each.1
]

-- what holds of the image of each element holds of each of the images
pub each-map : {X Y : Type 0} (P : Y → Type 0) (f : X → Y) (xs : List X) → AllByRecursion (λ x. P (f x)) xs → AllByRecursion P (map f xs)
each-map P f [] each = tt
each-map P f (x ∷ xs) each = (each.0, each-map P f xs each.1)

-- what holds whatever the element is holds of each
pub each-all : {X : Type 0} (P : X → Type 0) → ((x : X) → P x) → (xs : List X) → AllByRecursion P xs
each-all P always [] = tt
each-all P always (x ∷ xs) = (always x, each-all P always xs)

-- what holds of each value, and of a value to fall back on, holds of the one that is found
pub found_of_each : {K X : Type 0} (P : X → Type 0) (test : K → Bool) (es : List (K × X)) (d : X)
    → AllByRecursion (λ (e : K × X). P e.1) es → P d → P (unwrap_or (lookup test es) d)
found_of_each P test [] d each none = none
found_of_each P test (e ∷ es) d each none =
    elim (test e.0) as (λ b. P (unwrap_or (cond b (Some e.1) (lookup test es)) d)) [
      | true ↦ each.0
      | false ↦ found_of_each P test es d each.1 none
    ]

-- what is appended in two steps is appended at once
pub append_then : {X : Type 0} (old mid new xs ys : List X) → mid ≡ old ++ xs → new ≡ mid ++ ys → new ≡ old ++ (xs ++ ys)
append_then old mid new xs ys first next = next ∙ ap (λ l. l ++ ys) first ∙ append_assoc old xs ys

-- ---- searches

-- what a search finds passes the test
pub find-passes : {X : Type 0} (test : X → Bool) (xs : List X) (d : X) → find test xs ≡ Some d → test d ≡ true
find-passes test [] d found = absurd (none_some d found)
find-passes test (x ∷ xs) d found =
    elim (test x) as (λ b. test x ≡ b → cond b (Some x) (find test xs) ≡ Some d → test d ≡ true) [
      | true ↦ λ e f. subst (λ y. test y ≡ true) (some_same x d f) e
      | false ↦ λ e f. find-passes test xs d f
    ] refl found

-- what holds of each holds of what a search finds
pub find-each : {X : Type 0} (P : X → Type 0) (test : X → Bool) (xs : List X) (d : X) → AllByRecursion P xs → find test xs ≡ Some d → P d
find-each P test [] d each found = absurd (none_some d found)
find-each P test (x ∷ xs) d each found =
    elim (test x) as (λ b. cond b (Some x) (find test xs) ≡ Some d → P d) [
      | true ↦ λ f. subst P (some_same x d f) each.0
      | false ↦ λ f. find-each P test xs d each.1 f
    ] found

-- nothing is found where nothing passes
pub find-none : {X : Type 0} (test : X → Bool) (xs : List X) → AllByRecursion (λ x. test x ≡ false) xs → find test xs ≡ None
find-none test [] each = refl
find-none test (x ∷ xs) each = ap (λ b. cond b (Some x) (find test xs)) each.0 ∙ find-none test xs each.1

-- what a search finds is still found where only others are left out
pub find-kept : {X : Type 0} (test keep : X → Bool) (xs : List X) (d : X) → find test xs ≡ Some d → keep d ≡ true
    → find test (filter keep xs) ≡ Some d
find-kept test keep [] d found kept = found
find-kept test keep (x ∷ xs) d found kept =
    elim (test x) as (λ b. test x ≡ b → cond b (Some x) (find test xs) ≡ Some d
    → find test (cond (keep x) (x ∷ filter keep xs) (filter keep xs)) ≡ Some d) [
      | true ↦ λ e f. ap (λ b. find test (cond b (x ∷ filter keep xs) (filter keep xs)))
          (subst (λ y. keep y ≡ true) (sym (some_same x d f)) kept)
          ∙ ap (λ b. cond b (Some x) (find test (filter keep xs))) e ∙ f
      | false ↦ λ e f. elim (keep x) as (λ k. find test (cond k (x ∷ filter keep xs) (filter keep xs)) ≡ Some d) [
        | true ↦ ap (λ b. cond b (Some x) (find test (filter keep xs))) e ∙ find-kept test keep xs d f kept
        | false ↦ find-kept test keep xs d f kept
      ]
    ] refl found

-- a search that finds something in one list finds it in the list with more behind
pub find-more : {X : Type 0} (test : X → Bool) (xs ys : List X) (d : X) → find test xs ≡ Some d → find test (xs ++ ys) ≡ Some d
find-more test xs ys d found = find-append test xs ys ∙ ap (λ o. option_or o (find test ys)) found

-- a search that finds nothing in one list finds what is behind
pub find-behind : {X : Type 0} (test : X → Bool) (xs ys : List X) → find test xs ≡ None → find test (xs ++ ys) ≡ find test ys
find-behind test xs ys none = find-append test xs ys ∙ ap (λ o. option_or o (find test ys)) none

-- ---- filters

-- two filters are one
pub filter-filter : {X : Type 0} (p q : X → Bool) (xs : List X) → filter p (filter q xs) ≡ filter (λ x. q x && p x) xs
filter-filter p q [] = refl
filter-filter p q (x ∷ xs) = elim (q x) as (λ b. filter p (cond b (x ∷ filter q xs) (filter q xs)) ≡ cond (b && p x)
    (x ∷ filter (λ y. q y && p y) xs) (filter (λ y. q y && p y) xs)) [
      | true ↦ λ i. cond (p x) (x ∷ filter-filter p q xs i) (filter-filter p q xs i)
      | false ↦ filter-filter p q xs
    ]

-- a filter that each passes changes nothing
pub filter-all : {X : Type 0} (p : X → Bool) (xs : List X) → AllByRecursion (λ x. p x ≡ true) xs → filter p xs ≡ xs
filter-all p [] each = refl
filter-all p (x ∷ xs) each = ap (λ b. cond b (x ∷ filter p xs) (filter p xs)) each.0 ∙ ap (λ l. x ∷ l) (filter-all p xs each.1)

-- ---- order

-- lists in order, of which the one is before the other, are in order together
pub sorted-append : {X : Type 0} (R : X → X → Ordering) (xs ys : List X) → IsStrictlySortedBy R xs → IsStrictlySortedBy R ys
    → AllByRecursion (λ x. AllByRecursion (λ y. R x y ≡ Less) ys) xs → IsStrictlySortedBy R (xs ++ ys)
unfolding IsStrictlySortedBy
sorted-append R [] ys one other across = other
sorted-append R (x ∷ xs) ys one other across =
    (each-append (λ y. R x y ≡ Less) xs ys one.0 across.0, sorted-append R xs ys one.1 other across.1)

-- in a list in order, where a test tells what it passes from what is after it, what a search finds in a part it finds in the whole
pub find-in_part : {X : Type 0} (R : X → X → Ordering) (test keep : X → Bool) → ((x y : X) → R x y ≡ Less → test x ≡ true → test y ≡ false)
    → (xs : List X) (d : X) → IsStrictlySortedBy R xs → find test (filter keep xs) ≡ Some d → find test xs ≡ Some d
unfolding IsStrictlySortedBy
find-in_part R test keep apart [] d sorted found = found
find-in_part {X} R test keep apart (x ∷ xs) d sorted found =
    elim (test x) as (λ b. test x ≡ b → cond b (Some x) (find test xs) ≡ Some d) [
      | true ↦ λ e. by_keep e (keep x) refl
      | false ↦ λ e. find-in_part R test keep apart xs d sorted.1 (skip e (keep x) found)
    ] refl
  where
    -- nothing behind passes
    behind : test x ≡ true → (ys : List X) → AllByRecursion (λ y. R x y ≡ Less) ys → AllByRecursion (λ y. test y ≡ false) ys
    behind e ys each = each-weaker (λ y. R x y ≡ Less) (λ y. test y ≡ false) (λ y less. apart x y less e) ys each

    by_keep : test x ≡ true → (k : Bool) → keep x ≡ k → Some x ≡ Some d
    by_keep e true k = sym (ap (λ b. cond b (Some x) (find test (filter keep xs))) e)
        ∙ sym (ap (λ b. find test (cond b (x ∷ filter keep xs) (filter keep xs))) k) ∙ found
    by_keep e false k = absurd (none_some d (sym (find-none test (filter keep xs)
        (each-filter (λ y. test y ≡ false) keep xs (behind e xs sorted.0)))
        ∙ sym (ap (λ b. find test (cond b (x ∷ filter keep xs) (filter keep xs))) k) ∙ found))

    skip : test x ≡ false → (k : Bool) → find test (cond k (x ∷ filter keep xs) (filter keep xs)) ≡ Some d
        → find test (filter keep xs) ≡ Some d
    skip e true f = sym (ap (λ b. cond b (Some x) (find test (filter keep xs))) e) ∙ f
    skip e false f = f

-- in a list in order, a test that passes an element and nothing after it finds the element
pub find-each_self : {X : Type 0} (R : X → X → Ordering) (test : X → X → Bool) → ((x : X) → test x x ≡ true)
    → ((x y : X) → R x y ≡ Less → test y x ≡ false)
    → (xs : List X) → IsStrictlySortedBy R xs → AllByRecursion (λ x. find (test x) xs ≡ Some x) xs
unfolding IsStrictlySortedBy
find-each_self R test same apart [] sorted = tt
find-each_self {X} R test same apart (x ∷ xs) sorted = (
  ap (λ b. cond b (Some x) (find (test x) xs)) (same x),
  later xs sorted.0 (find-each_self R test same apart xs sorted.1),
)
  where
    later : (ys : List X) → AllByRecursion (λ y. R x y ≡ Less) ys → AllByRecursion (λ y. find (test y) xs ≡ Some y) ys
        → AllByRecursion (λ y. find (test y) (x ∷ xs) ≡ Some y) ys
    later [] above found = tt
    later (y ∷ ys) above found =
        (ap (λ b. cond b (Some x) (find (test y) xs)) (apart x y above.0) ∙ found.0, later ys above.1 found.1)

-- what holds of each and what else holds of each hold of each together
pub each-both : {X : Type 0} (P Q : X → Type 0) (xs : List X) → AllByRecursion P xs → AllByRecursion Q xs
    → AllByRecursion (λ x. P x × Q x) xs
each-both P Q [] one other = tt
each-both P Q (x ∷ xs) one other = ((one.0, other.0), each-both P Q xs one.1 other.1)

-- where a search finds nothing, nothing passes
pub find-none_each : {X : Type 0} (test : X → Bool) (xs : List X) → find test xs ≡ None → AllByRecursion (λ x. test x ≡ false) xs
find-none_each test [] none = tt
find-none_each test (x ∷ xs) none =
    elim (test x) as (λ b. test x ≡ b → cond b (Some x) (find test xs) ≡ None → AllByRecursion (λ y. test y ≡ false) (x ∷ xs)) [
      | true ↦ λ e f. absurd (none_some x (sym f))
      | false ↦ λ e f. (e, find-none_each test xs f)
    ] refl none

-- what holds of each element holds of each numbered one
pub each-enumerate : {X : Type 0} (P : X → Type 0) (n : ℕ) (xs : List X) → AllByRecursion P xs
    → AllByRecursion (λ (p : ℕ × X). P p.1) (enumerate_from n xs)
each-enumerate P n [] each = tt
each-enumerate P n (x ∷ xs) each = (each.0, each-enumerate P (n + 1) xs each.1)

-- what holds of each element of each list holds of each element of all of them
pub each-flat_map : {A X : Type 0} (P : X → Type 0) (f : A → List X) (rows : List A)
    → AllByRecursion (λ a. AllByRecursion P (f a)) rows → AllByRecursion P (flat_map f rows)
each-flat_map P f [] each = tt
each-flat_map P f (a ∷ rows) each = each-append P (f a) (flat_map f rows) each.0 (each-flat_map P f rows each.1)

-- and back
pub flat_map-each : {A X : Type 0} (P : X → Type 0) (f : A → List X) (rows : List A)
    → AllByRecursion P (flat_map f rows) → AllByRecursion (λ a. AllByRecursion P (f a)) rows
flat_map-each P f [] each = tt
flat_map-each {A} {X} P f (a ∷ rows) each = let parts = apart (f a) each in (parts.0, flat_map-each P f rows parts.1)
  where
    apart : (xs : List X) → AllByRecursion P (xs ++ flat_map f rows) → AllByRecursion P xs × AllByRecursion P (flat_map f rows)
    apart [] both = (tt, both)
    apart (x ∷ xs) both = let rest = apart xs both.1 in ((both.0, rest.0), rest.1)

-- each element that a filter leaves passes its test
pub filter-passes : {X : Type 0} (test : X → Bool) (xs : List X) → AllByRecursion (λ x. test x ≡ true) (filter test xs)
filter-passes test [] = tt
filter-passes {X} test (x ∷ xs) =
    elim (test x) as (λ b. test x ≡ b → AllByRecursion (λ y. test y ≡ true) (cond b (x ∷ filter test xs) (filter test xs))) [
      | true ↦ λ e. (e, filter-passes test xs)
      | false ↦ λ e. filter-passes test xs
    ] refl

-- a filter leaves no more than there was
pub length-filter : {X : Type 0} (test : X → Bool) (xs : List X) → length (filter test xs) ≤ length xs
length-filter test [] = omega arith
length-filter test (x ∷ xs) = elim (test x) as (λ b. length (cond b (x ∷ filter test xs) (filter test xs)) ≤ length (x ∷ xs)) [
  | true ↦ omega (arith, length-filter test xs)
  | false ↦ omega (arith, length-filter test xs)
]

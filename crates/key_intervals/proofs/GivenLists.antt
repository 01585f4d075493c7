-- Lists of intervals by number, some of which end, and to which others are appended.
use Rattle.std.proofs.Common.{◌≡◌, ◌<◌, ◌+◌, ◌-◌, ◌∙◌, ◌⊎◌, ◌==◌, ◌||◌, ◌++◌, ◌∷◌, [], ℕ, zero, suc, List, Bool, true, false, Some, length, map, arith, refl, sym, ap, subst, inl, inr, true≢false}
use Rattle.std.specs.Prelude.{slice_get}
use Rattle.std.proofs.lemmas.Bool.{cases_lt, cases_Bool, eqb-true, eqb-false, or_cases, or_parts}
use Rattle.std.proofs.lemmas.Option.{slice_get_within, slice_get-map}
use Rattle.std.proofs.lemmas.List.{length-map, length-append}
use Rattle.std.specs.Option.{option_map}
use Rattle.list_lemmas.proofs.Lists.{none_some, some_same}
use Rattle.list_lemmas.proofs.Places.{slice_get-some}
use Rattle.key_intervals.specs.declared.bounds.Bounds.{Bounds}
use Rattle.key_intervals.specs.declared.given.Given.{Given}
use Rattle.key_intervals.specs.Division.{fresh, once_ended}

-- what stands in the first of two lists stands at the same place in both together
pub at-left : {X : Type 0} (xs ys : List X) (n : ℕ) → n < length xs → slice_get (xs ++ ys) n ≡ slice_get xs n
at-left [] ys n less = absurd (omega (arith, less))
at-left (x ∷ xs) ys zero less = refl
at-left (x ∷ xs) ys (suc n) less = at-left xs ys n (omega (arith, less))

-- what stands in the second stands behind the first
pub at-right : {X : Type 0} (xs ys : List X) (k : ℕ) → slice_get (xs ++ ys) (length xs + k) ≡ slice_get ys k
at-right {X} [] ys k = let same : length {A = X} [] + k ≡ k = omega arith in ap (slice_get ys) same
at-right (x ∷ xs) ys k =
    let same : length (x ∷ xs) + k ≡ suc (length xs + k) = omega arith in ap (slice_get (x ∷ xs ++ ys)) same ∙ at-right xs ys k

-- how many numbers there are stays
pub length-ended : (n : ℕ) (gs : List Given) → length (once_ended n gs) ≡ length gs
length-ended n [] = refl
length-ended zero (g ∷ gs) = refl
length-ended (suc n) (g ∷ gs) = ap suc (length-ended n gs)

-- what is of another number stays
ended-other : (n i : ℕ) (gs : List Given) → (i ≡ n → ⊥) → slice_get (once_ended n gs) i ≡ slice_get gs i
ended-other n i [] other = refl
ended-other zero zero (g ∷ gs) other = absurd (other refl)
ended-other zero (suc i) (g ∷ gs) other = refl
ended-other (suc n) zero (g ∷ gs) other = refl
ended-other (suc n) (suc i) (g ∷ gs) other = ended-other n i gs (λ same. other (ap suc same))

-- what is of the number is live no more
ended-same : (n : ℕ) (gs : List Given) (g : Given) → slice_get gs n ≡ Some g → slice_get (once_ended n gs) n ≡ Some (record g { live = false })
ended-same n [] g at = absurd (none_some g at)
ended-same zero (h ∷ gs) g at = ap Some (ap (λ (k : Given). record k { live = false }) (some_same h g at))
ended-same (suc n) (h ∷ gs) g at = ended-same n gs g at

-- what ends may end before or after others are appended
pub ended-append : (n : ℕ) (gs hs : List Given) → n < length gs → once_ended n (gs ++ hs) ≡ once_ended n gs ++ hs
ended-append n [] hs less = absurd (omega (arith, less))
ended-append zero (g ∷ gs) hs less = refl
ended-append (suc n) (g ∷ gs) hs less = ap (λ all. g ∷ all) (ended-append n gs hs (omega (arith, less)))

-- in a list those that pass a test have ended, and no other
pub record AreEnded (test : ℕ → Bool) (given rest : List Given) : Type 0 where
  pub many : length rest ≡ length given
  pub kept : (i : ℕ) → test i ≡ false → slice_get rest i ≡ slice_get given i
  pub gone : (i : ℕ) (g : Given) → test i ≡ true → slice_get given i ≡ Some g → slice_get rest i ≡ Some (record g { live = false })

-- one has ended
pub one-ended : (n : ℕ) (given : List Given) → AreEnded (λ i. i == n) given (once_ended n given)
one-ended n given = record {
  many = length-ended n given;
  kept = λ i other. ended-other n i given (eqb-false i n other);
  gone = λ i g same at. let is : i ≡ n = eqb-true i n same in
      subst (λ k. slice_get (once_ended n given) k ≡ Some (record g { live = false })) (sym is)
      (ended-same n given g (ap (slice_get given) (sym is) ∙ at));
}

-- one has ended, and then another
pub two-ended : (low high : ℕ) (given : List Given)
    → AreEnded (λ i. (i == low) || (i == high)) given (once_ended high (once_ended low given))
two-ended low high given =
    let first = one-ended low given in
    let next = one-ended high (once_ended low given) in record {
      many = next.many ∙ first.many;
      kept = λ i other. let parts = or_parts (i == low) (i == high) other in next.kept i parts.1 ∙ first.kept i parts.0;
      gone = λ i g some at. both i g at (cases_Bool (i == low)) (cases_Bool (i == high)) some;
    }
  where
    both : (i : ℕ) (g : Given) → slice_get given i ≡ Some g → ((i == low) ≡ true) ⊎ ((i == low) ≡ false)
        → ((i == high) ≡ true) ⊎ ((i == high) ≡ false) → ((i == low) || (i == high)) ≡ true
        → slice_get (once_ended high (once_ended low given)) i ≡ Some (record g { live = false })
    both i g at (inl one) (inl two) some =
        (one-ended high (once_ended low given)).gone i (record g { live = false }) two ((one-ended low given).gone i g one at)
    both i g at (inl one) (inr not) some =
        (one-ended high (once_ended low given)).kept i not ∙ (one-ended low given).gone i g one at
    both i g at (inr not) (inl two) some =
        (one-ended high (once_ended low given)).gone i g two ((one-ended low given).kept i not ∙ at)
    both i g at (inr not) (inr neither) some = elim (or_cases (i == low) (i == high) some) [
      | inl one ↦ absurd (true≢false (sym one ∙ not))
      | inr two ↦ absurd (true≢false (sym two ∙ neither))
    ]

-- fresh intervals that are appended
abbrev pub with_fresh : List Given → List Bounds → List Given
with_fresh rest added = rest ++ map fresh added

module _ (test : ℕ → Bool) (given rest : List Given) (added : List Bounds) (ended : AreEnded test given rest) where
  -- a live interval that does not end stays
  pub live-kept : (i : ℕ) (b : Bounds) → slice_get given i ≡ Some (fresh b) → test i ≡ false
      → slice_get (with_fresh rest added) i ≡ Some (fresh b)
  live-kept i b at other =
      let within : i < length rest = omega (arith, slice_get_within given i (fresh b) at, ended.many) in
      at-left rest (map fresh added) i within ∙ ended.kept i other ∙ at

  -- those that are appended have the next numbers
  pub added-at : (k : ℕ) (b : Bounds) → slice_get added k ≡ Some b → slice_get (with_fresh rest added) (length given + k) ≡ Some (fresh b)
  added-at k b at =
      ap (λ n. slice_get (with_fresh rest added) (n + k)) (sym ended.many) ∙ at-right rest (map fresh added) k
      ∙ slice_get-map fresh added k ∙ ap (option_map fresh) at

  -- what stands at a place stood there before, or is one of those that are appended
  place-of : (i : ℕ) (g : Given) → slice_get (with_fresh rest added) i ≡ Some g
      → (slice_get rest i ≡ Some g) ⊎ ((k : ℕ) × (b : Bounds) × (i ≡ length given + k) × (slice_get added k ≡ Some b) × (fresh b ≡ g))
  place-of i g at = elim (cases_lt i (length rest)) [
    | inl less ↦ inl (sym (at-left rest (map fresh added) i less) ∙ at)
    | inr ge ↦
        let k = i - length rest in
        let is : length rest + k ≡ i = omega (arith, ge) in
        let there : slice_get (map fresh added) k ≡ Some g =
        sym (at-right rest (map fresh added) k) ∙ ap (slice_get (with_fresh rest added)) is ∙ at in
        let within : k < length added = omega (arith, slice_get_within (map fresh added) k g there, length-map added fresh) in
        let b = slice_get-some added k within in
        inr (
          k,
          b.0,
          omega (arith, is, ended.many),
          b.1,
          some_same (fresh b.0) g (sym (slice_get-map fresh added k ∙ ap (option_map fresh) b.1) ∙ there),
        )
  ]

  -- a live interval was live before, and has not ended, or is one of those that are appended
  pub live-origin : (i : ℕ) (b : Bounds) → slice_get (with_fresh rest added) i ≡ Some (fresh b)
      → ((slice_get given i ≡ Some (fresh b)) × (test i ≡ false)) ⊎ ((k : ℕ) × (i ≡ length given + k) × (slice_get added k ≡ Some b))
  live-origin i b at = by_place (place-of i (fresh b) at) (cases_Bool (test i))
    where
      by_place : (slice_get rest i ≡ Some (fresh b)) ⊎ ((k : ℕ) × (c : Bounds) × (i ≡ length given + k) × (slice_get added k ≡ Some c) × (fresh c ≡ fresh b))
          → (test i ≡ true) ⊎ (test i ≡ false)
          → ((slice_get given i ≡ Some (fresh b)) × (test i ≡ false)) ⊎ ((k : ℕ) × (i ≡ length given + k) × (slice_get added k ≡ Some b))
      by_place (inl here) (inr not) = inl (sym (ended.kept i not) ∙ here, not)
      by_place (inl here) (inl gone) =
          let within : i < length given = omega (arith, slice_get_within rest i (fresh b) here, ended.many) in
          let was = slice_get-some given i within in
          absurd (true≢false (ap (λ (g : Given). g.live)
          (some_same (fresh b) (record was.0 { live = false }) (sym here ∙ ended.gone i was.0 gone was.1))))
      by_place (inr p) either = inr (p.0, p.2, p.3 ∙ ap Some (ap (λ (g : Given). g.bounds) p.4))

  -- the bounds of a number stay, and those of one that is appended are its own
  pub bounds-origin : (i : ℕ) (g : Given) → slice_get (with_fresh rest added) i ≡ Some g
      → ((h : Given) × (slice_get given i ≡ Some h) × (h.bounds ≡ g.bounds)) ⊎ ((k : ℕ) × (slice_get added k ≡ Some g.bounds))
  bounds-origin i g at = by_place (place-of i g at) (cases_Bool (test i))
    where
      by_place : (slice_get rest i ≡ Some g) ⊎ ((k : ℕ) × (c : Bounds) × (i ≡ length given + k) × (slice_get added k ≡ Some c) × (fresh c ≡ g))
          → (test i ≡ true) ⊎ (test i ≡ false)
          → ((h : Given) × (slice_get given i ≡ Some h) × (h.bounds ≡ g.bounds)) ⊎ ((k : ℕ) × (slice_get added k ≡ Some g.bounds))
      by_place (inl here) (inr not) = inl (g, sym (ended.kept i not) ∙ here, refl)
      by_place (inl here) (inl gone) =
          let within : i < length given = omega (arith, slice_get_within rest i g here, ended.many) in
          let was = slice_get-some given i within in
          inl (
            was.0,
            was.1,
            ap (λ (h : Given). h.bounds) (some_same (record was.0 { live = false }) g
                (sym (ended.gone i was.0 gone was.1) ∙ here)),
          )
      by_place (inr p) either = inr (p.0, p.3 ∙ ap Some (ap (λ (h : Given). h.bounds) p.4))

  -- how many numbers there are
  pub length-with_fresh : length (with_fresh rest added) ≡ length given + length added
  length-with_fresh = omega (arith, length-append rest (map fresh added), length-map added fresh, ended.many)

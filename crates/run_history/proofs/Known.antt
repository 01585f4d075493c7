-- What is known under a claim.
use Rattle.std.proofs.Common.{◌≡◌, ℕ, ◌+◌, Bool, true, false, cond, List, [], ◌∷◌, ◌++◌, length, take, drop, refl, sym, ◌∙◌, ap, subst, arith, append_assoc, inl, inr}
use Rattle.std.specs.Prelude.{Some, ◌⊎◌, not}
use Rattle.std.proofs.lemmas.Bool.{cases_lt}
use Rattle.std.specs.List.{AllByRecursion, take_while}
use Rattle.std.proofs.lemmas.List.{take-append-drop, length-take, drop_all}
use Rattle.std.proofs.lemmas.List.Sums.{take_while-cons}
use Rattle.mw_types.specs.declared.entry.Entry.{Entry}
use Rattle.run_history.specs.Fences.{Begins, is_claim, last_claim, known}
use Rattle.list_lemmas.proofs.Lists.{each-weaker}
use Rattle.run_history.proofs.Claims.{claim_from, last_claim-append, claims-none}

-- a filter of the front of a list ends where its test first fails
pub take_while-front : (test : Entry → Bool) (xs : List Entry) → Begins (take_while test xs) xs
take_while-front test [] = ([], refl)
take_while-front test (x ∷ xs) =
    elim (test x) as (λ b. take_while test (x ∷ xs) ≡ cond b (x ∷ take_while test xs) [] → Begins (take_while test (x ∷ xs)) (x ∷ xs)) [
      | true ↦ λ is. let rest = take_while-front test xs in (rest.0, ap (λ l. l ++ rest.0) is ∙ ap (λ l. x ∷ l) rest.1)
      | false ↦ λ is. (x ∷ xs, ap (λ l. l ++ x ∷ xs) is)
    ] (take_while-cons test x xs)

-- each of the front passes the test
pub take_while-passes : (test : Entry → Bool) (xs : List Entry) → AllByRecursion (λ e. test e ≡ true) (take_while test xs)
take_while-passes test [] = tt
take_while-passes test (x ∷ xs) =
    elim (test x) as (λ b. test x ≡ b → take_while test (x ∷ xs) ≡ cond b (x ∷ take_while test xs) []
    → AllByRecursion (λ e. test e ≡ true) (take_while test (x ∷ xs))) [
      | true ↦ λ e is. subst (AllByRecursion (λ e. test e ≡ true)) (sym is) (e, take_while-passes test xs)
      | false ↦ λ e is. subst (AllByRecursion (λ e. test e ≡ true)) (sym is) tt
    ] refl (take_while-cons test x xs)

-- what is known under the last claim of an interval is the whole history
pub take_while-all : (test : Entry → Bool) (xs : List Entry) → AllByRecursion (λ e. test e ≡ true) xs → take_while test xs ≡ xs
take_while-all test [] each = refl
take_while-all test (x ∷ xs) each = take_while-cons test x xs ∙ ap (λ b. cond b (x ∷ take_while test xs) []) each.0
    ∙ ap (λ l. x ∷ l) (take_while-all test xs each.1)

-- where the front passes, the front of a longer list goes on behind it, or else it ends within it
pub take_while-append : (test : Entry → Bool) (xs ys : List Entry)
    → (AllByRecursion (λ e. test e ≡ true) xs × (take_while test (xs ++ ys) ≡ xs ++ take_while test ys)) ⊎
    (take_while test (xs ++ ys) ≡ take_while test xs)
take_while-append test [] ys = inl (tt, refl)
take_while-append test (x ∷ xs) ys = by_test (test x) refl (take_while-append test xs ys)
  where
    by_test : (b : Bool) → test x ≡ b
        → (AllByRecursion (λ e. test e ≡ true) xs × (take_while test (xs ++ ys) ≡ xs ++ take_while test ys)) ⊎
        (take_while test (xs ++ ys) ≡ take_while test xs)
        → (AllByRecursion (λ e. test e ≡ true) (x ∷ xs) × (take_while test (x ∷ xs ++ ys) ≡ x ∷ xs ++ take_while test ys)) ⊎
        (take_while test (x ∷ xs ++ ys) ≡ take_while test (x ∷ xs))
    by_test false e rest = inr (take_while-cons test x (xs ++ ys) ∙ ap (λ b. cond b (x ∷ take_while test (xs ++ ys)) []) e
        ∙ sym (take_while-cons test x xs ∙ ap (λ b. cond b (x ∷ take_while test xs) []) e))
    by_test true e (inl whole) = inl (
      (e, whole.0),
      take_while-cons test x (xs ++ ys)
          ∙ ap (λ b. cond b (x ∷ take_while test (xs ++ ys)) []) e ∙ ap (λ l. x ∷ l) whole.1,
    )
    by_test true e (inr within) = inr (take_while-cons test x (xs ++ ys) ∙ ap (λ b. cond b (x ∷ take_while test (xs ++ ys)) []) e
        ∙ ap (λ l. x ∷ l) within
        ∙ sym (take_while-cons test x xs ∙ ap (λ b. cond b (x ∷ take_while test xs) []) e))

-- what is known under a claim is a beginning of the history
pub known-begins : (interval seq : ℕ) (history : List Entry) → Begins (known interval seq history) history
known-begins interval seq history =
    let front = take_while-front (λ (e : Entry). not (is_claim interval e)) (drop (seq + 1) history) in (
      front.0,
      append_assoc (take (seq + 1) history) _ front.0 ∙ ap (λ l. take (seq + 1) history ++ l) front.1
          ∙ take-append-drop (seq + 1) history,
    )

-- under the last claim of an interval the whole history is known
pub known-last : (interval seq : ℕ) (history : List Entry) → last_claim interval history ≡ Some seq → known interval seq history ≡ history
known-last interval seq history last =
    let split : take (seq + 1) history ++ drop (seq + 1) history ≡ history = take-append-drop (seq + 1) history in
    let found : claim_from interval (length (take (seq + 1) history)) (last_claim interval (take (seq + 1) history))
    (drop (seq + 1) history) ≡ Some seq =
    sym (last_claim-append interval (take (seq + 1) history) (drop (seq + 1) history)) ∙ ap (last_claim interval) split ∙ last in
    ap (λ l. take (seq + 1) history ++ l) (take_while-all (λ (e : Entry). not (is_claim interval e)) (drop (seq + 1) history)
    (none found)) ∙ split
  where
    none : claim_from interval (length (take (seq + 1) history)) (last_claim interval (take (seq + 1) history))
        (drop (seq + 1) history) ≡ Some seq
        → AllByRecursion (λ (e : Entry). not (is_claim interval e) ≡ true) (drop (seq + 1) history)
    none found = elim (cases_lt seq (length history)) [
      | inl less ↦ each-weaker (λ e. is_claim interval e ≡ false) (λ (e : Entry). not (is_claim interval e) ≡ true) (λ e is. ap not is)
          (drop (seq + 1) history)
          (claims-none interval (length (take (seq + 1) history)) seq (last_claim interval (take (seq + 1) history))
          (drop (seq + 1) history) found
          (let len = length-take (seq + 1) history in omega (arith, len, less)))
      | inr past ↦ subst (AllByRecursion (λ (e : Entry). not (is_claim interval e) ≡ true))
          (sym (drop_all (seq + 1) history (omega (arith, past)))) tt
    ]

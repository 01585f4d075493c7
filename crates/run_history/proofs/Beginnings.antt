-- Beginnings of a history.
use Rattle.std.proofs.Common.{◌≡◌, ℕ, ◌+◌, ◌<◌, ◌≤◌, List, [], ◌∷◌, ◌++◌, length, take, drop, refl, sym, ◌∙◌, ap, subst, arith, append_assoc, length-append, inl, inr, suc, zero, get_or}
use Rattle.std.specs.Prelude.{Some, ◌⊎◌, unwrap_or, slice_get}
use Rattle.std.proofs.lemmas.Option.{slice_get_within, get_or_from_slice_get, slice_get-get_or}
use Rattle.std.specs.List.{AllByRecursion}
use Rattle.std.proofs.lemmas.List.{append-nil, take-append-drop, take_more}
use Rattle.mw_types.specs.declared.entry.Entry.{Entry}
use Rattle.run_history.specs.Fences.{Begins}
use Rattle.list_lemmas.proofs.Lists.{some_same, none_some}

-- a history is a beginning of itself
pub Begins-itself : (history : List Entry) → Begins history history
Begins-itself history = ([], append-nil history)

-- a beginning of a beginning is a beginning
pub Begins-trans : (one two three : List Entry) → Begins one two → Begins two three → Begins one three
Begins-trans one two three first second =
    (first.0 ++ second.0, sym (append_assoc one first.0 second.0) ∙ ap (λ l. l ++ second.0) first.1 ∙ second.1)

-- a beginning is not longer
pub Begins-length : (front history : List Entry) → Begins front history → length front ≤ length history
Begins-length front history begins =
    let whole : length front + length begins.0 ≡ length history = sym (length-append front begins.0) ∙ ap length begins.1 in
    omega (arith, whole)

-- a beginning of a history with one more entry is the whole of it, or a beginning of the history
pub Begins-push : (front history : List Entry) (entry : Entry) → Begins front (history ++ entry ∷ [])
    → (front ≡ history ++ entry ∷ []) ⊎ Begins front history
Begins-push [] history entry begins = inr (history, refl)
Begins-push (x ∷ xs) [] entry begins =
    inl (whole xs begins.0 (ap (drop 1) begins.1) ∙ sym (ap (λ l. x ∷ l) (whole_rest xs begins.0 (ap (drop 1) begins.1))) ∙ head)
  where
    whole : (xs rest : List Entry) → xs ++ rest ≡ [] → x ∷ xs ≡ x ∷ []
    whole [] rest e = refl
    whole (y ∷ ys) rest e = cc

    whole_rest : (xs rest : List Entry) → xs ++ rest ≡ [] → xs ++ rest ≡ []
    whole_rest xs rest e = e

    head : x ∷ (xs ++ begins.0) ≡ entry ∷ []
    head = begins.1
Begins-push (x ∷ xs) (y ∷ ys) entry begins = by_case (Begins-push xs ys entry (begins.0, ap (drop 1) begins.1))
  where
    heads : x ≡ y
    heads = ap (λ (l : List Entry). unwrap_or (slice_get l 0) x) begins.1

    by_case : (xs ≡ ys ++ entry ∷ []) ⊎ Begins xs ys → (x ∷ xs ≡ (y ∷ ys) ++ entry ∷ []) ⊎ Begins (x ∷ xs) (y ∷ ys)
    by_case (inl same) = inl (λ i. heads i ∷ same i)
    by_case (inr begins) = inr (begins.0, λ i. heads i ∷ begins.1 i)

-- histories with one more entry that are equal are equal before it, and have one last entry
pub push_same : (one two : List Entry) (x y : Entry) → one ++ x ∷ [] ≡ two ++ y ∷ [] → (one ≡ two) × (x ≡ y)
push_same [] [] x y e = (refl, ap (λ (l : List Entry). unwrap_or (slice_get l 0) x) e)
push_same [] (b ∷ bs) x y e = absurd (none_left bs (ap (drop 1) e))
  where
    none_left : (bs : List Entry) → [] ≡ bs ++ y ∷ [] → ⊥
    none_left [] e = cc
    none_left (b ∷ bs) e = cc
push_same (a ∷ xs) [] x y e = absurd (none_left xs (ap (drop 1) e))
  where
    none_left : (xs : List Entry) → xs ++ x ∷ [] ≡ [] → ⊥
    none_left [] e = cc
    none_left (a ∷ xs) e = cc
push_same (a ∷ xs) (b ∷ bs) x y e =
    let rest = push_same xs bs x y (ap (drop 1) e) in
    let heads : a ≡ b = ap (λ (l : List Entry). unwrap_or (slice_get l 0) a) e in
    ((λ i. heads i ∷ rest.0 i), rest.1)

-- what holds of each of a list holds of each of a beginning of it
pub each-begins : (P : Entry → Type 0) (front history : List Entry) → Begins front history → AllByRecursion P history
    → AllByRecursion P front
each-begins P [] history begins each = tt
each-begins P (x ∷ xs) [] begins each = absurd (none begins.1)
  where
    none : x ∷ (xs ++ begins.0) ≡ [] → ⊥
    none e = cc
each-begins P (x ∷ xs) (y ∷ ys) begins each = (
  subst P (sym (ap (λ (l : List Entry). unwrap_or (slice_get l 0) x) begins.1)) each.0,
  each-begins P xs ys
      (begins.0, ap (drop 1) begins.1) each.1,
)

-- an entry stays at its place where more follow
pub slice_get-more : (history : List Entry) (n : ℕ) (e : Entry) (more : List Entry) → slice_get history n ≡ Some e
    → slice_get (history ++ more) n ≡ Some e
slice_get-more [] n e more at = absurd (none_some e at)
slice_get-more (x ∷ xs) zero e more at = at
slice_get-more (x ∷ xs) (suc n) e more at = slice_get-more xs n e more at

-- the last entry stands behind all others
pub slice_get-last : (history : List Entry) (e : Entry) → slice_get (history ++ e ∷ []) (length history) ≡ Some e
slice_get-last [] e = refl
slice_get-last (x ∷ xs) e = slice_get-last xs e

-- an entry of a beginning stands at the same place of the whole
pub Begins-at : (front history : List Entry) (n : ℕ) (e : Entry) → Begins front history → slice_get front n ≡ Some e
    → slice_get history n ≡ Some e
Begins-at front history n e begins at = subst (λ l. slice_get l n ≡ Some e) begins.1 (slice_get-more front n e begins.0 at)

-- an entry of the whole whose place is in a beginning stands there
pub at-Begins : (front history : List Entry) (n : ℕ) (e : Entry) → Begins front history → n < length front → slice_get history n ≡ Some e
    → slice_get front n ≡ Some e
at-Begins front history n e begins within at =
    let here : slice_get front n ≡ Some (get_or front n e) = slice_get-get_or front n e within in
    here ∙ ap Some (some_same (get_or front n e) e (sym (Begins-at front history n (get_or front n e) begins here) ∙ at))

-- what stands before an entry, and the entry, are a beginning of the history
pub Begins-take : (history : List Entry) (n : ℕ) (e : Entry) → slice_get history n ≡ Some e → Begins (take n history ++ e ∷ []) history
Begins-take history n e at =
    let within = slice_get_within history n e at in
    let up_to : take (n + 1) history ≡ take n history ++ e ∷ [] =
    take_more history n e within ∙ ap (λ x. take n history ++ x ∷ []) (get_or_from_slice_get history n e e at) in
    (drop (n + 1) history, ap (λ l. l ++ drop (n + 1) history) (sym up_to) ∙ take-append-drop (n + 1) history)

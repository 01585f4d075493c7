-- The longer of two beginnings of one history.
use Rattle.std.proofs.Common.{inl, inr, ◌≡◌, ◌⊎◌, ◌≤◌, List, [], ◌∷◌, ◌++◌, length, take, drop, refl, sym, ap, ◌∙◌, subst, ⊎_elim, arith, length-append, append-nil}
use Rattle.std.proofs.lemmas.List.{take-append-drop, take-take, drop_all}
use native.Mathlib.Decide.{dec_le}
use Rattle.mw_types.specs.declared.entry.Entry.{Entry}
use Rattle.run_history.specs.Fences.{Begins}
use Rattle.run_history.proofs.Beginnings.{Begins-itself}
use Rattle.shared_book.specs.Joins.{longer}

-- what is taken of a list's length is the list
take_front : (a b : List Entry) → take (length a) (a ++ b) ≡ a
take_front [] b = refl
take_front (x ∷ xs) b = ap (λ l. x ∷ l) (take_front xs b)

-- a beginning is what is taken of its length
is_front : (a h : List Entry) → Begins a h → a ≡ take (length a) h
is_front a h p = sym (take_front a p.0) ∙ ap (take (length a)) p.1

-- of two beginnings the one that is not longer begins the other
pub shorter : (a b h : List Entry) → Begins a h → Begins b h → length a ≤ length b → Begins a b
shorter a b h p q le = (
  drop (length a) b,
  ap (λ x. x ++ drop (length a) b)
      (is_front a h p ∙ sym (take-take (length a) (length b) h le) ∙ ap (take (length a)) (sym (is_front b h q)))
      ∙ take-append-drop (length a) b,
)

-- the longer of two is one of them
longer_cases : (a b h : List Entry) → Begins a h → Begins b h
    → ((length a ≤ length b) × (longer a b ≡ b)) ⊎ ((length b ≤ length a) × (longer a b ≡ a))
unfolding shorter
longer_cases a b h p q = by_order (dec_le (length a) (length b))
  where
    by_order : Dec (length a ≤ length b)
        → ((length a ≤ length b) × (longer a b ≡ b)) ⊎ ((length b ≤ length a) × (longer a b ≡ a))
    by_order (yes l) = inl (l, (shorter a b h p q l).1)
    by_order (no l) =
        let m : length b ≤ length a = omega (arith, l) in
        inr (m, ap (λ x. a ++ x) (drop_all (length a) b m) ∙ append-nil a)

-- each of two beginnings of a history begins the longer, which begins the history
pub record IsLonger (a b h : List Entry) : Type 0 where
  pub left : Begins a (longer a b)
  pub right : Begins b (longer a b)
  pub whole : Begins (longer a b) h

-- and so it is
pub is_longer : (a b h : List Entry) → Begins a h → Begins b h → IsLonger a b h
is_longer a b h p q = ⊎_elim
    (λ c. record {
      left = subst (Begins a) (sym c.1) (shorter a b h p q c.0);
      right = subst (Begins b) (sym c.1) (Begins-itself b);
      whole = subst (λ x. Begins x h) (sym c.1) q;
    })
    (λ c. record {
      left = subst (Begins a) (sym c.1) (Begins-itself a);
      right = subst (Begins b) (sym c.1) (shorter b a h q p c.0);
      whole = subst (λ x. Begins x h) (sym c.1) p;
    })
    (longer_cases a b h p q)

-- a beginning that is not shorter is the whole
pub is_whole : (a h : List Entry) → Begins a h → length h ≤ length a → a ≡ h
is_whole a h p le =
    sym (append-nil a) ∙ ap (λ x. a ++ x) (sym (no_rest p.0 (omega (arith, le, ap length p.1, length-append a p.0)))) ∙ p.1
  where
    no_rest : (r : List Entry) → length r ≤ 0 → r ≡ []
    no_rest [] l = refl
    no_rest (x ∷ xs) l = absurd (omega (arith, l))

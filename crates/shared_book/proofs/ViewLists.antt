-- Facts of all views, of each two, and of one of them, after a view is set, added, or two are joined.
use Rattle.std.proofs.Common.{inl, inr, ◌≡◌, ◌≢◌, ◌⊎◌, ℕ, List, [], ◌∷◌, ◌++◌, length, set, refl, sym, ap, ◌∙◌, subst, ⊎_elim}
use mathlib.Core.Option.{some, some-injective}
use mathlib.Core.Logic.{dite}
use native.Mathlib.Decide.{ℕ_discrete}
use lib.ListN.{get_elem?}
use Rattle.atomic_table.proofs.Lists.{at_set, at_snoc, set_here, set_else, at_longer, at_last}
use Rattle.shared_book.specs.Lists.{Somewhere, Everywhere, Pairwise}
use Rattle.shared_book.proofs.Lists.{at_bound, at_end}

module _ {V : Type 0} where
  -- a fact of each view stays one where it holds of the one that is set
  pub everywhere_set : (P : V → Type 0) (vs : List V) (id : ℕ) (w : V) → P w
      → ((i : ℕ) (u : V) → i ≢ id → get_elem? vs i ≡ some u → P u) → Everywhere (set vs id w) P
  everywhere_set P vs id w mine others i u e =
      ⊎_elim (λ x. subst P x.1 mine) (λ x. others i u x.0 x.1) (at_set vs id i w u e)

  -- a fact of each two views stays one where it holds of the one that is set, with each other
  pub pairwise_set : (R : V → V → Type 0) (vs : List V) (id : ℕ) (w : V) → Pairwise vs R
      → ((i : ℕ) (u : V) → i ≢ id → get_elem? vs i ≡ some u → R w u × R u w) → Pairwise (set vs id w) R
  pairwise_set R vs id w old with_w i j u x e f apart =
      ⊎_elim
      (λ p. ⊎_elim (λ q. absurd (apart (p.0 ∙ sym q.0))) (λ q. subst (λ y. R y x) p.1 (with_w j x q.0 q.1).0) (at_set vs id j w x f))
      (λ p. ⊎_elim (λ q. subst (λ y. R u y) q.1 (with_w i u p.0 p.1).1) (λ q. old i j u x p.1 q.1 apart) (at_set vs id j w x f))
      (at_set vs id i w u e)

  -- a fact of one of the views stays one where the view that is set has it as long as the old one had
  pub somewhere_set : (P : V → Type 0) (vs : List V) (id : ℕ) (v w : V) → get_elem? vs id ≡ some v → (P v → P w)
      → Somewhere vs P → Somewhere (set vs id w) P
  somewhere_set P vs id v w at keeps x =
      dite (ℕ_discrete x.0 id)
      (λ e. (id, w, set_here vs id w (at_bound vs id v at), keeps (subst P (some-injective x.1 v (sym x.2 ∙ ap (get_elem? vs) e ∙ at)) x.3)))
      (λ n. (x.0, x.1, set_else vs id x.0 w n ∙ x.2, x.3))

  -- a fact of the view that is set is one of the views'
  pub somewhere_here : (P : V → Type 0) (vs : List V) (id : ℕ) (v w : V) → get_elem? vs id ≡ some v → P w → Somewhere (set vs id w) P
  somewhere_here P vs id v w at p = (id, w, set_here vs id w (at_bound vs id v at), p)

  -- a fact of each view stays one where it holds of the one that is added
  pub everywhere_snoc : (P : V → Type 0) (vs : List V) (w : V) → Everywhere vs P → P w → Everywhere (vs ++ w ∷ []) P
  everywhere_snoc P vs w old mine i u e = ⊎_elim (λ p. old i u p) (λ p. subst P p mine) (at_snoc vs w u i e)

  -- a fact of each two views stays one where it holds of the one that is added, with each other
  pub pairwise_snoc : (R : V → V → Type 0) (vs : List V) (w : V) → Pairwise vs R → Everywhere vs (λ u. R w u × R u w)
      → Pairwise (vs ++ w ∷ []) R
  pairwise_snoc R vs w old with_w i j u x e f apart =
      ⊎_elim
      (λ p. ⊎_elim (λ q. old i j u x p q apart) (λ q. subst (λ y. R u y) q.1 (with_w i u p).1) (at_end vs w x j f))
      (λ p. ⊎_elim (λ q. subst (λ y. R y x) p.1 (with_w j x q).0) (λ q. absurd (apart (p.0 ∙ sym q.0))) (at_end vs w x j f))
      (at_end vs w u i e)

  -- a fact of one of the views stays one where a view is added
  pub somewhere_snoc : (P : V → Type 0) (vs : List V) (w : V) → Somewhere vs P → Somewhere (vs ++ w ∷ []) P
  somewhere_snoc P vs w x = (x.0, x.1, at_longer vs (w ∷ []) x.0 x.1 x.2, x.3)

  -- a fact of the view that is added is one of the views'
  pub somewhere_last : (P : V → Type 0) (vs : List V) (w : V) → P w → Somewhere (vs ++ w ∷ []) P
  somewhere_last P vs w p = (length vs, w, at_last vs w (length vs) refl, p)

  -- where one view takes in another, and the other is spent, a fact of one of the views stays one
  pub somewhere_joined : (P : V → Type 0) (vs : List V) (id other : ℕ) (v w both spent : V) → get_elem? vs id ≡ some v
      → get_elem? vs other ≡ some w → other ≢ id
      → (P v → P both) → (P w → P both) → Somewhere vs P → Somewhere (set (set vs id both) other spent) P
  somewhere_joined P vs id other v w both spent at there apart left right x =
      let new : get_elem? (set (set vs id both) other spent) id ≡ some both = set_else (set vs id both) other id spent (λ e. apart (sym e)) ∙ set_here vs id both (at_bound vs id v at) in
      dite (ℕ_discrete x.0 id)
      (λ e. (id, both, new, left (subst P (some-injective x.1 v (sym x.2 ∙ ap (get_elem? vs) e ∙ at)) x.3)))
      (λ n. dite (ℕ_discrete x.0 other)
      (λ e. (id, both, new, right (subst P (some-injective x.1 w (sym x.2 ∙ ap (get_elem? vs) e ∙ there)) x.3)))
      (λ m. (x.0, x.1, set_else (set vs id both) other x.0 spent m ∙ set_else vs id x.0 both n ∙ x.2, x.3)))

  -- where a view is cut in two, a fact of one of the views stays one where either part has it
  pub somewhere_split : (P : V → Type 0) (vs : List V) (id : ℕ) (v left right : V) → get_elem? vs id ≡ some v
      → (P v → P left ⊎ P right) → Somewhere vs P → Somewhere (set vs id left ++ right ∷ []) P
  somewhere_split P vs id v left right at keeps x =
      dite (ℕ_discrete x.0 id)
      (λ e. ⊎_elim
      (λ p. somewhere_snoc P (set vs id left) right (somewhere_here P vs id v left at p))
      (λ p. somewhere_last P (set vs id left) right p)
      (keeps (subst P (some-injective x.1 v (sym x.2 ∙ ap (get_elem? vs) e ∙ at)) x.3)))
      (λ n. somewhere_snoc P (set vs id left) right (x.0, x.1, set_else vs id x.0 left n ∙ x.2, x.3))

  -- which view stands where, after two are joined
  places : (vs : List V) (id other : ℕ) (both spent : V) (i : ℕ) (u : V) → get_elem? (set (set vs id both) other spent) i ≡ some u
      → ((i ≡ other) × (spent ≡ u)) ⊎ (((i ≡ id) × (both ≡ u)) ⊎ ((i ≢ id) × (i ≢ other) × (get_elem? vs i ≡ some u)))
  places vs id other both spent i u e =
      ⊎_elim
      (λ p. inl p)
      (λ p. ⊎_elim (λ q. inr (inl q)) (λ q. inr (inr (q.0, p.0, q.1))) (at_set vs id i both u p.1))
      (at_set (set vs id both) other i spent u e)

  -- where one view takes in another, a fact of each view stays one
  pub everywhere_joined : (P : V → Type 0) (vs : List V) (id other : ℕ) (both spent : V) → P both → P spent
      → Everywhere vs P → Everywhere (set (set vs id both) other spent) P
  everywhere_joined P vs id other both spent b g old i u e =
      ⊎_elim (λ p. subst P p.1 g) (λ x. ⊎_elim (λ p. subst P p.1 b) (λ p. old i u p.2) x) (places vs id other both spent i u e)

  -- where one view takes in another, a fact of each two views stays one
  pub pairwise_joined : (R : V → V → Type 0) (vs : List V) (id other : ℕ) (both spent : V)
      → ((v w : V) → R v w → R w v) → Pairwise vs R
      → ((i : ℕ) (u : V) → i ≢ id → i ≢ other → get_elem? vs i ≡ some u → R both u) → ((u : V) → R spent u) → Pairwise (set (set vs id both) other spent) R
  pairwise_joined R vs id other both spent turned old with_both with_spent i j u x e f apart =
      ⊎_elim
      (λ p. subst (λ y. R y x) p.1 (with_spent x))
      (λ a. ⊎_elim
      (λ p. ⊎_elim
      (λ q. subst (λ y. R u y) q.1 (turned spent u (with_spent u)))
      (λ b. ⊎_elim (λ q. absurd (apart (p.0 ∙ sym q.0))) (λ q. subst (λ y. R y x) p.1 (with_both j x q.0 q.1 q.2)) b)
      (places vs id other both spent j x f))
      (λ p. ⊎_elim
      (λ q. subst (λ y. R u y) q.1 (turned spent u (with_spent u)))
      (λ b. ⊎_elim (λ q. subst (λ y. R u y) q.1 (turned both u (with_both i u p.0 p.1 p.2))) (λ q. old i j u x p.2 q.2 apart) b)
      (places vs id other both spent j x f))
      a)
      (places vs id other both spent i u e)

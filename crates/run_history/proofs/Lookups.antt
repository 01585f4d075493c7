-- Look-ups in lists of entries that stand in the order of their keys.
use Rattle.std.proofs.Common.{◌≡◌, Bool, true, false, cond, List, [], ◌∷◌, filter, refl, sym, ◌∙◌, ap}
use Rattle.std.specs.Prelude.{Some, None}
use Rattle.std.specs.declared.cmp.Ordering.{Ordering}
use Rattle.std.specs.declared.cmp.Ordering.TheVariants.{Less, Equal, Greater}
use Rattle.std.specs.Ordering.{is_eq, match_ordering, ordering_reverse}
use Rattle.std.specs.Cmp.{IsTotalOrder, tied_itself, alike_right}
use Rattle.std.specs.List.{AllByRecursion}
use Rattle.std.specs.List.Sorted.{IsStrictlySortedBy}
use Rattle.std.specs.Map.{lookup, keys_of}
use Rattle.std.specs.BTreeMap.{insert_entry, is_at}
use Rattle.std.proofs.lemmas.Map.Entries.{lookup-filter-keys}
use Rattle.list_lemmas.proofs.Tests.{equal_from_test}
use Rattle.list_lemmas.proofs.Lists.{none_some, some_same}

-- of two tests that are the same, the inner one is never reached
pub shadowed : {A : Type 0} (b : Bool) (x y z : A) → cond b x z ≡ cond b x (cond b y z)
shadowed true x y z = refl
shadowed false x y z = refl

-- of two tests that do not both pass, either may come first
pub swapped : {A : Type 0} (a b : Bool) (x y z : A) → (a ≡ true → b ≡ false) → cond a x (cond b y z) ≡ cond b y (cond a x z)
swapped true b x y z apart = ap (λ c. cond true x (cond c y z)) (apart refl) ∙ sym (ap (λ c. cond c y (cond true x z)) (apart refl))
swapped false b x y z apart = refl

-- an order that is no tie, by its value
no_tie : (o p : Ordering) → o ≡ p → is_eq p ≡ false → is_eq o ≡ false
no_tie o p e f = ap is_eq e ∙ f

-- what a key is before, each key is that is before it
above_too : {K : Type 0} {R : K → K → Ordering} (o : IsTotalOrder R) (x y : K) (ks : List K) → R x y ≡ Less
    → AllByRecursion (λ (q : K). R y q ≡ Less) ks → AllByRecursion (λ (q : K). R x q ≡ Less) ks
above_too o x y [] less above = tt
above_too o x y (k ∷ ks) less above = (o.trans x y k less above.0, above_too o x y ks less above.1)

module _ {K X : Type 0} {R : K → K → Ordering} (o : IsTotalOrder R) where
  -- a look-up finds a value that was put at its key, and at other keys what was there
  pub lookup-insert_entry : (es : List (K × X)) (k : K) (v : X) (q : K)
      → lookup (is_at (R q)) (insert_entry R es k v) ≡ cond (is_at (R q) k) (Some v) (lookup (is_at (R q)) es)
  lookup-insert_entry [] k v q = refl
  lookup-insert_entry (e ∷ es) k v q =
      elim (R k e.0) as (λ r. R k e.0 ≡ r → lookup (is_at (R q))
      (match_ordering r ((k, v) ∷ e ∷ es) ((e.0, v) ∷ es) (e ∷ insert_entry R es k v)) ≡ cond (is_at (R q) k) (Some v)
      (lookup (is_at (R q)) (e ∷ es))) [
        | Less ↦ λ p. refl
        | Equal ↦ λ p. shadowed (is_eq (R q e.0)) (Some v) (Some e.1) (lookup (is_at (R q)) es)
            ∙ ap (λ r. cond (is_eq r) (Some v) (lookup (is_at (R q)) (e ∷ es))) (sym (alike_right o k e.0 q p))
        | Greater ↦ λ p. ap (cond (is_eq (R q e.0)) (Some e.1)) (lookup-insert_entry es k v q)
            ∙ swapped (is_eq (R q e.0)) (is_eq (R q k)) (Some e.1) (Some v) (lookup (is_at (R q)) es)
            (λ at. no_tie (R q k) Less (o.congr q e.0 k (equal_from_test (R q e.0) at) ∙ o.antisymm e.0 k ∙ ap ordering_reverse p) refl)
      ] refl

  -- each entry is the one that a look-up of its key finds
  pub each_found : (es : List (K × X)) → IsStrictlySortedBy R (keys_of es)
      → AllByRecursion (λ (e : K × X). lookup (is_at (R e.0)) es ≡ Some e.1) es
  unfolding IsStrictlySortedBy
  each_found [] sorted = tt
  each_found (e ∷ es) sorted = (
    ap (λ r. cond (is_eq r) (Some e.1) (lookup (is_at (R e.0)) es)) (tied_itself o e.0),
    later es (each_found es sorted.1) sorted.0,
  )
    where
      later : (fs : List (K × X)) → AllByRecursion (λ (f : K × X). lookup (is_at (R f.0)) es ≡ Some f.1) fs
          → AllByRecursion (λ (k : K). R e.0 k ≡ Less) (keys_of fs)
          → AllByRecursion (λ (f : K × X). lookup (is_at (R f.0)) (e ∷ es) ≡ Some f.1) fs
      later [] found above = tt
      later (f ∷ fs) found above = (
        ap (λ r. cond (is_eq r) (Some e.1) (lookup (is_at (R f.0)) es)) (o.antisymm f.0 e.0 ∙ ap ordering_reverse above.0) ∙ found.0,
        later fs found.1 above.1,
      )

  -- a key before others is before one that is put among them, where it is before that one too
  below-insert_entry : (x k : K) (v : X) (es : List (K × X)) → R x k ≡ Less → AllByRecursion (λ (q : K). R x q ≡ Less) (keys_of es)
      → AllByRecursion (λ (q : K). R x q ≡ Less) (keys_of (insert_entry R es k v))
  below-insert_entry x k v [] less above = (less, tt)
  below-insert_entry x k v (e ∷ es) less above =
      elim (R k e.0) as (λ r. AllByRecursion (λ (q : K). R x q ≡ Less)
      (keys_of (match_ordering r ((k, v) ∷ e ∷ es) ((e.0, v) ∷ es) (e ∷ insert_entry R es k v)))) [
        | Less ↦ (less, above)
        | Equal ↦ above
        | Greater ↦ (above.0, below-insert_entry x k v es less above.1)
      ]

  -- entries stay in the order of their keys where one is put among them
  pub sorted-insert_entry : (es : List (K × X)) (k : K) (v : X) → IsStrictlySortedBy R (keys_of es)
      → IsStrictlySortedBy R (keys_of (insert_entry R es k v))
  unfolding IsStrictlySortedBy
  sorted-insert_entry [] k v sorted = (tt, tt)
  sorted-insert_entry (e ∷ es) k v sorted =
      elim (R k e.0) as (λ r. R k e.0 ≡ r → IsStrictlySortedBy R
      (keys_of (match_ordering r ((k, v) ∷ e ∷ es) ((e.0, v) ∷ es) (e ∷ insert_entry R es k v)))) [
        | Less ↦ λ p. ((p, above_too o k e.0 (keys_of es) p sorted.0), sorted)
        | Equal ↦ λ p. sorted
        | Greater ↦ λ p. (
          below-insert_entry e.0 k v es
              (o.antisymm e.0 k ∙ ap ordering_reverse p) sorted.0,
          sorted-insert_entry es k v sorted.1,
        )
      ] refl

  -- a key that ties with one before all others is not found among them
  lookup-above : (q x : K) (es : List (K × X)) → R q x ≡ Equal → AllByRecursion (λ (k : K). R x k ≡ Less) (keys_of es)
      → lookup (is_at (R q)) es ≡ None
  lookup-above q x [] tie above = refl
  lookup-above q x (e ∷ es) tie above =
      ap (λ r. cond (is_eq r) (Some e.1) (lookup (is_at (R q)) es)) (o.congr q x e.0 tie ∙ above.0) ∙ lookup-above q x es tie above.1

  -- a first entry is found at its key
  lookup-first : (e : K × X) (es : List (K × X)) → lookup (is_at (R e.0)) (e ∷ es) ≡ Some e.1
  lookup-first e es = ap (λ r. cond (is_eq r) (Some e.1) (lookup (is_at (R e.0)) es)) (tied_itself o e.0)

  -- a key before a first entry, and so before all, is not found
  lookup-before : (x : K) (f : K × X) (fs : List (K × X)) → IsStrictlySortedBy R (keys_of (f ∷ fs)) → R x f.0 ≡ Less
      → lookup (is_at (R x)) (f ∷ fs) ≡ None
  unfolding IsStrictlySortedBy
  lookup-before x f fs sorted less =
      lookup-above x x (f ∷ fs) (tied_itself o x) (less, above_too o x f.0 (keys_of fs) less sorted.0)

  -- lists in the order of their keys, in which each look-up finds the same, are the same
  pub same_entries : ((a b : K) → R a b ≡ Equal → a ≡ b) → (es fs : List (K × X)) → IsStrictlySortedBy R (keys_of es)
      → IsStrictlySortedBy R (keys_of fs)
      → ((q : K) → lookup (is_at (R q)) es ≡ lookup (is_at (R q)) fs) → es ≡ fs
  unfolding IsStrictlySortedBy
  same_entries tie [] [] one other same = refl
  same_entries tie [] (f ∷ fs) one other same = absurd (none_some f.1 (same f.0 ∙ lookup-first f fs))
  same_entries tie (e ∷ es) [] one other same = absurd (none_some e.1 (sym (same e.0) ∙ lookup-first e es))
  same_entries tie (e ∷ es) (f ∷ fs) one other same =
      by_order (R e.0 f.0) refl (λ at. same_entries tie es fs one.1 other.1 (λ q. behind at q (is_eq (R q e.0)) refl))
    where
      -- behind equal first entries each look-up finds the same too
      behind : R e.0 f.0 ≡ Equal → (q : K) → (b : Bool) → is_eq (R q e.0) ≡ b → lookup (is_at (R q)) es ≡ lookup (is_at (R q)) fs
      behind at q true is =
          let tied : R q e.0 ≡ Equal = equal_from_test (R q e.0) is in
          lookup-above q e.0 es tied one.0 ∙ sym (lookup-above q f.0 fs (sym (alike_right o e.0 f.0 q at) ∙ tied) other.0)
      behind at q false is =
          sym (ap (λ b. cond b (Some e.1) (lookup (is_at (R q)) es)) is) ∙ same q
          ∙ ap (λ b. cond b (Some f.1) (lookup (is_at (R q)) fs)) (ap is_eq (sym (alike_right o e.0 f.0 q at)) ∙ is)

      -- equal keys have equal values
      value : R e.0 f.0 ≡ Equal → e.1 ≡ f.1
      value at = some_same e.1 f.1
          (sym (lookup-first e es) ∙ same e.0 ∙ ap (λ r. cond (is_eq r) (Some f.1) (lookup (is_at (R e.0)) fs)) at)

      by_order : (r : Ordering) → R e.0 f.0 ≡ r → (R e.0 f.0 ≡ Equal → es ≡ fs) → e ∷ es ≡ f ∷ fs
      by_order Less at rest = absurd (none_some e.1 (sym (lookup-before e.0 f fs other at) ∙ sym (same e.0) ∙ lookup-first e es))
      by_order Greater at rest = absurd (none_some f.1
          (sym (lookup-before f.0 e es one (o.antisymm f.0 e.0 ∙ ap ordering_reverse at)) ∙ same f.0 ∙ lookup-first f fs))
      by_order Equal at rest =
          let keys = tie e.0 f.0 at in
          let values = value at in
          let others = rest at in
          λ i. (keys i, values i) ∷ others i

  -- a filter keeps entries in the order of their keys
  sorted-filter : (p : K → Bool) (es : List (K × X)) → IsStrictlySortedBy R (keys_of es)
      → IsStrictlySortedBy R (keys_of (filter (λ e. p e.0) es))
  unfolding IsStrictlySortedBy
  sorted-filter p [] sorted = tt
  sorted-filter p (e ∷ es) sorted =
      elim (p e.0) as (λ b. IsStrictlySortedBy R (keys_of (cond b (e ∷ filter (λ f. p f.0) es) (filter (λ f. p f.0) es)))) [
        | true ↦ (above es sorted.0, sorted-filter p es sorted.1)
        | false ↦ sorted-filter p es sorted.1
      ]
    where
      above : (fs : List (K × X)) → AllByRecursion (λ (k : K). R e.0 k ≡ Less) (keys_of fs)
          → AllByRecursion (λ (k : K). R e.0 k ≡ Less) (keys_of (filter (λ f. p f.0) fs))
      above [] each = tt
      above (f ∷ fs) each =
          elim (p f.0) as (λ b. AllByRecursion (λ (k : K). R e.0 k ≡ Less)
          (keys_of (cond b (f ∷ filter (λ g. p g.0) fs) (filter (λ g. p g.0) fs)))) [
            | true ↦ (each.0, above fs each.1)
            | false ↦ above fs each.1
          ]

  -- of lists in the order of their keys, in which each look-up of a key that passes a test finds the same, the entries whose keys
  -- pass are the same
  pub same_filtered : ((a b : K) → R a b ≡ Equal → a ≡ b) → (p : K → Bool) (es fs : List (K × X))
      → IsStrictlySortedBy R (keys_of es) → IsStrictlySortedBy R (keys_of fs)
      → ((q : K) → p q ≡ true → lookup (is_at (R q)) es ≡ lookup (is_at (R q)) fs) → filter (λ e. p e.0) es ≡ filter (λ e. p e.0) fs
  same_filtered tie p es fs one other same =
      same_entries tie (filter (λ e. p e.0) es) (filter (λ e. p e.0) fs) (sorted-filter p es one) (sorted-filter p fs other)
      (λ q. by_key q es ∙ by_test q (p q) refl ∙ sym (by_key q fs))
    where
      by_key : (q : K) (gs : List (K × X)) → lookup (is_at (R q)) (filter (λ e. p e.0) gs) ≡ cond (p q) (lookup (is_at (R q)) gs) None
      by_key q gs = lookup-filter-keys (is_at (R q)) p (p q) (λ k at. ap p (sym (tie q k (equal_from_test (R q k) at)))) gs

      by_test : (q : K) (b : Bool) → p q ≡ b → cond (p q) (lookup (is_at (R q)) es) None ≡ cond (p q) (lookup (is_at (R q)) fs) None
      by_test q true is = ap (λ b. cond b (lookup (is_at (R q)) es) None) is ∙ same q is
          ∙ sym (ap (λ b. cond b (lookup (is_at (R q)) fs) None) is)
      by_test q false is = ap (λ b. cond b (lookup (is_at (R q)) es) None) is ∙ sym (ap (λ b. cond b (lookup (is_at (R q)) fs) None) is)

-- what holds of each value, and of one that is put among them, holds of each then
pub each-insert_entry : {K X : Type 0} (R : K → K → Ordering) (P : X → Type 0) (es : List (K × X)) (k : K) (v : X)
    → AllByRecursion (λ (e : K × X). P e.1) es → P v → AllByRecursion (λ (e : K × X). P e.1) (insert_entry R es k v)
each-insert_entry R P [] k v each new = (new, tt)
each-insert_entry {K} {X} R P (e ∷ es) k v each new =
    elim (R k e.0) as (λ r. AllByRecursion (λ (f : K × X). P f.1)
    (match_ordering r ((k, v) ∷ e ∷ es) ((e.0, v) ∷ es) (e ∷ insert_entry R es k v))) [
      | Less ↦ (new, each)
      | Equal ↦ (new, each.1)
      | Greater ↦ (each.0, each-insert_entry R P es k v each.1 new)
    ]

-- Entries in the order of their ids that look-ups cannot tell apart are equal.
use Rattle.std.proofs.Common.{◌≡◌, Bool, true, false, cond, List, [], ◌∷◌, Option, Some, None, refl, sym, ◌∙◌, ap, subst}
use Rattle.std.specs.List.{AllByRecursion}
use Rattle.std.specs.List.Sorted.{IsStrictlySortedBy}
use Rattle.std.specs.Map.{lookup, keys_of}
use Rattle.std.specs.BTreeMap.{is_at}
use Rattle.std.specs.Ordering.{is_eq, ordering_reverse}
use Rattle.std.specs.declared.cmp.Ordering.{Ordering}
use Rattle.std.specs.declared.cmp.Ordering.TheVariants.{Less, Equal, Greater}
use Rattle.std.specs.Cmp.{tied_itself}
use Rattle.mw_types.specs.declared.identity.RecordId.{RecordId}
use Rattle.mw_types.specs.Orders.{id_cmp}
use Rattle.mw_types.proofs.OrderLaws.{id_cmp-total}
use Rattle.list_lemmas.proofs.Lists.{each-weaker, none_some, some_same}
use Rattle.live_outlet.proofs.Finding.{same_found}

-- what is stored under an id
abbrev at_id : {X : Type 0} → List (RecordId × X) → RecordId → Option X
at_id es id = lookup (is_at (id_cmp id)) es

-- the first entry is found
at_head : {X : Type 0} (id : RecordId) (x : X) (es : List (RecordId × X)) → at_id ((id, x) ∷ es) id ≡ Some x
at_head id x es = ap (λ o. cond (is_eq o) (Some x) (at_id es id)) (tied_itself id_cmp-total id)

-- an id before all others is not found
below_all : {X : Type 0} (id : RecordId) (es : List (RecordId × X)) → AllByRecursion (λ other. id_cmp id other ≡ Less) (keys_of es)
    → at_id es id ≡ None
below_all id [] each = refl
below_all id (e ∷ es) each = ap (λ o. cond (is_eq o) (Some e.1) (at_id es id)) each.0 ∙ below_all id es each.1

-- nor one before the first
below_first : {X : Type 0} (id first : RecordId) (x : X) (es : List (RecordId × X)) → id_cmp id first ≡ Less
    → AllByRecursion (λ other. id_cmp first other ≡ Less) (keys_of es) → at_id ((first, x) ∷ es) id ≡ None
below_first id first x es less each = below_all id ((first, x) ∷ es) (
  less,
  each-weaker (λ other. id_cmp first other ≡ Less) (λ other. id_cmp id other ≡ Less)
      (λ other above. id_cmp-total.trans id first other less above) (keys_of es) each,
)

-- behind a first entry of the same id the others cannot be told apart either
at_tails : {X : Type 0} (id : RecordId) (x y : X) (es fs : List (RecordId × X))
    → AllByRecursion (λ other. id_cmp id other ≡ Less) (keys_of es)
    → AllByRecursion (λ other. id_cmp id other ≡ Less) (keys_of fs)
    → ((q : RecordId) → at_id ((id, x) ∷ es) q ≡ at_id ((id, y) ∷ fs) q) → (q : RecordId) → at_id es q ≡ at_id fs q
at_tails {X} id x y es fs one other same q = by_test (is_at (id_cmp q) id) refl (same q)
  where
    by_test : (b : Bool) → is_at (id_cmp q) id ≡ b → cond b (Some x) (at_id es q) ≡ cond b (Some y) (at_id fs q) → at_id es q ≡ at_id fs q
    by_test true at both =
        let is : q ≡ id = same_found q id at in
        ap (at_id es) is ∙ below_all id es one ∙ sym (below_all id fs other) ∙ ap (at_id fs) (sym is)
    by_test false at both = both

-- entries in order
pub same_entries : {X : Type 0} (es fs : List (RecordId × X)) → IsStrictlySortedBy id_cmp (keys_of es)
    → IsStrictlySortedBy id_cmp (keys_of fs)
    → ((id : RecordId) → at_id es id ≡ at_id fs id) → es ≡ fs
unfolding IsStrictlySortedBy
same_entries [] [] one other same = refl
same_entries [] (f ∷ fs) one other same = absurd (none_some f.1 (same f.0 ∙ at_head f.0 f.1 fs))
same_entries (e ∷ es) [] one other same = absurd (none_some e.1 (sym (same e.0) ∙ at_head e.0 e.1 es))
same_entries {X} (e ∷ es) (f ∷ fs) one other same =
    by_heads (id_cmp e.0 f.0) refl (same_entries es fs one.1 other.1)
  where
    by_heads : (o : Ordering) → id_cmp e.0 f.0 ≡ o → (((id : RecordId) → at_id es id ≡ at_id fs id) → es ≡ fs) → e ∷ es ≡ f ∷ fs
    by_heads Less at rest = absurd (none_some e.1 (sym (below_first e.0 f.0 f.1 fs at other.0) ∙ sym (same e.0) ∙ at_head e.0 e.1 es))
    by_heads Greater at rest =
        let back : id_cmp f.0 e.0 ≡ Less = id_cmp-total.antisymm f.0 e.0 ∙ ap ordering_reverse at in
        absurd (none_some f.1 (sym (below_first f.0 e.0 e.1 es back one.0) ∙ same f.0 ∙ at_head f.0 f.1 fs))
    by_heads Equal at rest =
        let id : e.0 ≡ f.0 = same_found e.0 f.0 (ap is_eq at) in
        let value : e.1 ≡ f.1 =
        some_same e.1 f.1 (sym (at_head e.0 e.1 es) ∙ same e.0 ∙ ap (at_id (f ∷ fs)) id ∙ at_head f.0 f.1 fs) in
        let tails = rest (at_tails e.0 e.1 f.1 es fs one.0
        (subst (λ (i : RecordId). AllByRecursion (λ o. id_cmp i o ≡ Less) (keys_of fs)) (sym id) other.0)
        (λ q. same q ∙ ap (λ (i : RecordId). at_id ((i, f.1) ∷ fs) q) (sym id))) in
        λ i. (id i, value i) ∷ tails i

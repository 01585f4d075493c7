-- What waits, found by its ids, as deliveries are taken and noted one after another.
use Rattle.std.proofs.Common.{◌≡◌, ◌∙◌, Bool, true, false, cond, List, [], ◌∷◌, ◌++◌, refl, sym, ap, subst, append_assoc, append-nil}
use Rattle.std.specs.Prelude.{Option, Some, None, not}
use Rattle.std.specs.List.{AllByRecursion}
use Rattle.std.specs.List.Sorted.{IsStrictlySortedBy}
use Rattle.std.specs.Ordering.{nat_cmp, is_eq}
use Rattle.std.specs.BTreeMap.{insert_entry}
use Rattle.std.specs.Cmp.{tied_itself}
use Rattle.std.specs.declared.cmp.Ordering.TheVariants.{Less}
use Rattle.std.proofs.lemmas.Bool.{both_ways}
use Rattle.std.proofs.lemmas.Map.Lookups.{exact_unsigned}
use Rattle.list_lemmas.proofs.Lists.{find-none, none_some}
use Rattle.list_lemmas.proofs.Places.{each-behind}
use Rattle.list_lemmas.proofs.Tests.{equal_from_test}
use Rattle.mw_types.specs.Orders.{id_cmp}
use Rattle.mw_types.proofs.OrderLaws.{id_cmp-total}
use Rattle.mw_types.specs.declared.identity.RecordId.{RecordId}
use Rattle.mw_types.specs.declared.delivery.Delivery.{Delivery}
use Rattle.mw_types.specs.declared.entry.Entry.{Entry}
use Rattle.mw_types.specs.declared.entry.Entry.TheVariants.{Handle}
use Rattle.row_parts.specs.Contents.{delivery_cmp, found_delivery, same_id, without_delivery}
use Rattle.run_history.specs.Runs.{still_unhandled}
use Rattle.run_history.proofs.Lookups.{lookup-insert_entry}
use Rattle.history_laws.proofs.IdLaws.{passes_once, same_id-itself, same_id-true}
use Rattle.history_laws.proofs.RowSteps.{both_Equal}
use Rattle.audit.specs.Keeping.{HasChanged, HasTaken, found_then}
use Rattle.audit.specs.Waits.{AreWaiting, waiting_in}
use Rattle.book.proofs.SenderMaps.{same_test}

-- ids tie in their order exactly where they are the same, whichever comes first
tie-same : (a b : RecordId) → is_eq (id_cmp a b) ≡ same_id b a
tie-same a b = same_test (is_eq (id_cmp a b)) (same_id b a)
    (λ tie. subst (λ (i : RecordId). same_id i a ≡ true) (tied tie) (same_id-itself a))
    (λ same. subst (λ (i : RecordId). is_eq (id_cmp a i) ≡ true) (sym (same_id-true b a same)) (ap is_eq (tied_itself id_cmp-total a)))
  where
    tied : is_eq (id_cmp a b) ≡ true → a ≡ b
    tied tie =
        let parts = both_Equal (nat_cmp a.commit b.commit) (nat_cmp a.index b.index) (equal_from_test (id_cmp a b) tie) in
        let p = exact_unsigned a.commit b.commit parts.0 in
        let q = exact_unsigned a.index b.index parts.1 in
        λ i. record { commit = p i; index = q i }

-- ---- one is taken

-- none is left of none
cond-none : {X : Type 0} (b : Bool) (o : Option X) → o ≡ None → cond b None o ≡ o
cond-none true o none = sym none
cond-none false o none = refl

-- what is found without the delivery of an id
found-without : (id gone : RecordId) (ds : List Delivery)
    → found_delivery id (without_delivery gone ds) ≡ cond (same_id id gone) None (found_delivery id ds)
found-without id gone [] = sym (cond-none (same_id id gone) (found_delivery id []) refl)
found-without id gone (d ∷ ds) = by_tests (same_id d.id gone) (same_id d.id id) refl refl (found-without id gone ds)
  where
    rest : List Delivery
    rest = without_delivery gone ds

    behind : (c g : Bool) → same_id id gone ≡ g → (c ≡ true → g ≡ true)
        → cond (same_id id gone) None (found_delivery id ds) ≡ cond (same_id id gone) None (cond c (Some d) (found_delivery id ds))
    behind true g is both = ap (λ t. cond t None (found_delivery id ds)) (is ∙ both refl)
        ∙ sym (ap (λ t. cond t None (Some d)) (is ∙ both refl))
    behind false g is both = refl

    before : (c g : Bool) → same_id id gone ≡ g → (c ≡ true → g ≡ false)
        → cond c (Some d) (cond (same_id id gone) None (found_delivery id ds))
        ≡ cond (same_id id gone) None (cond c (Some d) (found_delivery id ds))
    before true g is apart = sym (ap (λ t. cond t None (Some d)) (is ∙ apart refl))
    before false g is apart = refl

    by_tests : (b c : Bool) → same_id d.id gone ≡ b → same_id d.id id ≡ c
        → found_delivery id rest ≡ cond (same_id id gone) None (found_delivery id ds)
        → found_delivery id (cond (not b) (d ∷ rest) rest) ≡ cond (same_id id gone) None (cond c (Some d) (found_delivery id ds))
    by_tests true c gone_is id_is again = again ∙ behind c (same_id id gone) refl
        (λ same. subst (λ (i : RecordId). same_id i gone ≡ true) (same_id-true d.id id (id_is ∙ same)) gone_is)
    by_tests false c gone_is id_is again = ap (λ t. cond t (Some d) (found_delivery id rest)) id_is
        ∙ ap (cond c (Some d)) again
        ∙ before c (same_id id gone) refl
        (λ same. subst (λ (i : RecordId). same_id i gone ≡ false) (same_id-true d.id id (id_is ∙ same)) gone_is)

-- what is taken waits no more
taken-waiting : (entry : Entry) (unhandled : List Delivery) (old new : List (RecordId × Delivery)) → AreWaiting unhandled old
    → HasTaken entry old new → AreWaiting (still_unhandled entry unhandled) new
taken-waiting (Handle seq row handled effects) unhandled old new waiting taken id =
    taken id ∙ ap (cond (same_id id handled) None) (waiting id) ∙ sym (found-without id handled unhandled)
taken-waiting _ unhandled old new waiting taken id = taken id ∙ waiting id

-- ---- more are noted

-- once one more is noted, the others lead to the same
pub noted-one : (d : Delivery) (ds : List Delivery) (now new : List (RecordId × Delivery)) (id : RecordId)
    → new ≡ insert_entry id_cmp now d.id d → found_then id ds (waiting_in new id) ≡ found_then id (d ∷ ds) (waiting_in now id)
noted-one d ds now new id noted = ap (found_then id ds)
    (ap (λ (l : List (RecordId × Delivery)). waiting_in l id) noted
    ∙ lookup-insert_entry id_cmp-total now d.id d id
    ∙ ap (λ b. cond b (Some d) (waiting_in now id)) (tie-same id d.id))

-- what is found with one more behind
found-push : (id : RecordId) (ds : List Delivery) (d : Delivery) → (same_id d.id id ≡ true → found_delivery id ds ≡ None)
    → cond (same_id d.id id) (Some d) (found_delivery id ds) ≡ found_delivery id (ds ++ d ∷ [])
found-push id [] d new = refl
found-push id (x ∷ ds) d new = by_tests (same_id x.id id) (same_id d.id id) refl refl (found-push id ds d)
  where
    by_tests : (b c : Bool) → same_id x.id id ≡ b → same_id d.id id ≡ c
        → ((same_id d.id id ≡ true → found_delivery id ds ≡ None)
        → cond (same_id d.id id) (Some d) (found_delivery id ds) ≡ found_delivery id (ds ++ d ∷ []))
        → cond (same_id d.id id) (Some d) (cond b (Some x) (found_delivery id ds)) ≡ cond b (Some x) (found_delivery id (ds ++ d ∷ []))
    by_tests true true x_is d_is again =
        absurd (none_some x (sym (new d_is) ∙ ap (λ t. cond t (Some x) (found_delivery id ds)) x_is))
    by_tests true false x_is d_is again = ap (λ t. cond t (Some d) (Some x)) d_is
    by_tests false c x_is d_is again = again
        (λ same. sym (ap (λ t. cond t (Some x) (found_delivery id ds)) x_is) ∙ new same)

-- in a list in order each before a place is below what stands there
below-place : (ds : List Delivery) (d : Delivery) (es : List Delivery) → IsStrictlySortedBy delivery_cmp (ds ++ d ∷ es)
    → AllByRecursion (λ (x : Delivery). delivery_cmp x d ≡ Less) ds
unfolding IsStrictlySortedBy
below-place [] d es sorted = tt
below-place (x ∷ ds) d es sorted =
    ((each-behind (λ y. delivery_cmp x y ≡ Less) ds (d ∷ es) sorted.0).0, below-place ds d es sorted.1)

-- so none of them has its id
none-before : (id : RecordId) (d : Delivery) → same_id d.id id ≡ true → (ds : List Delivery)
    → AllByRecursion (λ (x : Delivery). delivery_cmp x d ≡ Less) ds → AllByRecursion (λ (x : Delivery). same_id x.id id ≡ false) ds
none-before id d same [] below = tt
none-before id d same (x ∷ ds) below = (by_test (same_id x.id id) refl, none-before id d same ds below.1)
  where
    by_test : (b : Bool) → same_id x.id id ≡ b → b ≡ false
    by_test true is = absurd (both_ways (same_id d.id id) (passes_once id x d below.0 is) same)
    by_test false is = refl

-- what is found once these are noted is what is found with them behind
found-then : (id : RecordId) (ds sent : List Delivery) → IsStrictlySortedBy delivery_cmp (ds ++ sent)
    → found_then id sent (found_delivery id ds) ≡ found_delivery id (ds ++ sent)
found-then id ds [] sorted = ap (found_delivery id) (sym (append-nil ds))
found-then id ds (d ∷ sent) sorted =
    ap (found_then id sent) (found-push id ds d
    (λ same. find-none (λ (x : Delivery). same_id x.id id) ds (none-before id d same ds (below-place ds d sent sorted))))
    ∙ found-then id (ds ++ d ∷ []) sent (subst (IsStrictlySortedBy delivery_cmp) (sym (append_assoc ds (d ∷ []) sent)) sorted)
    ∙ ap (found_delivery id) (append_assoc ds (d ∷ []) sent)

-- what waits is found once an entry has come
pub waiting-changed : (entry : Entry) (unhandled sent noted : List Delivery) (old new : List (RecordId × Delivery))
    → AreWaiting unhandled old → HasChanged entry noted old new → noted ≡ sent
    → IsStrictlySortedBy delivery_cmp (still_unhandled entry unhandled ++ sent)
    → AreWaiting (still_unhandled entry unhandled ++ sent) new
waiting-changed entry unhandled sent noted old new waiting changed same sorted id =
    changed.noted id ∙ ap (λ (l : List Delivery). found_then id l (waiting_in changed.between id)) same
    ∙ ap (found_then id sent) (taken-waiting entry unhandled old changed.between waiting changed.taken id)
    ∙ found-then id (still_unhandled entry unhandled) sent sorted

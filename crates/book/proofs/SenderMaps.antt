-- What is known of senders, as ids are noted, forgotten and settled one after another.
use Rattle.std.proofs.Common.{◌≡◌, ℕ, ◌+◌, ◌<◌, ◌≤◌, ◌==◌, ◌&&◌, nat_lt, Bool, true, false, cond, List, Some, None, refl, sym, ◌∙◌, ap, subst, arith, inl, inr}
use Rattle.std.specs.Prelude.{◌||◌, ◌⊎◌}
use Rattle.std.specs.Ordering.{nat_cmp, is_eq}
use Rattle.std.specs.BTreeMap.{insert_entry, is_at}
use Rattle.std.proofs.lemmas.Map.Lookups.{exact_unsigned}
use Rattle.std.proofs.lemmas.Bool.{eqb-true, eq-eqb, ltb-true, lt-ltb, cases_lt}
use Rattle.std.specs.Cmp.{tied_itself, first_so}
use Rattle.list_lemmas.proofs.Tests.{or_true, equal_from_test}
use Rattle.mw_types.specs.declared.identity.RecordId.{RecordId}
use Rattle.mw_types.specs.declared.identity.RowName.{RowName}
use Rattle.mw_types.specs.Orders.{id_cmp}
use Rattle.mw_types.proofs.OrderLaws.{id_cmp-total}
use Rattle.row_parts.specs.Contents.{same_id}
use Rattle.run_history.proofs.Lookups.{lookup-insert_entry}
use Rattle.history_laws.proofs.IdLaws.{same_id-itself, same_id-true}
use Rattle.history_laws.proofs.RowSteps.{both_Equal}
use Rattle.book.specs.Senders.{sender_of}
use Rattle.book.specs.Sending.{is_among_sent, HasSent, HasForgotten}

-- tests of which each follows from the other are the same
pub same_test : (a b : Bool) → (a ≡ true → b ≡ true) → (b ≡ true → a ≡ true) → a ≡ b
same_test true b forth back = sym (forth refl)
same_test false true forth back = back refl
same_test false false forth back = refl

-- ids tie in their order exactly where they are the same
is_eq-id_cmp : (a b : RecordId) → is_eq (id_cmp a b) ≡ same_id a b
is_eq-id_cmp a b = same_test (is_eq (id_cmp a b)) (same_id a b)
    (λ tie. subst (λ (i : RecordId). same_id a i ≡ true) (tied tie) (same_id-itself a))
    (λ same. subst (λ (i : RecordId). is_eq (id_cmp a i) ≡ true) (same_id-true a b same) (ap is_eq (tied_itself id_cmp-total a)))
  where
    tied : is_eq (id_cmp a b) ≡ true → a ≡ b
    tied tie =
        let parts = both_Equal (nat_cmp a.commit b.commit) (nat_cmp a.index b.index) (equal_from_test (id_cmp a b) tie) in
        let p = exact_unsigned a.commit b.commit parts.0 in
        let q = exact_unsigned a.index b.index parts.1 in
        λ i. record { commit = p i; index = q i }

-- two ids are the same whichever comes first
same_id-turned : (a b : RecordId) → same_id a b ≡ same_id b a
same_id-turned a b = same_test (same_id a b) (same_id b a)
    (λ same. subst (λ (i : RecordId). same_id i a ≡ true) (same_id-true a b same) (same_id-itself a))
    (λ same. subst (λ (i : RecordId). same_id i b ≡ true) (same_id-true b a same) (same_id-itself b))

-- below the next number are a number and those below it
below-next : (i n : ℕ) → nat_lt i (n + 1) ≡ ((i == n) || nat_lt i n)
below-next i n = same_test (nat_lt i (n + 1)) ((i == n) || nat_lt i n) (λ less. forth (ltb-true i (n + 1) less) (cases_lt i n))
    (back (i == n) refl)
  where
    forth : i < n + 1 → (i < n) ⊎ (n ≤ i) → ((i == n) || nat_lt i n) ≡ true
    forth less (inl below) = ap (λ b. (i == n) || b) (lt-ltb i n below) ∙ or_true (i == n)
    forth less (inr above) = ap (λ b. b || nat_lt i n) (eq-eqb i n (omega (arith, less, above)))

    back : (b : Bool) → (i == n) ≡ b → (b || nat_lt i n) ≡ true → nat_lt i (n + 1) ≡ true
    back true same either = let is = eqb-true i n same in lt-ltb i (n + 1) (omega (arith, is))
    back false same either = let less = ltb-true i n either in lt-ltb i (n + 1) (omega (arith, less))

-- among one more are that one, and those before it
among-next : (commit n : ℕ) (id : RecordId) → is_among_sent commit (n + 1) id
    ≡ (same_id id (record { commit = commit; index = n }) || is_among_sent commit n id)
among-next commit n id = by_commit (id.commit == commit)
  where
    by_commit : (b : Bool) → (b && nat_lt id.index (n + 1)) ≡ ((b && (id.index == n)) || (b && nat_lt id.index n))
    by_commit true = below-next id.index n
    by_commit false = refl

-- an id among those of an entry has the entry's number
pub among-commit : (commit count : ℕ) (id : RecordId) → is_among_sent commit count id ≡ true → id.commit ≡ commit
among-commit commit count id among = eqb-true id.commit commit (first_so (id.commit == commit) (nat_lt id.index count) among)

-- of two tests with one answer, either may come first
either : {A : Type 0} (a b : Bool) (x y : A) → cond (a || b) x y ≡ cond a x (cond b x y)
either true b x y = refl
either false b x y = refl

-- once one more is noted
pub sent-more : (commit n : ℕ) (name : RowName) (old now new : List (RecordId × RowName)) → HasSent commit name n old now
    → new ≡ insert_entry id_cmp now (record { commit = commit; index = n }) name → HasSent commit name (n + 1) old new
sent-more commit n name old now new sent noted id =
    let this : RecordId = record { commit = commit; index = n } in
    ap (λ (l : List (RecordId × RowName)). sender_of l id) noted
    ∙ lookup-insert_entry id_cmp-total now this name id
    ∙ ap (λ b. cond b (Some name) (sender_of now id)) (is_eq-id_cmp id this)
    ∙ ap (cond (same_id id this) (Some name)) (sent id)
    ∙ sym (either (same_id id this) (is_among_sent commit n id) (Some name) (sender_of old id))
    ∙ sym (ap (λ b. cond b (Some name) (sender_of old id)) (among-next commit n id))

-- once one more is forgotten
pub forgotten-more : (commit n : ℕ) (old now new : List (RecordId × RowName)) → HasForgotten commit n old now
    → ((id : RecordId) → sender_of new id ≡ cond (is_at (id_cmp (record { commit = commit; index = n })) id) None (sender_of now id))
    → HasForgotten commit (n + 1) old new
forgotten-more commit n old now new forgotten removed id =
    let this : RecordId = record { commit = commit; index = n } in
    removed id
    ∙ ap (λ b. cond b None (sender_of now id)) (is_eq-id_cmp this id ∙ same_id-turned this id)
    ∙ ap (cond (same_id id this) None) (forgotten id)
    ∙ sym (either (same_id id this) (is_among_sent commit n id) None (sender_of old id))
    ∙ sym (ap (λ b. cond b None (sender_of old id)) (among-next commit n id))

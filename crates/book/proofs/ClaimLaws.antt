-- The last claims of a history, and what is known under a lease.
use Rattle.std.proofs.Common.{◌≡◌, ◌<◌, ◌≤◌, ◌+◌, ℕ, zero, suc, true, false, cond, List, [], ◌∷◌, ◌++◌, length, fold, refl, sym, ◌∙◌, ap, subst, arith, inl, inr}
use Rattle.std.specs.Prelude.{Option, Some, None, Result, Ok, Err, IsErrOf, ◌↔◌, ◌==◌, slice_get, nat_lt}
use Rattle.std.specs.List.{enumerate_from}
use Rattle.std.specs.BTreeMap.{is_at}
use Rattle.std.specs.Ordering.{nat_cmp, is_eq}
use Rattle.std.specs.Cmp.{nat_cmp_is}
use Rattle.std.specs.declared.cmp.Ordering.TheVariants.{Less, Equal, Greater}
use Rattle.std.proofs.lemmas.Bool.{cases_lt, eq-eqb, ne_eqb, ltb-true, lt-ltb}
use Rattle.mw_types.specs.declared.identity.RowName.{RowName}
use Rattle.mw_types.specs.declared.entry.Entry.{Entry}
use Rattle.mw_types.specs.declared.entry.Entry.TheVariants.{Claim, Inject, Handle, Fire, Ack, Purge}
use Rattle.run_history.specs.Made.{row_written}
use Rattle.run_history.specs.Fences.{IsClaimed, is_claim, later_claim, last_claim}
use Rattle.list_lemmas.proofs.Lists.{none_some, some_same}
use Rattle.run_history.proofs.Claims.{last_claim-push}
use Rattle.book.specs.Books.{BookView, LeaseView}
use Rattle.book.specs.Answers.{IsStaleWhere, IsFullWhere}
use Rattle.book.specs.declared.refusals.WriteRefusal.{WriteRefusal}
use Rattle.book.specs.declared.refusals.WriteRefusal.TheVariants as refusals
use Rattle.book.specs.Appending.{KnowsClaims, later_than}

-- an entry on a row is no claim
pub row-no_claim : (interval : ℕ) (entry : Entry) (name : RowName) → row_written entry ≡ Some name → is_claim interval entry ≡ false
row-no_claim interval (Claim worker claimed) name written = absurd (none_some name written)
row-no_claim interval (Inject seq part line item) name written = refl
row-no_claim interval (Handle seq row id effects) name written = refl
row-no_claim interval (Fire seq row timer mark effects) name written = refl
row-no_claim interval (Ack seq row id) name written = refl
row-no_claim interval (Purge seq row floor) name written = refl

-- what is known of the claims stays known with an entry on a row
pub KnowsClaims-row : (newest : ℕ → Option ℕ) (old new : List Entry) (entry : Entry) (name : RowName) → KnowsClaims newest old
    → row_written entry ≡ Some name → new ≡ old ++ entry ∷ [] → KnowsClaims newest new
KnowsClaims-row newest old new entry name knows written appended interval =
    knows interval
    ∙ sym (last_claim-push interval old entry ∙ ap (λ b. cond b (Some (length old)) (last_claim interval old))
    (row-no_claim interval entry name written))
    ∙ ap (last_claim interval) (sym appended)

-- ---- the last claim, where there is one

-- once there is a last claim, the last of more entries is not before it
last-from : (interval n s : ℕ) (entries : List Entry) → s ≤ n
    → (t : ℕ) × (fold (later_claim interval) (Some s) (enumerate_from n entries) ≡ Some t) × (s ≤ t)
last-from interval n s [] before = (s, refl, omega arith)
last-from interval n s (e ∷ es) before = elim (is_claim interval e)
    as (λ b. (t : ℕ) × (fold (later_claim interval) (cond b (Some n) (Some s)) (enumerate_from (n + 1) es) ≡ Some t) × (s ≤ t)) [
      | true ↦ let later = last-from interval (n + 1) n es (omega arith) in let after = later.2 in
          (later.0, later.1, omega (arith, before, after))
      | false ↦ last-from interval (n + 1) s es (omega (arith, before))
    ]

-- the last claim is not before a claim that is there
claimed-from : (interval worker n i : ℕ) (last : Option ℕ) (entries : List Entry) → slice_get entries i ≡ Some (Claim worker interval)
    → (t : ℕ) × (fold (later_claim interval) last (enumerate_from n entries) ≡ Some t) × (n + i ≤ t)
claimed-from interval worker n i last [] at = absurd (none_some (Claim worker interval) at)
claimed-from interval worker n zero last (e ∷ es) at =
    let later = last-from interval (n + 1) n es (omega arith) in
    let after = later.2 in
    let is : is_claim interval e ≡ true = ap (is_claim interval) (some_same e (Claim worker interval) at) ∙ eq-eqb interval interval refl in
    (later.0, ap (λ b. fold (later_claim interval) (cond b (Some n) last) (enumerate_from (n + 1) es)) is ∙ later.1, omega (arith, after))
claimed-from interval worker n (suc i) last (e ∷ es) at =
    let later = claimed-from interval worker (n + 1) i (cond (is_claim interval e) (Some n) last) es at in
    let after = later.2 in
    (later.0, later.1, omega (arith, after))

-- the interval of a lease has a last claim, which is the lease's or a later one
pub last-claimed : (history : List Entry) (lease : LeaseView) → IsClaimed lease.interval lease.seq history
    → (t : ℕ) × (last_claim lease.interval history ≡ Some t) × (lease.seq ≤ t)
last-claimed history lease claimed =
    let found = claimed-from lease.interval claimed.0 0 lease.seq None history claimed.1 in
    let after = found.2 in (found.0, found.1, omega (arith, after))

-- a later claim than the lease's is the last of its interval
pub later-exact : (history : List Entry) (lease : LeaseView) (newer : ℕ)
    → (later_than lease.seq (last_claim lease.interval history) ≡ Some newer) ↔
    ((last_claim lease.interval history ≡ Some newer) × (lease.seq < newer))
later-exact history lease newer = (forth (last_claim lease.interval history), back (last_claim lease.interval history))
  where
    forth : (o : Option ℕ) → later_than lease.seq o ≡ Some newer → (o ≡ Some newer) × (lease.seq < newer)
    forth None later = absurd (none_some newer later)
    forth (Some t) later = elim (nat_lt lease.seq t) as
        (λ b. nat_lt lease.seq t ≡ b → cond b (Some t) None ≡ Some newer → (Some t ≡ Some newer) × (lease.seq < newer)) [
          | true ↦ λ less same. (same, subst (λ n. lease.seq < n) (some_same t newer same) (ltb-true lease.seq t less))
          | false ↦ λ _ none. absurd (none_some newer none)
        ] refl later

    back : (o : Option ℕ) → (o ≡ Some newer) × (lease.seq < newer) → later_than lease.seq o ≡ Some newer
    back o is = ap (later_than lease.seq) is.0 ∙ ap (λ b. cond b (Some newer) None) (lt-ltb lease.seq newer is.1)

-- where no later claim is there, the lease's is the last of its interval
pub later-own : (history : List Entry) (lease : LeaseView) → IsClaimed lease.interval lease.seq history
    → later_than lease.seq (last_claim lease.interval history) ≡ None → last_claim lease.interval history ≡ Some lease.seq
later-own history lease claimed none =
    let found = last-claimed history lease claimed in
    let after = found.2 in
    elim (cases_lt lease.seq found.0) [
      | inl less ↦ absurd (none_some found.0 (sym none ∙ (later-exact history lease found.0).1 (found.1, less)))
      | inr past ↦ let same : found.0 ≡ lease.seq = omega (arith, past, after) in found.1 ∙ ap Some same
    ]

-- ---- stale writes

-- the number that a refusal names
abbrev number_of : WriteRefusal → ℕ
number_of (refusals.Stale newer) = newer
number_of refusals.HistoryFull = 0
number_of refusals.NoMemory = 0
number_of refusals.KeeperFault = 0

-- why a call refused, or this where it did not
abbrev why_of : {T E : Type 0} → E → Result T E → E
why_of other (Ok x) = other
why_of other (Err why) = why

-- a refusal is the same, whatever an acceptance would have answered
pub err-same : {T U E : Type 0} (why other : E) → IsErrOf {T = T} (Err why) other → IsErrOf {T = U} (Err why) other
err-same why other same = ap Err (ap (why_of other) same)

-- why a refusal refused
pub err-is : {T E : Type 0} (why other : E) → IsErrOf {T = T} (Err why) other → why ≡ other
err-is why other same = ap (why_of other) same

-- a refusal that is said to be this one
pub is-err : {T E : Type 0} (why other : E) → why ≡ other → IsErrOf {T = T} (Err why) other
is-err why other same = ap Err same

-- a refusal for a later claim is exact
pub stale-some : {T : Type 0} (history : List Entry) (lease : LeaseView) (n : ℕ)
    → ((newer : ℕ) → (Some n ≡ Some newer) ↔ ((last_claim lease.interval history ≡ Some newer) × (lease.seq < newer)))
    → IsStaleWhere {T = T} history lease (Err (refusals.Stale n))
stale-some history lease n later newer = (
  λ same. (later newer).0 (ap Some (ap number_of (err-is (refusals.Stale n) (refusals.Stale newer) same))),
  λ is. is-err (refusals.Stale n) (refusals.Stale newer) (ap refusals.Stale (some_same n newer ((later newer).1 is))),
)

-- and then the history is not said to be full
pub full-some : {T : Type 0} (book : BookView) (lease : LeaseView) (n : ℕ)
    → ((newer : ℕ) → (Some n ≡ Some newer) ↔ ((last_claim lease.interval book.history ≡ Some newer) × (lease.seq < newer)))
    → IsFullWhere {T = T} book.limit book.history lease (Err (refusals.Stale n))
full-some book lease n later =
    let is = (later n).0 refl in
    let less = is.1 in (
      λ same. let clash : refusals.Stale n ≡ refusals.HistoryFull = err-is (refusals.Stale n) refusals.HistoryFull same in absurd cc,
      λ full. let equal : n ≡ lease.seq = some_same n lease.seq (sym is.0 ∙ full.1) in absurd (omega (arith, less, equal)),
    )

-- a refusal of the test of the sequencer is exact for the whole call
pub stale-again : {T U : Type 0} (history : List Entry) (lease : LeaseView) (why : WriteRefusal)
    → IsStaleWhere {T = T} history lease (Err why) → IsStaleWhere {T = U} history lease (Err why)
stale-again history lease why stale newer =
    (λ same. (stale newer).0 (err-same why (refusals.Stale newer) same), λ is. err-same why (refusals.Stale newer) ((stale newer).1 is))

-- ---- a claim

-- two numbers are equal by their order where they are equal
is_at_nat : (a b : ℕ) → is_at (nat_cmp a) b ≡ (a == b)
is_at_nat a b = elim (cases_lt a b) [
  | inl less ↦ ap is_eq (sym (nat_cmp_is a b Less less)) ∙ sym (ne_eqb a b (λ same. omega (arith, less, same)))
  | inr past ↦ elim (cases_lt b a) [
    | inl more ↦ ap is_eq (sym (nat_cmp_is a b Greater more)) ∙ sym (ne_eqb a b (λ same. omega (arith, more, same)))
    | inr over ↦ let same : a ≡ b = omega (arith, past, over) in ap is_eq (sym (nat_cmp_is a b Equal same)) ∙ sym (eq-eqb a b same)
  ]
]

-- what is known of the claims, with one more claim
pub KnowsClaims-claim : (newest after : ℕ → Option ℕ) (old new : List Entry) (worker interval number : ℕ) → KnowsClaims newest old
    → new ≡ old ++ Claim worker interval ∷ [] → number ≡ length old
    → ((q : ℕ) → after q ≡ cond (is_at (nat_cmp interval) q) (Some number) (newest q)) → KnowsClaims after new
KnowsClaims-claim newest after old new worker interval number knows appended is put q =
    put q
    ∙ ap (λ b. cond b (Some number) (newest q)) (is_at_nat interval q)
    ∙ ap (λ n. cond (interval == q) (Some n) (newest q)) is
    ∙ ap (cond (interval == q) (Some (length old))) (knows q)
    ∙ sym (last_claim-push q old (Claim worker interval))
    ∙ ap (last_claim q) (sym appended)

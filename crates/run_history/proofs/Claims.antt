-- The last claim of an interval, where a history goes on.
use Rattle.std.proofs.Common.{◌≡◌, ℕ, ◌+◌, ◌<◌, ◌≤◌, Bool, true, false, cond, List, [], ◌∷◌, ◌++◌, length, take, drop, fold, refl, sym, ◌∙◌, ap, subst, arith, inl, inr, suc}
use Rattle.std.specs.Prelude.{Option, Some, None, ◌⊎◌, slice_get}
use Rattle.std.proofs.lemmas.Bool.{eq-eqb, eqb-true}
use Rattle.std.proofs.lemmas.Option.{slice_get_within, get_or_from_slice_get}
use Rattle.std.specs.List.{AllByRecursion, enumerate_from}
use Rattle.std.proofs.lemmas.List.{take-append-drop, length-take, take_more}
use Rattle.std.proofs.lemmas.List.Sums.{fold-append}
use Rattle.mw_types.specs.declared.entry.Entry.{Entry}
use Rattle.mw_types.specs.declared.entry.Entry.TheVariants.{Claim}
use Rattle.run_history.specs.Fences.{is_claim, later_claim, last_claim}
use Rattle.run_history.proofs.Making.{enumerate_from-append}
use Rattle.list_lemmas.proofs.Lists.{some_same, none_some}

-- the last claim among entries that are numbered from n on, after an earlier one
abbrev pub claim_from : ℕ → ℕ → Option ℕ → List Entry → Option ℕ
claim_from interval n last entries = fold (later_claim interval) last (enumerate_from n entries)

-- the last claim of a history that goes on
pub last_claim-append : (interval : ℕ) (front rest : List Entry)
    → last_claim interval (front ++ rest) ≡ claim_from interval (length front) (last_claim interval front) rest
last_claim-append interval front rest =
    let zero_more : 0 + length front ≡ length front = omega arith in
    ap (fold (later_claim interval) None) (enumerate_from-append 0 front rest)
    ∙ fold-append (later_claim interval) None (enumerate_from 0 front) (enumerate_from (0 + length front) rest)
    ∙ ap (λ n. claim_from interval n (last_claim interval front) rest) zero_more

-- the last claim, with one more entry
pub last_claim-push : (interval : ℕ) (history : List Entry) (entry : Entry)
    → last_claim interval (history ++ entry ∷ []) ≡ cond (is_claim interval entry) (Some (length history)) (last_claim interval history)
last_claim-push interval history entry = last_claim-append interval history (entry ∷ [])

-- a last claim was there before, or is among the entries
pub claim_from-where : (interval n s : ℕ) (last : Option ℕ) (entries : List Entry) → claim_from interval n last entries ≡ Some s
    → (last ≡ Some s) ⊎ (n ≤ s)
claim_from-where interval n s last [] found = inl found
claim_from-where interval n s last (e ∷ es) found = by_case
    (claim_from-where interval (n + 1) s (cond (is_claim interval e) (Some n) last) es found)
  where
    by_test : (b : Bool) → cond b (Some n) last ≡ Some s → (last ≡ Some s) ⊎ (n ≤ s)
    by_test true same = let is : n ≡ s = some_same n s same in inr (omega (arith, is))
    by_test false same = inl same

    by_case : (cond (is_claim interval e) (Some n) last ≡ Some s) ⊎ (n + 1 ≤ s) → (last ≡ Some s) ⊎ (n ≤ s)
    by_case (inl same) = by_test (is_claim interval e) same
    by_case (inr later) = inr (omega (arith, later))

-- where the last claim of a history is in a beginning, it is the last claim of the beginning
pub last_claim-front : (interval s : ℕ) (front rest : List Entry) → last_claim interval (front ++ rest) ≡ Some s → s < length front
    → last_claim interval front ≡ Some s
last_claim-front interval s front rest last within =
    by_case (claim_from-where interval (length front) s (last_claim interval front) rest
    (sym (last_claim-append interval front rest) ∙ last))
  where
    by_case : (last_claim interval front ≡ Some s) ⊎ (length front ≤ s) → last_claim interval front ≡ Some s
    by_case (inl same) = same
    by_case (inr past) = absurd (omega (arith, past, within))

-- entries without a claim of the interval leave its last claim
pub last_claim-rest : (interval : ℕ) (front rest : List Entry) → AllByRecursion (λ e. is_claim interval e ≡ false) rest
    → last_claim interval (front ++ rest) ≡ last_claim interval front
last_claim-rest interval front rest none = last_claim-append interval front rest ∙ kept (length front) (last_claim interval front) rest none
  where
    kept : (n : ℕ) (last : Option ℕ) (entries : List Entry) → AllByRecursion (λ e. is_claim interval e ≡ false) entries
        → claim_from interval n last entries ≡ last
    kept n last [] none = refl
    kept n last (e ∷ es) none = ap (λ b. claim_from interval (n + 1) (cond b (Some n) last) es) none.0 ∙ kept (n + 1) last es none.1

-- entries among which the last claim of an interval is not found have no claim of it
pub claims-none : (interval n s : ℕ) (last : Option ℕ) (entries : List Entry) → claim_from interval n last entries ≡ Some s → s < n
    → AllByRecursion (λ e. is_claim interval e ≡ false) entries
claims-none interval n s last [] found before = tt
claims-none interval n s last (e ∷ es) found before =
    (here, claims-none interval (n + 1) s (cond (is_claim interval e) (Some n) last) es found (omega (arith, before)))
  where
    later : is_claim interval e ≡ true → (Some n ≡ Some s) ⊎ (n + 1 ≤ s) → ⊥
    later is (inl same) = let equal : n ≡ s = some_same n s same in omega (arith, equal, before)
    later is (inr after) = omega (arith, after, before)

    here : is_claim interval e ≡ false
    here = elim (is_claim interval e) as (λ b. is_claim interval e ≡ b → b ≡ false) [
      | false ↦ λ _. refl
      | true ↦ λ is. absurd (later is (claim_from-where interval (n + 1) s (Some n) es
          (ap (λ b. claim_from interval (n + 1) (cond b (Some n) last) es) (sym is) ∙ found)))
    ] refl

-- the last claim of a history that has a claim, where no claim of its interval follows
pub last_claim-at : (interval worker : ℕ) (before after : List Entry) → AllByRecursion (λ e. is_claim interval e ≡ false) after
    → last_claim interval ((before ++ Claim worker interval ∷ []) ++ after) ≡ Some (length before)
last_claim-at interval worker before after none =
    last_claim-rest interval (before ++ Claim worker interval ∷ []) after none
    ∙ last_claim-push interval before (Claim worker interval)
    ∙ ap (λ b. cond b (Some (length before)) (last_claim interval before)) (eq-eqb interval interval refl)

-- what the test of a claim says
claim-is : (interval : ℕ) (e : Entry) → is_claim interval e ≡ true → (worker : ℕ) × (e ≡ Claim worker interval)
claim-is interval (Claim worker claimed) is = (worker, ap (Claim worker) (eqb-true claimed interval is))
claim-is interval _ is = absurd (cc)

-- a claim that is found among entries that are numbered from n on is there, or was found before
claim_from-there : (interval n s : ℕ) (last : Option ℕ) (entries : List Entry) → claim_from interval n last entries ≡ Some s
    → (last ≡ Some s) ⊎ ((k : ℕ) × (worker : ℕ) × (s ≡ n + k) × (slice_get entries k ≡ Some (Claim worker interval)))
claim_from-there interval n s last [] found = inl found
claim_from-there interval n s last (e ∷ es) found = by_case
    (claim_from-there interval (n + 1) s (cond (is_claim interval e) (Some n) last) es found)
  where
    here : (b : Bool) → is_claim interval e ≡ b → cond b (Some n) last ≡ Some s
        → (last ≡ Some s) ⊎ ((k : ℕ) × (worker : ℕ) × (s ≡ n + k) × (slice_get (e ∷ es) k ≡ Some (Claim worker interval)))
    here true is same = let claim = claim-is interval e is in let number : n ≡ s = some_same n s same in
        inr (0, claim.0, omega (arith, number), ap Some claim.1)
    here false is same = inl same

    by_case : (cond (is_claim interval e) (Some n) last ≡ Some s) ⊎
        ((k : ℕ) × (worker : ℕ) × (s ≡ n + 1 + k) × (slice_get es k ≡ Some (Claim worker interval)))
        → (last ≡ Some s) ⊎ ((k : ℕ) × (worker : ℕ) × (s ≡ n + k) × (slice_get (e ∷ es) k ≡ Some (Claim worker interval)))
    by_case (inl same) = here (is_claim interval e) refl same
    by_case (inr later) = let number = later.2 in inr (suc later.0, later.1, omega (arith, number), later.3)

-- the last claim of an interval is a claim of it
pub last_claim-there : (interval s : ℕ) (history : List Entry) → last_claim interval history ≡ Some s
    → (worker : ℕ) × (slice_get history s ≡ Some (Claim worker interval))
last_claim-there interval s history last = by_case (claim_from-there interval 0 s None history last)
  where
    by_case : (None ≡ Some s) ⊎ ((k : ℕ) × (worker : ℕ) × (s ≡ 0 + k) × (slice_get history k ≡ Some (Claim worker interval)))
        → (worker : ℕ) × (slice_get history s ≡ Some (Claim worker interval))
    by_case (inl none) = absurd (none_some s none)
    by_case (inr there) = let number = there.2 in let same : there.0 ≡ s = omega (arith, number) in
        (there.1, subst (λ n. slice_get history n ≡ Some (Claim there.1 interval)) same there.3)

-- behind a claim the last claim is that one, or a later one
claim_from-rises : (interval n a : ℕ) (entries : List Entry) → a < n → (s : ℕ) × (a ≤ s) × (claim_from interval n (Some a) entries ≡ Some s)
claim_from-rises interval n a [] less = (a, omega arith, refl)
claim_from-rises interval n a (e ∷ es) less =
    let rest = claim_from-rises interval (n + 1) n es (omega arith) in
    let same = claim_from-rises interval (n + 1) a es (omega (arith, less)) in
    elim (is_claim interval e) as (λ b. (s : ℕ) × (a ≤ s) × (claim_from interval (n + 1) (cond b (Some n) (Some a)) es ≡ Some s)) [
      | true ↦ (rest.0, let more = rest.1 in omega (arith, more, less), rest.2)
      | false ↦ (same.0, same.1, same.2)
    ]

-- no claim of an interval is later than the last
pub last_claim-latest : (interval seq worker : ℕ) (history : List Entry) → slice_get history seq ≡ Some (Claim worker interval)
    → (s : ℕ) × (seq ≤ s) × (last_claim interval history ≡ Some s)
last_claim-latest interval seq worker history at =
    let within = slice_get_within history seq (Claim worker interval) at in
    let up_to : take (seq + 1) history ≡ take seq history ++ Claim worker interval ∷ [] =
    take_more history seq (Claim worker interval) within
    ∙ ap (λ e. take seq history ++ e ∷ []) (get_or_from_slice_get history seq (Claim worker interval) (Claim worker interval) at) in
    let number : length (take seq history) ≡ seq = (let len = length-take seq history in omega (arith, len, within)) in
    let claimed : last_claim interval (take (seq + 1) history) ≡ Some seq =
    ap (last_claim interval) up_to ∙ last_claim-push interval (take seq history) (Claim worker interval)
    ∙ ap (λ b. cond b (Some (length (take seq history))) (last_claim interval (take seq history))) (eq-eqb interval interval refl)
    ∙ ap Some number in
    let len : length (take (seq + 1) history) ≡ seq + 1 = (let l = length-take (seq + 1) history in omega (arith, l, within)) in
    let later = claim_from-rises interval (length (take (seq + 1) history)) seq (drop (seq + 1) history) (omega (arith, len)) in (
      later.0,
      later.1,
      sym (ap (last_claim interval) (take-append-drop (seq + 1) history))
          ∙ last_claim-append interval (take (seq + 1) history) (drop (seq + 1) history)
          ∙ ap (λ o. claim_from interval (length (take (seq + 1) history)) o (drop (seq + 1) history)) claimed ∙ later.2,
    )

-- the last claim of an interval is a place of the history
pub last_claim-within : (interval s : ℕ) (history : List Entry) → last_claim interval history ≡ Some s → s < length history
last_claim-within interval s history last =
    let there = last_claim-there interval s history last in slice_get_within history s (Claim there.0 interval) there.1

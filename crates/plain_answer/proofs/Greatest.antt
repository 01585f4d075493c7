-- The places of a row are what its records make of them one after another.
use Rattle.std.proofs.Common.{◌≡◌, ℕ, ◌+◌, ◌<◌, ◌==◌, ◌||◌, Bool, true, false, cond, List, [], ◌∷◌, ◌++◌, map, filter, fold, ℤ, refl, sym, ◌∙◌, ap, subst, arith}
use Rattle.std.specs.Int.{int_max}
use Rattle.std.specs.List.{AllByRecursion, list_any}
use Rattle.std.specs.Ordering.{nat_cmp, match_ordering}
use Rattle.std.specs.declared.cmp.Ordering.TheVariants.{Less, Equal, Greater}
use Rattle.std.proofs.lemmas.Bool.{eq-eqb}
use Rattle.std.proofs.lemmas.Bool.Decides.{nat_tests}
use Rattle.std.proofs.lemmas.List.{append-nil}
use Rattle.std.proofs.lemmas.List.Elements.{filter-append}
use Rattle.std.proofs.lemmas.List.Sums.{fold-append}
use Rattle.mw_types.specs.declared.record.Record.{Record}
use Rattle.row_parts.specs.Contents.{put_in}
use Rattle.plain_answer.specs.Plain.{greatest, places_in}
use Rattle.plain_answer.specs.Places.{with_place, place_of}

-- a list of numbers with one more, in order
abbrev with_number : ℕ → List ℕ → List ℕ
with_number n ns = put_in nat_cmp (λ new old. old) n ns

-- numbers ascend
abbrev Climbs : List ℕ → Type 0
Climbs [] = Unit {0}
Climbs (n ∷ ns) = AllByRecursion (λ m. n < m) ns × Climbs ns

-- what is below the first is below the others
above : (a b : ℕ) (ns : List ℕ) → a < b → AllByRecursion (λ m. b < m) ns → AllByRecursion (λ m. a < m) ns
above a b [] lt each = tt
above a b (n ∷ ns) lt each = (omega (arith, lt, each.0), above a b ns lt each.1)

-- what is below all is below them with one more
with_number-above : (a n : ℕ) (ns : List ℕ) → a < n → AllByRecursion (λ m. a < m) ns → AllByRecursion (λ m. a < m) (with_number n ns)
with_number-above a n [] lt each = (lt, tt)
with_number-above a n (m ∷ ms) lt each =
    elim (nat_cmp n m) as (λ o. AllByRecursion (λ m. a < m) (match_ordering o (n ∷ m ∷ ms) (m ∷ ms) (m ∷ with_number n ms))) [
      | Less ↦ (lt, each)
      | Equal ↦ each
      | Greater ↦ (each.0, with_number-above a n ms lt each.1)
    ]

-- numbers that ascend still do with one more
Climbs-with : (n : ℕ) (ns : List ℕ) → Climbs ns → Climbs (with_number n ns)
Climbs-with n [] up = (tt, tt)
Climbs-with n (m ∷ ms) up =
    elim (nat_cmp n m) as (λ o. nat_cmp n m ≡ o → Climbs (match_ordering o (n ∷ m ∷ ms) (m ∷ ms) (m ∷ with_number n ms))) [
      | Less ↦ λ e. let lt : n < m = grind (arith, nat_tests) in ((lt, above n m ms lt up.0), up)
      | Equal ↦ λ e. up
      | Greater ↦ λ e. let lt : m < n = grind (arith, nat_tests) in (with_number-above m n ms lt up.0, Climbs-with n ms up.1)
    ] refl

-- a number is there once it is put in, and each other stays
with_number-has : (s n : ℕ) (ns : List ℕ) → (list_any (λ m. m == s) (with_number n ns) ≡ ((n == s) || list_any (λ m. m == s) ns))
with_number-has s n [] = refl
with_number-has s n (m ∷ ms) =
    elim (nat_cmp n m) as
    (λ o. nat_cmp n m ≡ o → list_any (λ m. m == s) (match_ordering o (n ∷ m ∷ ms) (m ∷ ms) (m ∷ with_number n ms))
    ≡ ((n == s) || ((m == s) || list_any (λ m. m == s) ms))) [
      | Less ↦ λ e. refl
      | Equal ↦ λ e.
          let same : n ≡ m = grind (arith, nat_tests) in
          twice (m == s) (list_any (λ m. m == s) ms) ∙ ap (λ k. (k == s) || ((m == s) || list_any (λ m. m == s) ms)) (sym same)
      | Greater ↦ λ e. ap (λ b. (m == s) || b) (with_number-has s n ms) ∙ turned (m == s) (n == s) (list_any (λ m. m == s) ms)
    ] refl
  where
    twice : (b r : Bool) → (b || r) ≡ (b || (b || r))
    twice true r = refl
    twice false r = refl

    turned : (a b r : Bool) → (a || (b || r)) ≡ (b || (a || r))
    turned true true r = refl
    turned true false r = refl
    turned false true r = refl
    turned false false r = refl

-- ---- one more record

-- the timestamps of records
abbrev stamps : List Record → List ℕ
stamps items = map (λ (r : Record). r.stamp) items

-- the records of a timestamp
abbrev at_stamp : ℕ → List Record → List Record
at_stamp s items = filter (λ (r : Record). r.stamp == s) items

-- the timestamps that stand are those of records, in order
record Stands (items : List Record) (ns : List ℕ) : Type 0 where
  climbs : Climbs ns
  absent : (s : ℕ) → list_any (λ m. m == s) ns ≡ false → at_stamp s items ≡ []
  present : (s : ℕ) → list_any (λ m. m == s) ns ≡ true → (r : Record) × (rs : List Record) × (at_stamp s items ≡ r ∷ rs)

-- with the records of a timestamp and one more of it
greatest-push : (items : List Record) (r : Record) (first : Record) (rest : List Record) → at_stamp r.stamp items ≡ first ∷ rest
    → greatest (at_stamp r.stamp (items ++ r ∷ [])) ≡ int_max (greatest (at_stamp r.stamp items)) r.value
greatest-push items r first rest is =
    ap greatest (filter-append (λ (q : Record). q.stamp == r.stamp) items (r ∷ [])
    ∙ ap (λ b. at_stamp r.stamp items ++ cond b (r ∷ []) []) (eq-eqb r.stamp r.stamp refl)
    ∙ ap (λ l. l ++ r ∷ []) is)
    ∙ fold-append (λ most (q : Record). int_max most q.value) first.value rest (r ∷ [])
    ∙ sym (ap (λ l. int_max (greatest l) r.value) is)

-- with the first record of a timestamp
greatest-first : (items : List Record) (r : Record) → at_stamp r.stamp items ≡ []
    → greatest (at_stamp r.stamp (items ++ r ∷ [])) ≡ r.value
greatest-first items r none =
    ap greatest (filter-append (λ (q : Record). q.stamp == r.stamp) items (r ∷ [])
    ∙ ap (λ b. at_stamp r.stamp items ++ cond b (r ∷ []) []) (eq-eqb r.stamp r.stamp refl)
    ∙ ap (λ l. l ++ r ∷ []) none)

-- with one more of another
at_stamp-other : (items : List Record) (r : Record) (s : ℕ) → (r.stamp == s) ≡ false → at_stamp s (items ++ r ∷ []) ≡ at_stamp s items
at_stamp-other items r s other =
    filter-append (λ (q : Record). q.stamp == s) items (r ∷ [])
    ∙ ap (λ b. at_stamp s items ++ cond b (r ∷ []) []) other ∙ append-nil (at_stamp s items)

-- the place of a timestamp
abbrev place_at : List Record → ℕ → ℕ × ℤ
place_at items s = (s, greatest (at_stamp s items))

-- places of later timestamps stay
later-stay : (items : List Record) (r : Record) (ns : List ℕ) → AllByRecursion (λ m. r.stamp < m) ns
    → map (place_at (items ++ r ∷ [])) ns ≡ map (place_at items) ns
later-stay items r [] each = refl
later-stay items r (n ∷ ns) each =
    let less : r.stamp < n = each.0 in
    let other : (r.stamp == n) ≡ false = grind (arith, nat_tests) in
    (λ i. (n, greatest (at_stamp-other items r n other i)) ∷ later-stay items r ns each.1 i)

-- the places with one more record
places-with : (items : List Record) (r : Record) (ns : List ℕ) → Climbs ns
    → (list_any (λ m. m == r.stamp) ns ≡ false → at_stamp r.stamp items ≡ [])
    → (list_any (λ m. m == r.stamp) ns ≡ true → (q : Record) × (qs : List Record) × (at_stamp r.stamp items ≡ q ∷ qs))
    → map (place_at (items ++ r ∷ [])) (with_number r.stamp ns) ≡ with_place (map (place_at items) ns) (place_of r)
places-with items r [] up absent present = λ i. (r.stamp, greatest-first items r (absent refl) i) ∷ []
places-with items r (n ∷ ns) up absent present =
    elim (nat_cmp r.stamp n) as
    (λ o. nat_cmp r.stamp n ≡ o
    → map (place_at (items ++ r ∷ [])) (match_ordering o (r.stamp ∷ n ∷ ns) (n ∷ ns) (n ∷ with_number r.stamp ns))
    ≡ match_ordering o (place_of r ∷ map (place_at items) (n ∷ ns))
    ((n, int_max (greatest (at_stamp n items)) r.value) ∷ map (place_at items) ns)
    (place_at items n ∷ with_place (map (place_at items) ns) (place_of r))) [
      | Less ↦ λ e.
          let less : r.stamp < n = grind (arith, nat_tests) in
          let all : AllByRecursion (λ m. r.stamp < m) (n ∷ ns) = (less, above r.stamp n ns less up.0) in
          (λ i. (r.stamp, greatest-first items r (absent (nowhere r.stamp (n ∷ ns) all)) i) ∷ later-stay items r (n ∷ ns) all i)
      | Equal ↦ λ e.
          let same : r.stamp ≡ n = grind (arith, nat_tests) in
          let here : (n == r.stamp) ≡ true = grind (arith, nat_tests) in
          let has = present (ap (λ b. b || list_any (λ m. m == r.stamp) ns) here) in
          let later : AllByRecursion (λ m. r.stamp < m) ns = subst (λ k. AllByRecursion (λ m. k < m) ns) (sym same) up.0 in
          (λ i. (
            n,
            (subst (λ k. greatest (at_stamp k (items ++ r ∷ [])) ≡ int_max (greatest (at_stamp k items)) r.value) same
                (greatest-push items r has.0 has.1 has.2)) i,
          ) ∷ later-stay items r ns later i)
      | Greater ↦ λ e.
          let other : (r.stamp == n) ≡ false = grind (arith, nat_tests) in
          let back : (n == r.stamp) ≡ false = grind (arith, nat_tests) in
          (λ i. (n, greatest (at_stamp-other items r n other i)) ∷ places-with items r ns up.1
          (λ none. absent (ap (λ b. b || list_any (λ m. m == r.stamp) ns) back ∙ none))
          (λ some. present (ap (λ b. b || list_any (λ m. m == r.stamp) ns) back ∙ some)) i)
    ] refl
  where
    nowhere : (s : ℕ) (ms : List ℕ) → AllByRecursion (λ m. s < m) ms → list_any (λ m. m == s) ms ≡ false
    nowhere s [] each = refl
    nowhere s (m ∷ ms) each =
        let less : s < m = each.0 in
        let other : (m == s) ≡ false = grind (arith, nat_tests) in
        ap (λ b. b || list_any (λ k. k == s) ms) other ∙ nowhere s ms each.1

-- the timestamps with one more record
stands-with : (items : List Record) (r : Record) (ns : List ℕ) → Stands items ns → Stands (items ++ r ∷ []) (with_number r.stamp ns)
stands-with items r ns stands = record {
  climbs = Climbs-with r.stamp ns stands.climbs;
  absent = λ s none. by_absent s (r.stamp == s) refl (sym (with_number-has s r.stamp ns) ∙ none);
  present = λ s some. by_present s (r.stamp == s) refl (sym (with_number-has s r.stamp ns) ∙ some);
}
  where
    by_absent : (s : ℕ) (b : Bool) → (r.stamp == s) ≡ b → (b || list_any (λ m. m == s) ns) ≡ false → at_stamp s (items ++ r ∷ []) ≡ []
    by_absent s true e none = absurd cc
    by_absent s false e none = at_stamp-other items r s e ∙ stands.absent s none

    behind : (s : ℕ) (l : List Record) → (q : Record) × (qs : List Record) × (l ++ r ∷ [] ≡ q ∷ qs)
    behind s [] = (r, [], refl)
    behind s (q ∷ qs) = (q, qs ++ r ∷ [], refl)

    by_present : (s : ℕ) (b : Bool) → (r.stamp == s) ≡ b → (b || list_any (λ m. m == s) ns) ≡ true
        → (q : Record) × (qs : List Record) × (at_stamp s (items ++ r ∷ []) ≡ q ∷ qs)
    by_present s true e some =
        let all = behind s (at_stamp s items) in (
          all.0,
          all.1,
          filter-append (λ (q : Record). q.stamp == s) items (r ∷ [])
              ∙ ap (λ b. at_stamp s items ++ cond b (r ∷ []) []) e ∙ all.2,
        )
    by_present s false e some =
        let was = stands.present s some in (was.0, was.1, at_stamp-other items r s e ∙ was.2)

-- along the records: what stands of those before, and what comes of those behind
along : (before items : List Record) (ns : List ℕ) → Stands before ns
    → map (place_at (before ++ items)) (fold (λ found n. with_number n found) ns (stamps items))
    ≡ fold with_place (map (place_at before) ns) (map place_of items)
along before [] ns stands = ap (λ l. map (place_at l) ns) (append-nil before)
along before (r ∷ rs) ns stands =
    ap (λ l. map (place_at l) (fold (λ found n. with_number n found) (with_number r.stamp ns) (stamps rs)))
    (sym (Rattle.std.proofs.Common.append_assoc before (r ∷ []) rs))
    ∙ along (before ++ r ∷ []) rs (with_number r.stamp ns) (stands-with before r ns stands)
    ∙ ap (λ ps. fold with_place ps (map place_of rs))
    (places-with before r ns stands.climbs (stands.absent r.stamp) (stands.present r.stamp))

-- the places of a row, one record after another
pub places-fold : (items : List Record) → places_in items ≡ fold with_place [] (map place_of items)
places-fold items = along [] items [] (record { climbs = tt; absent = λ s none. refl; present = λ s some. absurd cc })

-- What a part reads by the numbers of streams is what its readings read by the names of these.
use Rattle.std.proofs.Common.{◌≡◌, ℕ, suc, ◌+◌, ◌<◌, ◌==◌, Bool, true, false, not, ◌||◌, List, [], ◌∷◌, ◌++◌, length, filter, slice_get, unwrap_or, true≢false, refl, sym, ◌∙◌, ap, arith}
use Rattle.std.specs.List.{flat_map, enumerate_from, AllByRecursion, list_any}
use Rattle.std.specs.Cmp.Lexicographic.{bytes_decides}
use Rattle.std.proofs.lemmas.Bool.{and_parts, or_parts, not-true}
use Rattle.std.proofs.lemmas.Bool.Decides.{nat_tests}
use Rattle.mw_types.specs.declared.record.Record.{Record}
use Rattle.topology.specs.declared.subscription.By.{By}
use Rattle.topology.specs.declared.subscription.Subscription.{Subscription}
use Rattle.topology.specs.Shapes.{Shape, ComputationShape, Reading, injectors_of, streams_of, stream_of, consumers_of, subscriptions_to}
use Rattle.topology.specs.Rules.{all_differ}
use Rattle.topology.specs.FileRules.{reads_among}
use Rattle.topology.proofs.Lists.{each-passes}
use Rattle.topology.proofs.ReadOrder.{is}
use Rattle.list_lemmas.proofs.Lists.{each-weaker}
use Rattle.list_lemmas.proofs.Totals.{total, when, total-map, total-flat_map, total-filter, total-zero, total-each, total-same, total-both, total-swap, HaveSameTotals}
use Rattle.run_history.specs.Made.{row_to}
use Rattle.plain_answer.specs.Plain.{members_read}
use Rattle.plain_answer.specs.Stories.{Member}
use Rattle.plain_answer.proofs.Parts.{stream_total, to_part, of_member, members-total}
use Rattle.plain_answer.proofs.StreamNames.{Streams, keyed_by, read_named, reading_total, read-total}

-- ---- sums under a test

-- a test that is the same for all is one of the sum
when-total : {X : Type 0} (b : Bool) (f : X → ℕ) (xs : List X) → total (λ x. when b (f x)) xs ≡ when b (total f xs)
when-total true f xs = refl
when-total false f xs = total-zero xs

-- of two tests either may come first
when-when : (a b : Bool) (n : ℕ) → when a (when b n) ≡ when b (when a n)
when-when true true n = refl
when-when true false n = refl
when-when false true n = refl
when-when false false n = refl

-- elements with greater numbers have nothing of a number
numbered-behind : {X : Type 0} (g : X → ℕ) (number n : ℕ) (xs : List X) → number < n
    → total (λ (p : ℕ × X). when (p.0 == number) (g p.1)) (enumerate_from n xs) ≡ 0
numbered-behind g number n [] less = refl
numbered-behind g number n (x ∷ xs) less =
    let other : (n == number) ≡ false = grind (arith, nat_tests, less) in
    omega (arith, ap (λ b. when b (g x)) other, numbered-behind g number (n + 1) xs (omega (arith, less)))

-- so of numbered elements the one with a number has all of it
numbered-one : {X : Type 0} (g : X → ℕ) (number n : ℕ) (before : List X) (x : X) (behind : List X)
    → number ≡ n + length before
    → total (λ (p : ℕ × X). when (p.0 == number) (g p.1)) (enumerate_from n (before ++ x ∷ behind)) ≡ g x
numbered-one g number n [] x behind at =
    let here : (n == number) ≡ true = grind (arith, nat_tests, at) in
    omega (arith, ap (λ b. when b (g x)) here, numbered-behind g number (n + 1) behind (omega (arith, at)))
numbered-one g number n (y ∷ before) x behind at =
    let other : (n == number) ≡ false = grind (arith, nat_tests, at) in
    omega (arith, ap (λ b. when b (g y)) other, numbered-one g number (n + 1) before x behind (omega (arith, at)))

-- a text that is none of these has nothing of them
none-among : (n : ℕ) (s : List ℕ) (names : List (List ℕ)) → list_any (is s) names ≡ false
    → total (λ t. when (is s t) n) names ≡ 0
none-among n s [] new = refl
none-among n s (t ∷ names) new =
    let neither = or_parts (is s t) (list_any (is s) names) new in
    omega (arith, ap (λ b. when b n) neither.0, none-among n s names neither.1)

-- and one of texts that differ has all, once
one-among : (n : ℕ) (s : List ℕ) (names : List (List ℕ)) → all_differ names ≡ true → list_any (is s) names ≡ true
    → total (λ t. when (is s t) n) names ≡ n
one-among n s [] differ there = absurd (true≢false (sym there))
one-among n s (t ∷ names) differ there =
    let both = and_parts (not (list_any (is t) names)) (all_differ names) differ in
    elim (is s t) as (λ b. is s t ≡ b → when b n + total (λ t. when (is s t) n) names ≡ n) [
      | true ↦ λ same.
          let new = ap (λ u. list_any (is u) names) ((bytes_decides s t).0 same)
          ∙ not-true (list_any (is t) names) both.0 in
          omega (arith, none-among n s names new)
      | false ↦ λ other.
          omega (arith, one-among n s names both.1 (ap (λ b. b || list_any (is s) names) (sym other) ∙ there))
    ] refl

-- ---- sums over streams

-- what is the same of each member is so of all
pub stream_total-same : (f g : Member → ℕ) (n : ℕ) (streams : List (List Record)) → ((o : Member) → f o ≡ g o)
    → stream_total f n streams ≡ stream_total g n streams
stream_total-same f g n streams same = λ i. stream_total (λ o. same o i) n streams

-- streams with greater numbers, counted by what their numbers are greater
stream_total-suc : (f : Member → ℕ) (n : ℕ) (streams : List (List Record))
    → stream_total f (suc n) streams ≡ stream_total (λ o. f (suc o.0, o.1)) n streams
stream_total-suc f n [] = refl
stream_total-suc f n (x ∷ xs) =
    let next : suc n + 1 ≡ suc (n + 1) = omega arith in
    ap (λ m. total (λ r. f (suc n, r)) x + m) (ap (λ k. stream_total f k xs) next ∙ stream_total-suc f (n + 1) xs)

-- a sum over members of sums over other things is one over these of sums over members
stream_total-swap : {X : Type 0} (f : X → Member → ℕ) (ys : List X) (n : ℕ) (streams : List (List Record))
    → stream_total (λ o. total (λ y. f y o) ys) n streams ≡ total (λ y. stream_total (f y) n streams) ys
stream_total-swap f ys n [] = sym (total-zero ys)
stream_total-swap f ys n (x ∷ xs) =
    let first = total-swap (λ r y. f y (n, r)) x ys in
    let others = stream_total-swap f ys (n + 1) xs in
    omega (arith, first, others, total-both (λ y. total (λ r. f y (n, r)) x) (λ y. stream_total (f y) (n + 1) xs) ys)

-- ---- streams by their names

-- each stream has the same records as the one of its name
abbrev pub AreNamed : List (List ℕ) → List (List Record) → Streams → Type 0
AreNamed [] [] named = Unit {0}
AreNamed (s ∷ names) (x ∷ xs) named = HaveSameTotals x (named s) × AreNamed names xs named
AreNamed _ _ named = ⊥

-- so they are as many
named-length : (names : List (List ℕ)) (streams : List (List Record)) (named : Streams) → AreNamed names streams named
    → length names ≡ length streams
named-length [] [] named are = refl
named-length [] (x ∷ xs) named are = absurd are
named-length (s ∷ names) [] named are = absurd are
named-length (s ∷ names) (x ∷ xs) named are = ap suc (named-length names xs named are.1)

-- a sum over members, each with the name that its stream has by its number, is one over the names
pub names-total : (h : List ℕ → Record → ℕ) (names later : List (List ℕ)) (streams : List (List Record))
    (named : Streams) → AreNamed names streams named
    → stream_total (λ o. h (unwrap_or (slice_get (names ++ later) o.0) []) o.1) 0 streams
    ≡ total (λ s. total (h s) (named s)) names
names-total h [] later [] named are = refl
names-total h [] later (x ∷ xs) named are = absurd are
names-total h (s ∷ names) later [] named are = absurd are
names-total h (s ∷ names) later (x ∷ xs) named are =
    let with_name : Member → ℕ = λ o. h (unwrap_or (slice_get (s ∷ (names ++ later)) o.0) []) o.1 in
    λ i. are.0 (h s) i + (stream_total-suc with_name 0 xs ∙ names-total h names later xs named are.1) i

-- so what is summed up of one stream alone is the sum over the stream of its name
one-named : (g : Record → ℕ) (s : List ℕ) (names later : List (List ℕ)) (streams : List (List Record)) (named : Streams)
    → AreNamed names streams named → all_differ names ≡ true → list_any (is s) names ≡ true
    → stream_total (λ o. when (is s (unwrap_or (slice_get (names ++ later) o.0) [])) (g o.1)) 0 streams
    ≡ total g (named s)
one-named g s names later streams named are differ there =
    names-total (λ t r. when (is s t) (g r)) names later streams named are
    ∙ (λ i. total (λ t. (when-total (is s t) g (named t) ∙ by_name t (is s t) refl) i) names)
    ∙ one-among (total g (named s)) s names differ there
  where
    by_name : (t : List ℕ) (b : Bool) → is s t ≡ b → when b (total g (named t)) ≡ when b (total g (named s))
    by_name t true same = ap (λ u. total g (named u)) (sym ((bytes_decides s t).0 same))
    by_name t false other = refl

-- ---- who is subscribed

module _ (part : ℕ) (h : By → ℕ) (stream : List ℕ) where
  -- a part's own subscriptions are counted
  abbrev own : Subscription → ℕ
  own s = when (s.to == part) (h s.by)

  -- and a computation's readings of the stream
  abbrev reading_it : ComputationShape → ℕ
  reading_it c = total (λ (r : Reading). when (is r.stream stream) (h r.by)) c.reads

  -- of a computation by its number, which is the part's or not
  own-by : (p : ℕ × ComputationShape) → total own (subscriptions_to stream p) ≡ when (p.0 == part) (reading_it p.1)
  own-by (to, c) =
      total-map own (λ (r : Reading). record { to = to; by = r.by })
      (filter (λ (r : Reading). is r.stream stream) c.reads)
      ∙ total-filter (λ (r : Reading). when (to == part) (h r.by)) (λ (r : Reading). is r.stream stream) c.reads
      ∙ (λ i. total (λ (r : Reading). when-when (is r.stream stream) (to == part) (h r.by) i) c.reads)
      ∙ when-total (to == part) (λ (r : Reading). when (is r.stream stream) (h r.by)) c.reads

  -- of all subscriptions to the stream the part has as many as it has readings of it
  own-total : (to : ℕ) (before : List ComputationShape) (c : ComputationShape) (behind : List ComputationShape)
      → part ≡ to + length before
      → total own (flat_map (subscriptions_to stream) (enumerate_from to (before ++ c ∷ behind))) ≡ reading_it c
  own-total to before c behind at =
      total-flat_map own (subscriptions_to stream) (enumerate_from to (before ++ c ∷ behind))
      ∙ (λ i. total (λ p. own-by p i) (enumerate_from to (before ++ c ∷ behind)))
      ∙ numbered-one reading_it part to before c behind at

-- ---- the whole

-- what the computation behind these streams reads of them, it reads of those of their names
pub reads-named : (shape : Shape) (before : List ComputationShape) (c : ComputationShape)
    (behind : List ComputationShape) (known later : List (List ℕ)) (found : List (List Record)) (named : Streams)
    → shape.computations ≡ before ++ c ∷ behind → streams_of shape ≡ known ++ later
    → length known ≡ injectors_of shape + length before → AreNamed known found named → all_differ known ≡ true
    → reads_among known c.reads ≡ true
    → HaveSameTotals (members_read shape found (length found)) (read_named named c.reads)
reads-named shape before c behind known later found named split all counted are differ reads g =
    members-total shape g found part
    ∙ stream_total-same (of_member shape part g) (λ o. total (λ r. of_reading r o) c.reads) 0 found sent
    ∙ stream_total-swap of_reading c.reads 0 found
    ∙ total-each (λ r. stream_total (of_reading r) 0 found) (reading_total g named) c.reads
    (each-weaker (λ (r : Reading). list_any (is r.stream) known ≡ true)
    (λ (r : Reading). stream_total (of_reading r) 0 found ≡ reading_total g named r) of_known c.reads
    (each-passes (λ (r : Reading). list_any (is r.stream) known) c.reads reads))
    ∙ sym (read-total named g c.reads)
  where
    part : ℕ
    part = length found

    -- what a reading takes of a member
    of_reading : Reading → Member → ℕ
    of_reading r o = when (is r.stream (stream_of shape o.0)) (g (keyed_by r.by o.1))

    at : part ≡ injectors_of shape + length before
    at = sym (named-length known found named are) ∙ counted

    sent : (o : Member) → of_member shape part g o ≡ total (λ r. of_reading r o) c.reads
    sent o =
        let of_own : Subscription → ℕ = λ s. when (s.to == part) (g (keyed_by s.by o.1)) in
        total-map (to_part part g) (λ s. (row_to o.1 s, o.1)) (consumers_of shape o.0)
        ∙ (λ i. total of_own
        (flat_map (subscriptions_to (stream_of shape o.0)) (enumerate_from (injectors_of shape) (split i))))
        ∙ own-total part (λ by. g (keyed_by by o.1)) (stream_of shape o.0) (injectors_of shape) before c behind at

    of_known : (r : Reading) → list_any (is r.stream) known ≡ true
        → stream_total (of_reading r) 0 found ≡ reading_total g named r
    of_known r there =
        (λ i. stream_total
        (λ o. when (is r.stream (unwrap_or (slice_get (all i) o.0) [])) (g (keyed_by r.by o.1))) 0 found)
        ∙ one-named (λ m. g (keyed_by r.by m)) r.stream known later found named are differ there

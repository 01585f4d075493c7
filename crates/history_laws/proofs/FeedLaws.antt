-- A consumer of a part's stream is fed by the part, and each part is fed by parts before it.
use Rattle.std.proofs.Common.{◌≡◌, ℕ, zero, suc, ◌+◌, ◌-◌, ◌<◌, Bool, true, false, cond, ◌&&◌, ◌||◌, List, [], ◌∷◌, length, get_or, take, map, refl, sym, ◌∙◌, ap, subst, arith, length-append, ◌≤◌}
use Rattle.std.specs.Prelude.{Option, Some, None, Contains, filter, not, nat_eq, nat_lt, slice_get, unwrap_or}
use Rattle.std.specs.Option.{option_map}
use Rattle.std.specs.List.{AllByRecursion, list_any, flat_map, enumerate_from, cons_option}
use Rattle.std.specs.Cmp.Lexicographic.{pointwise}
use Rattle.std.proofs.lemmas.List.{length-map, length-take, get_or-take, get_or_default}
use Rattle.std.proofs.lemmas.Bool.{both_ways}
use Rattle.std.proofs.lemmas.Bool.Decides.{nat_tests, Decides-eqb}
use Rattle.std.proofs.lemmas.Slice.Eq.{slice_eq-Decides}
use Rattle.std.proofs.lemmas.List.Elements.{All-get_or, recursion_from_All}
use Rattle.std.proofs.lemmas.Option.{slice_get_within, get_or_from_slice_get, unwrap_or-slice_get}
use Rattle.std.specs.Cmp.{second_so}
use Rattle.mw_types.specs.declared.kind.Kind.{Kind}
use Rattle.mw_types.specs.Kinds.{IsKind}
use Rattle.topology.specs.declared.subscription.Subscription.{Subscription}
use Rattle.topology.specs.Shapes.{Shape, InjectorShape, ComputationShape, Reading, parts_of, injectors_of, streams_of, stream_of, computation_of, kind_of, reads_of, subscriptions_to, consumers_of, reads_stream, feeds_of}
use Rattle.topology.specs.Rules.{IsTopology, all_differ}
use Rattle.topology.specs.Kept.{numbers_from}
use Rattle.list_lemmas.proofs.Lists.{each-append, each-weaker, each-map, each-all, some_same, none_some}

-- an element of a list is one of a longer list
Contains-cons : {X : Type 0} (y : X) (xs : List X) (x : X) → Contains xs x → Contains (y ∷ xs) x
Contains-cons y xs x has = (suc has.0, omega (arith, has.1), has.2)

-- the numbers of streams have the number of one that passes
numbers_from-has : (test : List ℕ → Bool) (n i : ℕ) (xs : List (List ℕ)) → i < length xs → test (get_or xs i []) ≡ true
    → Contains (numbers_from test n xs) (n + i)
numbers_from-has test n i [] less passes = absurd (omega (arith, less))
numbers_from-has test n zero (x ∷ xs) less passes =
    subst (λ b. Contains (cons_option (cond b (Some n) None) (numbers_from test (n + 1) xs)) (n + 0)) (sym passes)
    (0, omega arith, omega arith)
numbers_from-has test n (suc i) (x ∷ xs) less passes =
    let later : Contains (numbers_from test (n + 1) xs) (n + suc i) =
    subst (Contains (numbers_from test (n + 1) xs)) (omega arith) (numbers_from-has test (n + 1) i xs (omega (arith, less)) passes) in
    elim (test x) as (λ b. Contains (cons_option (cond b (Some n) None) (numbers_from test (n + 1) xs)) (n + suc i)) [
      | true ↦ Contains-cons n (numbers_from test (n + 1) xs) (n + suc i) later
      | false ↦ later
    ]

-- how many streams there are
length-streams_of : (shape : Shape) → length (streams_of shape) ≡ parts_of shape
length-streams_of shape =
    length-append (map (λ (i : InjectorShape). i.stream) shape.injectors) (map (λ (c : ComputationShape). c.stream) shape.computations)
    ∙ (λ k. length-map shape.injectors (λ (i : InjectorShape). i.stream) k + length-map shape.computations
    (λ (c : ComputationShape). c.stream) k)

-- the stream of a part by its number
stream_of-at : (shape : Shape) (part : ℕ) → stream_of shape part ≡ get_or (streams_of shape) part []
stream_of-at shape part = unwrap_or-slice_get (streams_of shape) part []

-- a part whose stream is read feeds the reader
pub feeds-reader : (shape : Shape) (part reader : ℕ) → part < parts_of shape → reads_stream shape reader (stream_of shape part) ≡ true
    → Contains (feeds_of shape reader) part
feeds-reader shape part reader there reads =
    let zero_more : 0 + part ≡ part = omega arith in
    subst (Contains (feeds_of shape reader)) zero_more
    (numbers_from-has (reads_stream shape reader) 0 part (streams_of shape) (omega (arith, there, length-streams_of shape))
    (subst (λ s. reads_stream shape reader s ≡ true) (stream_of-at shape part) reads))

-- where an element passes a test, some element does
filter-any : {X : Type 0} (test : X → Bool) (xs : List X) → AllByRecursion (λ x. list_any test xs ≡ true) (filter test xs)
filter-any test [] = tt
filter-any {X} test (x ∷ xs) = elim (test x) as (λ b. AllByRecursion (λ y. (b || list_any test xs) ≡ true)
    (cond b (x ∷ filter test xs) (filter test xs))) [
      | true ↦ (refl, each-all (λ y. true ≡ true) (λ y. refl) (filter test xs))
      | false ↦ filter-any test xs
    ]

-- the subscriptions of a computation to a stream are of a part that reads it
subscriptions-read : (stream : List ℕ) (to : ℕ) (c : ComputationShape)
    → AllByRecursion (λ (s : Subscription). (s.to ≡ to) × (list_any (λ (r : Reading). pointwise nat_eq r.stream stream) c.reads ≡ true))
    (subscriptions_to stream (to, c))
subscriptions-read stream to c =
    each-map (λ (s : Subscription). (s.to ≡ to) × (list_any (λ (r : Reading). pointwise nat_eq r.stream stream) c.reads ≡ true))
    (λ (r : Reading). record { to = to; by = r.by }) (filter (λ (r : Reading). pointwise nat_eq r.stream stream) c.reads)
    (each-weaker (λ r. list_any (λ (r : Reading). pointwise nat_eq r.stream stream) c.reads ≡ true) _ (λ r reads. (refl, reads))
    (filter (λ (r : Reading). pointwise nat_eq r.stream stream) c.reads)
    (filter-any (λ (r : Reading). pointwise nat_eq r.stream stream) c.reads))

-- the computation of a number behind the injectors
computation_of-at : (shape : Shape) (k : ℕ) (c : ComputationShape) → slice_get shape.computations k ≡ Some c
    → computation_of shape (injectors_of shape + k) ≡ Some c
computation_of-at shape k c at =
    ap (λ b. cond b None (slice_get shape.computations (injectors_of shape + k - injectors_of shape))) (behind (injectors_of shape) k)
    ∙ ap (slice_get shape.computations) (omega arith) ∙ at
  where
    behind : (n k : ℕ) → nat_lt (n + k) n ≡ false
    behind n k = grind (arith, nat_tests)

-- a part that reads the stream, by its computation
reads-by : (shape : Shape) (part : ℕ) (c : ComputationShape) (stream : List ℕ) → computation_of shape part ≡ Some c
    → list_any (λ (r : Reading). pointwise nat_eq r.stream stream) c.reads ≡ true → reads_stream shape part stream ≡ true
reads-by shape part c stream of reads =
    ap (λ o. list_any (λ (r : Reading). pointwise nat_eq r.stream stream)
    (unwrap_or (option_map (λ (d : ComputationShape). d.reads) o) [])) of ∙ reads

-- the consumers among computations from a number on read the stream
consumers-from : (shape : Shape) (stream : List ℕ) (k : ℕ) (cs : List ComputationShape)
    → ((i : ℕ) (c : ComputationShape) → slice_get cs i ≡ Some c → slice_get shape.computations (k + i) ≡ Some c)
    → AllByRecursion (λ (s : Subscription). reads_stream shape s.to stream ≡ true)
    (flat_map (subscriptions_to stream) (enumerate_from (injectors_of shape + k) cs))
consumers-from shape stream k [] at = tt
consumers-from shape stream k (c ∷ cs) at =
    each-append (λ (s : Subscription). reads_stream shape s.to stream ≡ true) (subscriptions_to stream (injectors_of shape + k, c)) _
    (each-weaker _ (λ (s : Subscription). reads_stream shape s.to stream ≡ true)
    (λ (s : Subscription) reads. reads-by shape s.to c stream
    (ap (computation_of shape) reads.0 ∙ computation_of-at shape k c
    (subst (λ n. slice_get shape.computations n ≡ Some c) (omega arith) (at 0 c refl))) reads.1)
    (subscriptions_to stream (injectors_of shape + k, c)) (subscriptions-read stream (injectors_of shape + k) c))
    (subst (λ n. AllByRecursion (λ (s : Subscription). reads_stream shape s.to stream ≡ true)
    (flat_map (subscriptions_to stream) (enumerate_from n cs))) (omega arith)
    (consumers-from shape stream (k + 1) cs (λ i d e. subst (λ n. slice_get shape.computations n ≡ Some d) (omega arith) (at (suc i) d e))))

-- each consumer of a part's stream is fed by the part
pub consumers-fed : (shape : Shape) (part : ℕ) → part < parts_of shape
    → AllByRecursion (λ (s : Subscription). Contains (feeds_of shape s.to) part) (consumers_of shape part)
consumers-fed shape part there =
    each-weaker (λ (s : Subscription). reads_stream shape s.to (stream_of shape part) ≡ true)
    (λ (s : Subscription). Contains (feeds_of shape s.to) part)
    (λ (s : Subscription) reads. feeds-reader shape part s.to there reads) (consumers_of shape part)
    (subst (λ n. AllByRecursion (λ (s : Subscription). reads_stream shape s.to (stream_of shape part) ≡ true)
    (flat_map (subscriptions_to (stream_of shape part)) (enumerate_from n shape.computations)))
    (omega arith) (consumers-from shape (stream_of shape part) 0 shape.computations
    (λ i c e. let same : i ≡ 0 + i = omega arith in subst (λ n. slice_get shape.computations n ≡ Some c) same e)))

-- ---- a part is fed by parts before it, and reads only where it is a computation

-- texts that a test finds equal are equal
same_text : (a b : List ℕ) → pointwise nat_eq a b ≡ true → a ≡ b
same_text a b e = (slice_eq-Decides Decides-eqb a b (pointwise nat_eq a b) refl).0 e

-- and texts that are equal pass it
text_same : (a b : List ℕ) → a ≡ b → pointwise nat_eq a b ≡ true
text_same a b e = (slice_eq-Decides Decides-eqb a b (pointwise nat_eq a b) refl).1 e

-- a text that differs from each is found at no place
differs_at : (x : List ℕ) (xs : List (List ℕ)) (i : ℕ) → list_any (pointwise nat_eq x) xs ≡ false → i < length xs → x ≡ get_or xs i [] → ⊥
differs_at x [] i none less same = omega (arith, less)
differs_at x (y ∷ ys) zero none less same =
    both_ways (pointwise nat_eq x y || list_any (pointwise nat_eq x) ys) none
    (ap (λ b. b || list_any (pointwise nat_eq x) ys) (text_same x y same))
differs_at x (y ∷ ys) (suc i) none less same = differs_at x ys i (rest (pointwise nat_eq x y) none) (omega (arith, less)) same
  where
    rest : (b : Bool) → (b || list_any (pointwise nat_eq x) ys) ≡ false → list_any (pointwise nat_eq x) ys ≡ false
    rest true e = cc
    rest false e = e

-- texts that all differ are equal only at one place
one_place : (xs : List (List ℕ)) (i j : ℕ) → all_differ xs ≡ true → i < length xs → j < length xs → get_or xs i [] ≡ get_or xs j [] → i ≡ j
one_place [] i j differ in_i in_j same = absurd (omega (arith, in_i))
one_place (x ∷ xs) zero zero differ in_i in_j same = refl
one_place (x ∷ xs) zero (suc j) differ in_i in_j same = absurd
    (differs_at x xs j (none (list_any (pointwise nat_eq x) xs) differ) (omega (arith, in_j)) same)
  where
    none : (b : Bool) → (not b && all_differ xs) ≡ true → b ≡ false
    none true e = cc
    none false e = refl
one_place (x ∷ xs) (suc i) zero differ in_i in_j same = absurd
    (differs_at x xs i (none (list_any (pointwise nat_eq x) xs) differ) (omega (arith, in_i)) (sym same))
  where
    none : (b : Bool) → (not b && all_differ xs) ≡ true → b ≡ false
    none true e = cc
    none false e = refl
one_place (x ∷ xs) (suc i) (suc j) differ in_i in_j same =
    ap suc (one_place xs i j (second_so (not (list_any (pointwise nat_eq x) xs)) (all_differ xs) differ) (omega (arith, in_i))
    (omega (arith, in_j)) same)

-- the numbers of streams that pass are below a bound where each that passes is
numbers_from-below : (test : List ℕ → Bool) (n bound : ℕ) (xs : List (List ℕ))
    → ((i : ℕ) → i < length xs → test (get_or xs i []) ≡ true → n + i < bound) → AllByRecursion (λ m. m < bound) (numbers_from test n xs)
numbers_from-below test n bound [] below = tt
numbers_from-below test n bound (x ∷ xs) below =
    let rest : AllByRecursion (λ m. m < bound) (numbers_from test (n + 1) xs) =
    numbers_from-below test (n + 1) bound xs (λ i less passes. let next = below (suc i) (omega (arith, less)) passes in
    omega (arith, next)) in
    elim (test x) as (λ b. test x ≡ b → AllByRecursion (λ m. m < bound)
    (cons_option (cond b (Some n) None) (numbers_from test (n + 1) xs))) [
      | true ↦ λ e. (let first = below 0 (omega arith) e in omega (arith, first), rest)
      | false ↦ λ e. rest
    ] refl

-- a list of readings that reads a stream has a reading of it
read_by : (stream : List ℕ) (P : List ℕ → Type 0) (reads : List Reading) → AllByRecursion (λ (r : Reading). P r.stream) reads
    → list_any (λ (r : Reading). pointwise nat_eq r.stream stream) reads ≡ true → P stream
read_by stream P [] each reads = absurd (cc)
read_by stream P (r ∷ rs) each reads =
    elim (pointwise nat_eq r.stream stream) as (λ b. pointwise nat_eq r.stream stream ≡ b
    → (b || list_any (λ (r : Reading). pointwise nat_eq r.stream stream) rs) ≡ true → P stream) [
      | true ↦ λ e f. subst P (same_text r.stream stream e) each.0
      | false ↦ λ e f. read_by stream P rs each.1 f
    ] refl reads

-- each part that feeds another has a lesser number
pub feeds-before : (shape : Shape) (part : ℕ) → IsTopology shape → AllByRecursion (λ f. f < part) (feeds_of shape part)
feeds-before shape part rules = numbers_from-below (reads_stream shape part) 0 part (streams_of shape) before
  where
    differ : all_differ (streams_of shape) ≡ true
    differ = rules.streams_differ

    before : (i : ℕ) → i < length (streams_of shape) → reads_stream shape part (get_or (streams_of shape) i []) ≡ true → 0 + i < part
    before i less reads =
        let has = read_by (get_or (streams_of shape) i []) (Contains (take part (streams_of shape))) (reads_of shape part)
        (recursion_from_All (λ (r : Reading). Contains (take part (streams_of shape)) r.stream) (reads_of shape part)
        (rules.above part)) reads in
        let short : has.0 < length (take part (streams_of shape)) = has.1 in
        let len = length-take part (streams_of shape) in
        let early : has.0 < part = omega (arith, short, len) in
        let there : has.0 < length (streams_of shape) = omega (arith, short, len) in
        let at : get_or (streams_of shape) has.0 [] ≡ get_or (streams_of shape) i [] =
        sym (get_or-take part (streams_of shape) has.0 [] early)
        ∙ get_or_default (take part (streams_of shape)) has.0 [] (get_or (streams_of shape) i []) short ∙ has.2 in
        let one : has.0 ≡ i = one_place (streams_of shape) has.0 i differ there less at in omega (arith, early, one)

-- the kind of a part is in range
pub kind-ranged : (shape : Shape) (part : ℕ) (kind : Kind) → IsTopology shape → kind_of shape part ≡ Some kind → IsKind kind
kind-ranged shape part kind rules e = elim (nat_lt part (injectors_of shape)) as (λ b. nat_lt part (injectors_of shape) ≡ b → IsKind kind) [
  | true ↦ λ less. absurd (none_some kind (sym (ap
      (λ b. option_map (λ (c : ComputationShape). c.kind) (cond b None (slice_get shape.computations (part - injectors_of shape)))) less)
      ∙ e))
  | false ↦ λ less. by_computation (slice_get shape.computations (part - injectors_of shape)) refl
      (sym (ap (λ b. option_map (λ (c : ComputationShape). c.kind)
      (cond b None (slice_get shape.computations (part - injectors_of shape)))) less) ∙ e)
] refl
  where
    by_computation : (o : Option ComputationShape) → slice_get shape.computations (part - injectors_of shape) ≡ o
        → option_map (λ (c : ComputationShape). c.kind) o ≡ Some kind → IsKind kind
    by_computation None at e = absurd (none_some kind e)
    by_computation (Some c) at e =
        let n = part - injectors_of shape in
        let within = slice_get_within shape.computations n c at in
        subst IsKind (some_same c.kind kind e)
        (subst (λ (d : ComputationShape). IsKind d.kind) (get_or_from_slice_get shape.computations n c c at)
        (All-get_or (λ (d : ComputationShape). IsKind d.kind) shape.computations n c within rules.kinds))

-- an injector is of no kind
pub injector-no_kind : (shape : Shape) (part : ℕ) (kind : Kind) → nat_lt part (injectors_of shape) ≡ true
    → kind_of shape part ≡ Some kind → ⊥
injector-no_kind shape part kind less e =
    none_some kind (sym (ap (λ b. option_map (λ (c : ComputationShape). c.kind)
    (cond b None (slice_get shape.computations (part - injectors_of shape)))) less) ∙ e)

-- the consumers among computations from a number on are computations
consumers-numbered : (shape : Shape) (stream : List ℕ) (n : ℕ) (cs : List ComputationShape)
    → AllByRecursion (λ (s : Subscription). (n ≤ s.to) × (s.to < n + length cs)) (flat_map (subscriptions_to stream) (enumerate_from n cs))
consumers-numbered shape stream n [] = tt
consumers-numbered shape stream n (c ∷ cs) =
    each-append (λ (s : Subscription). (n ≤ s.to) × (s.to < n + length (c ∷ cs))) (subscriptions_to stream (n, c)) _
    (each-weaker _ (λ (s : Subscription). (n ≤ s.to) × (s.to < n + length (c ∷ cs)))
    (λ (s : Subscription) reads. let is = reads.0 in (omega (arith, is), omega (arith, is))) (subscriptions_to stream (n, c))
    (subscriptions-read stream n c))
    (each-weaker (λ (s : Subscription). (n + 1 ≤ s.to) × (s.to < n + 1 + length cs))
    (λ (s : Subscription). (n ≤ s.to) × (s.to < n + length (c ∷ cs)))
    (λ (s : Subscription) (both : (n + 1 ≤ s.to) × (s.to < n + 1 + length cs)). let from = both.0 in let to = both.1 in
    (omega (arith, from), omega (arith, to)))
    (flat_map (subscriptions_to stream) (enumerate_from (n + 1) cs)) (consumers-numbered shape stream (n + 1) cs))

-- each consumer of a stream is a computation that is there
pub consumers-there : (shape : Shape) (part : ℕ) → AllByRecursion
    (λ (s : Subscription). (injectors_of shape ≤ s.to) × (s.to < parts_of shape)) (consumers_of shape part)
consumers-there shape part = consumers-numbered shape (stream_of shape part) (injectors_of shape) shape.computations

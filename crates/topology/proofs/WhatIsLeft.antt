-- A topology without its weak computations is a topology, of which none is weak.
use Rattle.std.proofs.Common.{◌≡◌, ℕ, suc, ◌+◌, ◌-◌, ◌≤◌, Bool, true, false, cond, not, ◌||◌, nat_le, nat_lt, List, [], ◌∷◌, ◌++◌, length, map, filter, take, sum_by, sum, slice_get, unwrap_or, option_map, None, All, Contains, inl, inr, refl, sym, ◌∙◌, ap, subst, arith, length-append}
use Rattle.std.specs.List.{flat_map, list_any, list_all, enumerate_from, AllByRecursion}
use Rattle.std.proofs.lemmas.Bool.{both_ways, cond_both, cond-false, and_parts, and_from, or_parts, or_from, or_cases, or_left, or_right, not-true, not_from_false, leb-true, le-leb, le-ltb}
use Rattle.std.proofs.lemmas.Cmp.{nat_list_eq_equiv}
use Rattle.std.proofs.lemmas.Simd.{map-map}
use Rattle.std.proofs.lemmas.List.{length-map}
use Rattle.std.proofs.lemmas.List.Elements.{All-weaker, All-from_recursion, recursion_from_All}
use Rattle.std.proofs.lemmas.List.Filters.{sum_by-filter_both}
use Rattle.std.proofs.lemmas.List.Folds.{list_all-append, list_any-append, list_all-map}
use Rattle.std.proofs.lemmas.List.Sums.{sum-map, list_all-from_AllPass}
use Rattle.std.proofs.lemmas.Map.Views.{list_any-from_Contains}
use Rattle.std.proofs.Math.Seq.{take-append_seam}
use Rattle.list_lemmas.proofs.Lists.{each-map, each-weaker, each-filter, length-filter}
use Rattle.mw_types.specs.Kinds.{IsKind}
use Rattle.mw_types.specs.declared.kind.Kind.{Kind}
use Rattle.mw_types.specs.declared.kind.Kind.TheVariants.{Pass}
use Rattle.topology.specs.Shapes.{Shape, InjectorShape, ComputationShape, Reading, injectors_of, streams_of, reads_of}
use Rattle.topology.specs.Rules.{IsTopology, AreCutKeys, is_name, all_differ}
use Rattle.topology.specs.FileRules.{reads_among}
use Rattle.topology.specs.Folding.{Way, Strong, way_of, left_of, strong_from, strong_as, way_count, is_read, are_weak_read, is_foldable, folded}
use Rattle.topology.proofs.Lists.{each-passes, all-pass, all-weaker, map-each, sum_by-map, any-fewer, length-flat_map_some, some-either}
use Rattle.topology.proofs.RulesHold.{reads_above-above}
use Rattle.topology.proofs.FoldLaws.{reading_through, through, strong_ones, by_computation, left-strong}
use Rattle.topology.proofs.ReadOrder.{is, streams_by, ReadBefore, names-next, any-more}

-- ---- what each computation that stays has as before

-- whether a computation stays
abbrev stays : ComputationShape → Bool
stays c = not c.weak

-- how many readings a computation has
abbrev read_count : ComputationShape → ℕ
read_count c = length c.reads

-- a computation reads something
abbrev Reads : ComputationShape → Type 0
Reads c = 1 ≤ read_count c

-- how many cuts it has
abbrev cut_count : ComputationShape → ℕ
cut_count c = length c.cuts

module _ {Y : Type 0} (f : ComputationShape → Y) (own : (gone c : ComputationShape) → f (through gone c) ≡ f c) where
  -- what doesn't depend on readings is as it was, of all that stay
  kept : (cs : List ComputationShape) → map f (strong_ones cs) ≡ map f (filter stays cs)
  kept = by_computation (λ cs left. map f left ≡ map f (filter stays cs)) refl
      (λ gone cs left weak rest.
      map-map f (through gone) left ∙ (λ i. map (λ c. own gone c i) left) ∙ rest
      ∙ ap (λ b. map f (cond (not b) (gone ∷ filter stays cs) (filter stays cs))) (sym weak))
      (λ c cs left strong rest.
      ap (λ l. f c ∷ l) rest ∙ ap (λ b. map f (cond (not b) (c ∷ filter stays cs) (filter stays cs))) (sym strong))

  -- so a fact of it that holds of each holds of each that stays
  pub each-left : (P : Y → Type 0) (cs : List ComputationShape) → AllByRecursion (λ c. P (f c)) cs
      → AllByRecursion (λ c. P (f c)) (strong_ones cs)
  each-left P cs each =
      map-each P f (strong_ones cs) (subst (AllByRecursion P) (sym (kept cs))
      (each-map P f (filter stays cs) (each-filter (λ c. P (f c)) stays cs each)))

  -- the same of all
  all-left : (P : Y → Type 0) (cs : List ComputationShape) → All (λ c. P (f c)) cs → All (λ c. P (f c)) (strong_ones cs)
  all-left P cs all =
      All-from_recursion (λ c. P (f c)) (strong_ones cs) (each-left P cs (recursion_from_All (λ c. P (f c)) cs all))

  -- a test of it, behind other things that are tested
  tests-left : (test : Y → Bool) (before : List Y) (cs : List ComputationShape)
      → list_all test (before ++ map f cs) ≡ true
      → list_all test (before ++ map f (strong_ones cs)) ≡ true
  tests-left test before cs passes =
      let both = and_parts (list_all test before) (list_all test (map f cs))
      (sym (list_all-append test before (map f cs)) ∙ passes) in
      let each = map-each (λ y. test y ≡ true) f cs (each-passes test (map f cs) both.1) in
      list_all-append test before (map f (strong_ones cs))
      ∙ and_from (list_all test before) (list_all test (map f (strong_ones cs))) both.0
      (all-pass test (map f (strong_ones cs))
      (each-map (λ y. test y ≡ true) f (strong_ones cs) (each-left (λ y. test y ≡ true) cs each)))

-- a part of texts that differ differs
differ-fewer : (f : ComputationShape → List ℕ) (before : List (List ℕ)) (cs : List ComputationShape)
    → all_differ (before ++ map f cs) ≡ true → all_differ (before ++ map f (filter stays cs)) ≡ true
differ-fewer f (x ∷ before) cs differ =
    let both = and_parts (not (list_any (is x) (before ++ map f cs))) (all_differ (before ++ map f cs)) differ in
    let neither = or_parts (list_any (is x) before) (list_any (is x) (map f cs))
    (sym (list_any-append (is x) before (map f cs)) ∙ not-true (list_any (is x) (before ++ map f cs)) both.0) in
    let new = list_any-append (is x) before (map f (filter stays cs))
    ∙ or_from (list_any (is x) before) (list_any (is x) (map f (filter stays cs))) neither.0
    (any-fewer (is x) f stays cs neither.1) in
    and_from (not (list_any (is x) (before ++ map f (filter stays cs))))
    (all_differ (before ++ map f (filter stays cs)))
    (not_from_false (list_any (is x) (before ++ map f (filter stays cs))) new) (differ-fewer f before cs both.1)
differ-fewer f [] [] differ = differ
differ-fewer f [] (c ∷ cs) differ =
    let both = and_parts (not (list_any (is (f c)) (map f cs))) (all_differ (map f cs)) differ in
    let new = any-fewer (is (f c)) f stays cs (not-true (list_any (is (f c)) (map f cs)) both.0) in
    let rest = differ-fewer f [] cs both.1 in
    cond_both (stays c) (c ∷ filter stays cs) (filter stays cs) (λ l. all_differ (map f l) ≡ true)
    (λ kept. and_from (not (list_any (is (f c)) (map f (filter stays cs)))) (all_differ (map f (filter stays cs)))
    (not_from_false (list_any (is (f c)) (map f (filter stays cs))) new) rest)
    (λ left_out. rest)

-- so do those of computations that stay
differ-left : (f : ComputationShape → List ℕ) → ((gone c : ComputationShape) → f (through gone c) ≡ f c)
    → (before : List (List ℕ)) (cs : List ComputationShape) → all_differ (before ++ map f cs) ≡ true
    → all_differ (before ++ map f (strong_ones cs)) ≡ true
differ-left f own before cs differ = ap (λ l. all_differ (before ++ l)) (kept f own cs)
    ∙ differ-fewer f before cs differ

-- they are no more than before
count-left : (cs : List ComputationShape) → length (strong_ones cs) ≤ length cs
count-left cs =
    let stream : ComputationShape → List ℕ = λ c. c.stream in
    omega (
      arith,
      length-filter stays cs,
      ap length (kept stream (λ gone c. refl) cs),
      length-map (strong_ones cs) stream,
      length-map (filter stays cs) stream,
    )

-- and have no more cuts
cuts-left : (cs : List ComputationShape) → sum_by cut_count (strong_ones cs) ≤ sum_by cut_count cs
cuts-left cs =
    omega (
      arith,
      sum_by-filter_both (λ (c : ComputationShape). c.weak) stays (λ c. refl) cut_count cs,
      ap sum (kept cut_count (λ gone c. refl) cs),
      sum-map cut_count (strong_ones cs),
      sum-map cut_count (filter stays cs),
    )

-- ---- what each of them reads

-- where all read something, so do those that stay
some-left : (cs : List ComputationShape) → AllByRecursion Reads cs → AllByRecursion Reads (strong_ones cs)
some-left =
    by_computation (λ cs left. AllByRecursion Reads cs → AllByRecursion Reads left) (λ each. tt)
    (λ gone cs left weak rest each. each-map Reads (through gone) left
    (each-weaker Reads (λ c. Reads (through gone c)) (still gone each.0) left (rest each.1)))
    (λ c cs left strong rest each. (each.0, rest each.1))
  where
    still : (gone : ComputationShape) → Reads gone → (c : ComputationShape) → Reads c → Reads (through gone c)
    still gone some c reads =
        let each : (r : Reading) → 1 ≤ length (reading_through gone r) =
        λ r. some-either (is r.stream gone.stream) (λ (q : Reading). record { stream = q.stream; by = r.by }) gone.reads
        r some in
        omega (arith, reads, length-flat_map_some (reading_through gone) each c.reads)

-- what is known among some streams is known among others, but for this one
abbrev KnownBut : List ℕ → List (List ℕ) → List (List ℕ) → Type 0
KnownBut gone known others = (s : List ℕ) → is s gone ≡ false → list_any (is s) known ≡ true
    → list_any (is s) others ≡ true

-- and so it is with one stream more
known-next : (gone x : List ℕ) (known others : List (List ℕ)) → KnownBut gone known others
    → KnownBut gone (known ++ x ∷ []) (others ++ x ∷ [])
known-next gone x known others still s other there =
    list_any-append (is s) others (x ∷ [])
    ∙ elim (or_cases (list_any (is s) known) (is s x || false) (sym (list_any-append (is s) known (x ∷ [])) ∙ there)) [
      | inl old ↦ or_left (list_any (is s) others) (is s x || false) (still s other old)
      | inr new ↦ or_right (list_any (is s) others) (is s x || false) new
    ]

-- of streams and this one, all but this one are those
known-but_last : (gone : List ℕ) (known : List (List ℕ)) → KnownBut gone (known ++ gone ∷ []) known
known-but_last gone known s other there =
    elim (or_cases (list_any (is s) known) (is s gone || false)
    (sym (list_any-append (is s) known (gone ∷ [])) ∙ there)) [
      | inl old ↦ old
      | inr last ↦ absurd (both_ways (is s gone || false) (or_from (is s gone) false other refl) last)
    ]

-- readings that stand for others read what is known without the weak computation's stream
among-through : (gone : ComputationShape) (known others : List (List ℕ)) → KnownBut gone.stream known others
    → reads_among others gone.reads ≡ true → (reads : List Reading) → reads_among known reads ≡ true
    → reads_among others (flat_map (reading_through gone) reads) ≡ true
among-through gone known others still sources [] there = refl
among-through gone known others still sources (r ∷ rs) there =
    let test : Reading → Bool = λ q. list_any (is q.stream) others in
    let both = and_parts (list_any (is r.stream) known) (reads_among known rs) there in
    let again : Reading → Reading = λ q. record { stream = q.stream; by = r.by } in
    let first : list_all test (reading_through gone r) ≡ true =
    cond_both (is r.stream gone.stream) (map again gone.reads) (r ∷ []) (λ l. list_all test l ≡ true)
    (λ same. list_all-map test again gone.reads ∙ sources)
    (λ other. and_from (test r) true (still r.stream other both.0) refl) in
    list_all-append test (reading_through gone r) (flat_map (reading_through gone) rs)
    ∙ and_from (list_all test (reading_through gone r)) (list_all test (flat_map (reading_through gone) rs)) first
    (among-through gone known others still sources rs both.1)

-- so computations read what is known without it, each in its turn
order-through : (gone : ComputationShape) (known others : List (List ℕ)) → KnownBut gone.stream known others
    → reads_among others gone.reads ≡ true → (cs : List ComputationShape) → ReadBefore known cs
    → ReadBefore others (map (through gone) cs)
order-through gone known others still sources [] reads = tt
order-through gone known others still sources (c ∷ cs) reads = (
  among-through gone known others still sources c.reads reads.0,
  order-through gone (known ++ c.stream ∷ []) next (known-next gone.stream c.stream known others still)
      (all-weaker (λ (q : Reading). list_any (is q.stream) others) (λ (q : Reading). list_any (is q.stream) next)
      (λ q there. any-more q.stream others (c.stream ∷ []) there) gone.reads sources)
      cs reads.1,
)
  where
    next : List (List ℕ)
    next = others ++ c.stream ∷ []

-- where each reads what is published before it, so does each that stays
pub order-left : (known : List (List ℕ)) (cs : List ComputationShape) → ReadBefore known cs
    → ReadBefore known (strong_ones cs)
order-left known cs reads =
    by_computation (λ cs left. (known : List (List ℕ)) → ReadBefore known cs → ReadBefore known left)
    (λ known reads. tt)
    (λ gone cs left weak rest known reads.
    let next = known ++ gone.stream ∷ [] in
    order-through gone next known (known-but_last gone.stream known) reads.0 left (rest next reads.1))
    (λ c cs left strong rest known reads. (reads.0, rest (known ++ c.stream ∷ []) reads.1)) cs known reads

-- ---- the same by the numbers of parts

-- the streams of the injectors, which are known to each computation
abbrev pub injected_streams : Shape → List (List ℕ)
injected_streams shape = map (λ (i : InjectorShape). i.stream) shape.injectors

-- what the computation at a place reads
abbrev reads_at : List ComputationShape → ℕ → List Reading
reads_at cs at = unwrap_or (option_map (λ (c : ComputationShape). c.reads) (slice_get cs at)) []

-- the streams that are known are so many of all
known-first : (all known later : List (List ℕ)) → all ≡ known ++ later → take (length known) all ≡ known
known-first all known later split = ap (take (length known)) split ∙ take-append_seam known later

-- where what is read at each place is among so many of all streams, each reads what is published before it
order-at : (all known : List (List ℕ)) (cs : List ComputationShape) → all ≡ known ++ streams_by cs
    → ((at : ℕ) → All (λ (r : Reading). Contains (take (length known + at) all) r.stream) (reads_at cs at))
    → ReadBefore known cs
order-at all known [] split above = tt
order-at all known (c ∷ cs) split above =
    (own, order-at all (known ++ c.stream ∷ []) cs (split ∙ names-next known c cs) (λ at. later at (above (suc at))))
  where
    here : take (length known + 0) all ≡ known
    here =
        let nothing_more : length known + 0 ≡ length known = omega arith in
        ap (λ n. take n all) nothing_more ∙ known-first all known (streams_by (c ∷ cs)) split

    own : reads_among known c.reads ≡ true
    own = list_all-from_AllPass (λ (r : Reading). list_any (is r.stream) known) c.reads
        (All-weaker (λ (r : Reading). Contains known r.stream) (λ (r : Reading). list_any (is r.stream) known ≡ true)
        (λ r there. list_any-from_Contains nat_list_eq_equiv r.stream known there) c.reads
        (subst (λ l. All (λ (r : Reading). Contains l r.stream) c.reads) here (above 0)))

    one_more : (at : ℕ) → length known + suc at ≡ length (known ++ c.stream ∷ []) + at
    one_more at = omega (arith, length-append known (c.stream ∷ []))

    later : (at : ℕ) → All (λ (r : Reading). Contains (take (length known + suc at) all) r.stream) (reads_at cs at)
        → All (λ (r : Reading). Contains (take (length (known ++ c.stream ∷ []) + at) all) r.stream) (reads_at cs at)
    later at there =
        subst (λ n. All (λ (r : Reading). Contains (take n all) r.stream) (reads_at cs at)) (one_more at) there

-- and then each passes the test of a file's readings
above-from : (all known : List (List ℕ)) (cs : List ComputationShape) → all ≡ known ++ streams_by cs
    → ReadBefore known cs
    → list_all (λ (p : ℕ × ComputationShape). reads_among (take p.0 all) p.1.reads) (enumerate_from
    (length known) cs) ≡ true
above-from all known [] split reads = refl
above-from all known (c ∷ cs) split reads =
    let test : ℕ × ComputationShape → Bool = λ p. reads_among (take p.0 all) p.1.reads in
    let one_more : length known + 1 ≡ length (known ++ c.stream ∷ []) = omega (
      arith,
      length-append known
          (c.stream ∷ []),
    ) in
    and_from (reads_among (take (length known) all) c.reads) (list_all test (enumerate_from (length known + 1) cs))
    (ap (λ l. reads_among l c.reads) (known-first all known (streams_by (c ∷ cs)) split) ∙ reads.0)
    (ap (λ n. list_all test (enumerate_from n cs)) one_more
    ∙ above-from all (known ++ c.stream ∷ []) cs (split ∙ names-next known c cs) reads.1)

-- the computations of a topology read what is published before them
pub topology-order : (shape : Shape) → IsTopology shape → ReadBefore (injected_streams shape) shape.computations
topology-order shape is_topology =
    order-at (streams_of shape) (injected_streams shape) shape.computations refl (λ at.
    subst (λ (p : ℕ × List Reading). All (λ (r : Reading). Contains (take p.0 (streams_of shape)) r.stream) p.1) (λ i.
    (number at i, reads at i))
    (is_topology.above (injectors_of shape + at)))
  where
    number : (at : ℕ) → injectors_of shape + at ≡ length (injected_streams shape) + at
    number at = omega (arith, length-map shape.injectors (λ (i : InjectorShape). i.stream))

    reads : (at : ℕ) → reads_of shape (injectors_of shape + at) ≡ reads_at shape.computations at
    reads at =
        let is_one : nat_lt (injectors_of shape + at) (injectors_of shape) ≡ false =
        le-ltb (injectors_of shape + at) (injectors_of shape) (omega arith) in
        let place : injectors_of shape + at - injectors_of shape ≡ at = omega arith in
        λ i. unwrap_or (option_map (λ (c : ComputationShape). c.reads)
        (cond (is_one i) None (slice_get shape.computations (place i)))) []

-- and where they do, each part reads what parts with smaller numbers publish
order-above : (shape : Shape) → ReadBefore (injected_streams shape) shape.computations
    → (part : ℕ) → All (λ (r : Reading). Contains (take part (streams_of shape)) r.stream) (reads_of shape part)
order-above shape reads = reads_above-above shape (
    ap (λ n. list_all (λ (p : ℕ × ComputationShape). reads_among (take p.0 (streams_of shape)) p.1.reads)
    (enumerate_from n shape.computations))
    (sym (length-map shape.injectors (λ (i : InjectorShape). i.stream)))
    ∙ above-from (streams_of shape) (injected_streams shape) shape.computations refl reads
    )

-- ---- nothing more to take out

-- those that stay are not weak
none-weak : (cs : List ComputationShape) → AllByRecursion (λ (c : ComputationShape). c.weak ≡ false) (strong_ones cs)
none-weak = by_computation (λ cs left. AllByRecursion (λ (c : ComputationShape). c.weak ≡ false) left) tt
    (λ gone cs left weak rest. each-map (λ (c : ComputationShape). c.weak ≡ false) (through gone) left rest)
    (λ c cs left strong rest. (strong, rest))

-- computations that are not weak stay as they are
all-stay : (n : ℕ) (cs : List ComputationShape) → AllByRecursion (λ (c : ComputationShape). c.weak ≡ false) cs
    → strong_from n cs ≡ map strong_as cs
all-stay n [] strong = refl
all-stay n (c ∷ cs) strong =
    cond-false c.weak _ (strong_as c ∷ strong_from n cs) strong.0 ∙ ap (λ l. strong_as c ∷ l) (all-stay n cs strong.1)

-- so they may be taken for what is left, if they have at most 64 readings
strong-foldable : (shape : Shape) → AllByRecursion (λ (c : ComputationShape). c.weak ≡ false) shape.computations
    → sum_by read_count shape.computations ≤ 64 → is_foldable shape ≡ true
strong-foldable shape strong few =
    let cs = shape.computations in
    let as_stated : way_count (map strong_as cs) ≡ sum_by read_count cs =
    sum_by-map (λ (s : Strong). length s.ways) strong_as cs
    ∙ (λ i. sum_by (λ (c : ComputationShape). length-map c.reads way_of i) cs) in
    and_from (are_weak_read cs) (nat_le (way_count (strong_from 0 cs)) 64)
    (all-pass (λ (c : ComputationShape). not c.weak || is_read cs c.stream) cs
    (each-weaker (λ (c : ComputationShape). c.weak ≡ false)
    (λ (c : ComputationShape). (not c.weak || is_read cs c.stream) ≡ true)
    (λ c e. or_left (not c.weak) (is_read cs c.stream) (not_from_false c.weak e)) cs strong))
    (le-leb (way_count (strong_from 0 cs)) 64 (omega (arith, few, as_stated, ap way_count (all-stay 0 cs strong))))

-- ---- the whole

-- a topology with the computations that stay
abbrev pub strong_shape : Shape → Shape
strong_shape shape = record shape { computations = strong_ones shape.computations }

-- which is what folding leaves
pub folded-strong : (shape : Shape) → folded shape ≡ strong_shape shape
folded-strong shape = ap (λ cs. record shape { computations = cs }) (left-strong 0 shape.computations)

-- it has as many readings as there are ways, which are few
readings-left : (shape : Shape) → is_foldable shape ≡ true → sum_by read_count (strong_ones shape.computations) ≤ 64
readings-left shape foldable =
    let readers = strong_from 0 shape.computations in
    let ways : sum_by read_count (map left_of readers) ≡ way_count readers =
    sum_by-map read_count left_of readers
    ∙ (λ i. sum_by (λ (s : Strong). length-map s.ways (λ (w : Way). w.reading) i) readers) in
    let few = leb-true (way_count readers) 64 (and_parts (are_weak_read shape.computations)
    (nat_le (way_count readers) 64) foldable).1 in
    omega (arith, few, ways, ap (sum_by read_count) (left-strong 0 shape.computations))

-- and it keeps the rules
pub strong-topology : (shape : Shape) → IsTopology shape → IsTopology (strong_shape shape)
strong-topology shape rules =
    let cs = shape.computations in
    let few = readings-left shape rules.foldable in
    let fewer = count-left cs in
    let name : ComputationShape → List ℕ = λ c. c.name in
    let stream : ComputationShape → List ℕ = λ c. c.stream in
    let names : List (List ℕ) = map (λ (i : InjectorShape). i.name) shape.injectors in
    record {
      some_injector = rules.some_injector;
      few_injectors = rules.few_injectors;
      few_computations = omega (arith, fewer, rules.few_computations);
      few_readings = few;
      few_intervals = omega (arith, fewer, cuts-left cs, rules.few_intervals);
      names = tests-left name (λ gone c. refl) is_name names cs rules.names;
      streams = tests-left stream (λ gone c. refl) is_name (injected_streams shape) cs rules.streams;
      names_differ = differ-left name (λ gone c. refl) names cs rules.names_differ;
      streams_differ = differ-left stream (λ gone c. refl) (injected_streams shape) cs rules.streams_differ;
      reading = All-from_recursion Reads (strong_ones cs)
          (some-left cs (recursion_from_All Reads cs rules.reading));
      above = order-above (strong_shape shape) (order-left (injected_streams shape) cs (topology-order shape rules));
      kinds = all-left (λ (c : ComputationShape). c.kind) (λ gone c. refl) IsKind cs rules.kinds;
      cuts = all-left (λ (c : ComputationShape). c.cuts) (λ gone c. refl) AreCutKeys cs rules.cuts;
      passes = all-left {Y = Bool × Kind} (λ (c : ComputationShape). (c.weak, c.kind)) (λ gone c. refl)
          (λ p. p.0 ≡ true → p.1 ≡ Pass) cs
          rules.passes;
      foldable = strong-foldable (strong_shape shape) (none-weak cs) few;
    }

-- so what folding leaves keeps them
pub folded-topology : (shape : Shape) → IsTopology shape → IsTopology (folded shape)
folded-topology shape rules = subst IsTopology (sym (folded-strong shape)) (strong-topology shape rules)

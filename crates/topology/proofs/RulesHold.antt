-- A shape that keeps the rules of a file is a topology.
use Rattle.std.proofs.Common.{◌≡◌, ℕ, zero, suc, ◌+◌, ◌-◌, ◌≤◌, Bool, true, false, cond, nat_le, nat_lt, nat_eq, List, [], ◌∷◌, length, take, sum_by, slice_get, unwrap_or, option_map, Option, None, All, Contains, Result, Ok, Less, true≢false, refl, sym, ◌∙◌, ap, subst, arith}
use Rattle.std.specs.Result.{is_ok}
use Rattle.std.specs.Ordering.{is_lt}
use Rattle.std.specs.List.{list_any, list_all, enumerate_from, AllByRecursion}
use Rattle.std.specs.List.Sorted.{IsStrictlySortedBy}
use Rattle.std.specs.Cmp.Lexicographic.{pointwise, bytes_decides}
use Rattle.std.proofs.lemmas.Bool.{and_parts, leb-true}
use Rattle.std.proofs.lemmas.Bool.Decides.{nat_tests}
use Rattle.std.proofs.lemmas.List.Elements.{All-nil, All-weaker}
use Rattle.std.proofs.lemmas.List.Sums.{AllPass-from_list_all}
use Rattle.std.proofs.lemmas.Map.Views.{Contains-from_any}
use Rattle.list_lemmas.proofs.Tests.{less_from_test}
use Rattle.mw_types.specs.Orders.{key_cmp}
use Rattle.mw_types.specs.Kinds.{IsKind}
use Rattle.mw_types.specs.declared.kind.Kind.{Kind}
use Rattle.mw_types.specs.declared.kind.Kind.TheVariants.{Count, Spike, Pass}
use Rattle.topology.specs.Shapes.{Shape, ComputationShape, Reading, injectors_of, parts_of, streams_of, reads_of}
use Rattle.topology.specs.Rules.{IsTopology, AreCutKeys}
use Rattle.topology.specs.FileRules.{is_few, reads_among, reads_above, in_range, is_ascending, is_cut, are_cuts, where_holds, checked}
use Rattle.topology.specs.Answers.{IsFull}
use Rattle.topology.specs.declared.refusal.TopologyRefusal.{TopologyRefusal}

-- there is room for the cuts where they fit beside the parts
room_beside : (parts cuts : ℕ) → parts ≤ 61 → nat_le cuts (61 - parts) ≡ nat_le (parts + cuts) 61
room_beside parts cuts few = grind (arith, nat_tests)

-- what is left to ask where injectors, computations and readings are few
pub is_few-cuts : (shape : Shape) (fits : Bool)
    → length shape.injectors ≤ 16 → length shape.computations ≤ 32
    → nat_le (sum_by (λ (c : ComputationShape). length c.reads) shape.computations) 64 ≡ true
    → fits ≡ nat_le (sum_by (λ (c : ComputationShape). length c.cuts) shape.computations) (61 - parts_of shape)
    → fits ≡ is_few shape
is_few-cuts shape fits injectors computations reads is =
    let first : nat_le (length shape.injectors) 16 ≡ true = grind (arith, nat_tests, injectors) in
    let second : nat_le (length shape.computations) 32 ≡ true = grind (arith, nat_tests, computations) in
    rw first (rw second (rw reads (is ∙ room_beside _ _ (omega arith))))

-- where something comes of a rule, it holds, and that comes of what follows it
held : (holds : Bool) (why : TopologyRefusal) (next : Result Shape TopologyRefusal) (s : Shape)
    → where_holds holds why next ≡ Ok s → (holds ≡ true) × (next ≡ Ok s)
held true why next s e = (refl, e)
held false why next s e = absurd (true≢false (sym (ap is_ok e)))

-- what is read is among the streams
reads_among-contains : (streams : List (List ℕ)) (reads : List Reading) → reads_among streams reads ≡ true
    → All (λ (r : Reading). Contains streams r.stream) reads
reads_among-contains streams reads e =
    All-weaker (λ (r : Reading). list_any (pointwise nat_eq r.stream) streams ≡ true) (λ (r : Reading). Contains streams r.stream)
    (λ r found. Contains-from_any (λ x y. (bytes_decides x y).0) r.stream streams found) reads (AllPass-from_list_all _ reads e)

-- so it is for each computation of a list, where the first has number n
above_from : (streams : List (List ℕ)) (n : ℕ) (cs : List ComputationShape) (k : ℕ)
    → list_all (λ (p : ℕ × ComputationShape). reads_among (take p.0 streams) p.1.reads) (enumerate_from n cs) ≡ true
    → All (λ (r : Reading). Contains (take (n + k) streams) r.stream) (unwrap_or (option_map (λ (c : ComputationShape). c.reads) (slice_get cs k)) [])
above_from streams n [] k e = All-nil _
above_from streams n (c ∷ cs) zero e =
    let here : n ≡ n + 0 = omega arith in
    subst (λ m. All (λ (r : Reading). Contains (take m streams) r.stream) c.reads) here
    (reads_among-contains (take n streams) c.reads (and_parts _ _ e).0)
above_from streams n (c ∷ cs) (suc k) e =
    let next : n + 1 + k ≡ n + suc k = omega arith in
    subst (λ m. All (λ (r : Reading). Contains (take m streams) r.stream) (unwrap_or (option_map (λ (c : ComputationShape). c.reads) (slice_get cs k)) [])) next
    (above_from streams (n + 1) cs k (and_parts _ _ e).1)

-- an injector reads nothing
for_part : (is_injector : Bool) (c : Option ComputationShape) (P : Reading → Type 0)
    → (is_injector ≡ false → All P (unwrap_or (option_map (λ (c : ComputationShape). c.reads) c) []))
    → All P (unwrap_or (option_map (λ (c : ComputationShape). c.reads) (cond is_injector None c)) [])
for_part true c P all = All-nil P
for_part false c P all = all refl

-- each part reads only what parts before it publish
pub reads_above-above : (shape : Shape) → reads_above shape ≡ true
    → (part : ℕ) → All (λ (r : Reading). Contains (take part (streams_of shape)) r.stream) (reads_of shape part)
reads_above-above shape e part =
    let first = injectors_of shape in
    for_part (nat_lt part first) (slice_get shape.computations (part - first)) (λ (r : Reading). Contains (take part (streams_of shape)) r.stream) (λ later.
    let past : first ≤ part = grind (arith, nat_tests, later) in
    let at : first + (part - first) ≡ part = omega (arith, past) in
    subst (λ m. All (λ (r : Reading). Contains (take m (streams_of shape)) r.stream) (unwrap_or (option_map (λ (c : ComputationShape). c.reads) (slice_get shape.computations (part - first))) [])) at
    (above_from (streams_of shape) first shape.computations (part - first) e))

-- numbers in their ranges are those of a kind
in_range-is_kind : (kind : Kind) → in_range kind ≡ true → IsKind kind
in_range-is_kind (Count size) e = (leb-true _ _ (and_parts _ _ e).0, leb-true _ _ (and_parts _ _ e).1)
in_range-is_kind (Spike last times) e =
    let but_last = and_parts _ _ (and_parts _ _ e).0 in
    let of_last = and_parts _ _ but_last.0 in
    (leb-true _ _ of_last.0, leb-true _ _ of_last.1, leb-true _ _ but_last.1, leb-true _ _ (and_parts _ _ e).1)
in_range-is_kind Pass e = tt

-- a cut is below those after it
less_than_all : (cut : List ℕ) (cuts : List (List ℕ)) → list_all (λ later. is_lt (key_cmp cut later)) cuts ≡ true
    → AllByRecursion (λ later. key_cmp cut later ≡ Less) cuts
less_than_all cut [] e = tt
less_than_all cut (later ∷ cuts) e = (less_from_test _ (and_parts _ _ e).0, less_than_all cut cuts (and_parts _ _ e).1)

-- so cuts ascend
is_ascending-sorted : (cuts : List (List ℕ)) → is_ascending cuts ≡ true → IsStrictlySortedBy key_cmp cuts
unfolding IsStrictlySortedBy
is_ascending-sorted [] e = tt
is_ascending-sorted (cut ∷ cuts) e = (less_than_all cut cuts (and_parts _ _ e).0, is_ascending-sorted cuts (and_parts _ _ e).1)

-- cuts that pass are cuts
are_cuts-cuts : (cuts : List (List ℕ)) → are_cuts cuts ≡ true → AreCutKeys cuts
are_cuts-cuts cuts e =
    let each = AllPass-from_list_all is_cut cuts (and_parts _ _ e).0 in
    record {
      some = All-weaker (λ cut. is_cut cut ≡ true) (λ (cut : List ℕ). 1 ≤ length cut) (λ cut passes. leb-true _ _ (and_parts _ _ passes).0) cuts each;
      short = All-weaker (λ cut. is_cut cut ≡ true) (λ (cut : List ℕ). length cut ≤ 256) (λ cut passes. leb-true _ _ (and_parts _ _ passes).1) cuts each;
      ascending = is_ascending-sorted cuts (and_parts _ _ e).1;
    }

-- a full shape that keeps all rules is a topology
pub checked-is_topology : (shape s : Shape) → IsFull shape → checked shape ≡ Ok s → IsTopology shape
checked-is_topology shape s full e =
    let few = held _ _ _ s e in
    let named = held _ _ _ s few.1 in
    let names = held _ _ _ s named.1 in
    let streams = held _ _ _ s names.1 in
    let above = held _ _ _ s streams.1 in
    let range = held _ _ _ s above.1 in
    let cuts = held _ _ _ s range.1 in
    let foldable = held _ _ _ s cuts.1 in
    let intervals = and_parts _ _ few.0 in
    let readings = and_parts _ _ intervals.0 in
    let parts = and_parts _ _ readings.0 in
    record {
      some_injector = full.some_injector;
      few_injectors = leb-true _ _ parts.0;
      few_computations = leb-true _ _ parts.1;
      few_readings = leb-true _ _ readings.1;
      few_intervals = leb-true _ _ intervals.1;
      names = (and_parts _ _ named.0).0;
      streams = (and_parts _ _ named.0).1;
      names_differ = names.0;
      streams_differ = streams.0;
      reading = full.reading;
      above = reads_above-above shape above.0;
      kinds = All-weaker (λ (c : ComputationShape). in_range c.kind ≡ true) (λ (c : ComputationShape). IsKind c.kind) (λ c passes. in_range-is_kind c.kind passes) shape.computations (AllPass-from_list_all _ shape.computations range.0);
      cuts = All-weaker (λ (c : ComputationShape). are_cuts c.cuts ≡ true) (λ (c : ComputationShape). AreCutKeys c.cuts) (λ c passes. are_cuts-cuts c.cuts passes) shape.computations (AllPass-from_list_all _ shape.computations cuts.0);
      passes = full.passes;
      foldable = foldable.0;
    }

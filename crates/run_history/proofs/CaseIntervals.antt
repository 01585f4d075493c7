-- The intervals of a topology's cuts can be made: parts are numbered, cuts are above the empty key, and there are few.
use Rattle.std.proofs.Common.{◌≡◌, ◌∙◌, ℕ, zero, suc, ◌+◌, ◌-◌, ◌<◌, ◌≤◌, nat_lt, Bool, true, false, cond, Option, Some, None, IfSome, unwrap_or, slice_get, List, [], ◌∷◌, length, map, sum_by, All, refl, sym, ap, arith, length-append}
use Rattle.std.specs.Option.{option_map}
use Rattle.std.specs.List.{range_with_len, AllByRecursion}
use Rattle.std.specs.List.Sorted.{IsStrictlySortedBy}
use Rattle.std.specs.declared.cmp.Ordering.TheVariants.{Less}
use Rattle.std.proofs.lemmas.List.Elements.{All-nil, All-cons, recursion_from_All}
use Rattle.std.proofs.lemmas.List.Sums.{sum_by-cons}
use Rattle.mw_types.specs.Orders.{key_cmp}
use Rattle.mw_types.specs.declared.key.PartCuts.{PartCuts}
use Rattle.key_intervals.specs.Intervals.{DivideKeys, AreNumbered, bounds_from, bounds_of}
use Rattle.topology.specs.Shapes.{Shape, ComputationShape, injectors_of, parts_of, computation_of, cuts_of}
use Rattle.topology.specs.Rules.{IsTopology, interval_count, part_cuts_of, AreCutKeys}

-- a part of this number with the cuts that a function gives
abbrev with_cuts : (ℕ → List (List ℕ)) → ℕ → PartCuts
with_cuts f part = record { part = part; cuts = f part }

-- such parts are numbered
numbered_from : (f : ℕ → List (List ℕ)) (n k : ℕ) → AreNumbered n (map (with_cuts f) (range_with_len n k))
numbered_from f n zero = tt
numbered_from f n (suc k) = (refl, numbered_from f (n + 1) k)

-- the parts of a topology are numbered
pub part_cuts_of-numbered : (shape : Shape) → AreNumbered 0 (part_cuts_of shape)
part_cuts_of-numbered shape = numbered_from (cuts_of shape) 0 (parts_of shape)

-- a cut that is not empty is above the empty key
above_empty : (cuts : List (List ℕ)) → AllByRecursion (λ (cut : List ℕ). 1 ≤ length cut) cuts
    → AllByRecursion (λ (cut : List ℕ). key_cmp [] cut ≡ Less) cuts
above_empty [] some = tt
above_empty ([] ∷ cuts) some = absurd (omega (arith, some.0))
above_empty ((b ∷ bs) ∷ cuts) some = (refl, above_empty cuts some.1)

-- cuts of a topology are cuts of intervals
cuts_above : (cuts : List (List ℕ)) → AreCutKeys cuts → DivideKeys cuts
unfolding IsStrictlySortedBy
cuts_above cuts are = (above_empty cuts (recursion_from_All (λ (cut : List ℕ). 1 ≤ length cut) cuts are.some), are.ascending)

-- no cuts are cuts of intervals
no_cuts : DivideKeys []
unfolding IsStrictlySortedBy
no_cuts = (tt, tt)

-- what holds of all holds of each that is there
if_there : {X : Type 0} (P : X → Type 0) (xs : List X) (k : ℕ) → AllByRecursion P xs → IfSome (slice_get xs k) P
if_there P [] k all = tt
if_there P (x ∷ xs) zero all = all.0
if_there P (x ∷ xs) (suc k) all = if_there P xs k all.1

-- so it holds where there may be none
if_either : {X : Type 0} (P : X → Type 0) (b : Bool) (found : Option X) → IfSome found P → IfSome (cond b None found) P
if_either P true found holds = tt
if_either P false found holds = holds

-- the cuts of a computation that may be there
cuts_if : (found : Option ComputationShape) → IfSome found (λ (c : ComputationShape). AreCutKeys c.cuts)
    → DivideKeys (unwrap_or (option_map (λ (c : ComputationShape). c.cuts) found) [])
cuts_if None are = no_cuts
cuts_if (Some c) are = cuts_above c.cuts are

-- each part of a topology has cuts of intervals
cuts_of-cuts : (shape : Shape) (part : ℕ) → IsTopology shape → DivideKeys (cuts_of shape part)
cuts_of-cuts shape part rules =
    let each = recursion_from_All (λ (c : ComputationShape). AreCutKeys c.cuts) shape.computations rules.cuts in
    let test = λ (c : ComputationShape). AreCutKeys c.cuts in
    cuts_if (computation_of shape part)
    (if_either test (nat_lt part (injectors_of shape)) _ (if_there test shape.computations (part - injectors_of shape) each))

-- what holds of each number's part holds of all
all_from : (P : PartCuts → Type 0) (f : ℕ → List (List ℕ)) (n k : ℕ) → ((part : ℕ) → P (with_cuts f part))
    → All P (map (with_cuts f) (range_with_len n k))
all_from P f n zero each = All-nil P
all_from P f n (suc k) each = All-cons P (with_cuts f n) _ (each n) (all_from P f (n + 1) k each)

-- all cuts of a topology are cuts of intervals
pub part_cuts_of-cuts : (shape : Shape) → IsTopology shape → All (λ (p : PartCuts). DivideKeys p.cuts) (part_cuts_of shape)
part_cuts_of-cuts shape rules =
    all_from (λ (p : PartCuts). DivideKeys p.cuts) (cuts_of shape) 0 (parts_of shape) (λ part. cuts_of-cuts shape part rules)

-- a part has one interval more than cuts
length-bounds_from : (part : ℕ) (from : List ℕ) (cuts : List (List ℕ)) → length (bounds_from part from cuts) ≡ suc (length cuts)
length-bounds_from part from [] = refl
length-bounds_from part from (cut ∷ cuts) = ap suc (length-bounds_from part cut cuts)

-- how many intervals parts from a number on have
abbrev interval_total : (ℕ → List (List ℕ)) → ℕ → ℕ → ℕ
interval_total f n zero = 0
interval_total f n (suc k) = suc (length (f n)) + interval_total f (n + 1) k

-- so many they have
length-bounds_of : (f : ℕ → List (List ℕ)) (n k : ℕ) → length (bounds_of (map (with_cuts f) (range_with_len n k))) ≡ interval_total f n k
length-bounds_of f n zero = refl
length-bounds_of f n (suc k) =
    length-append (bounds_from n [] (f n)) _
    ∙ ap (λ m. m + length (bounds_of (map (with_cuts f) (range_with_len (n + 1) k)))) (length-bounds_from n [] (f n))
    ∙ ap (λ m. suc (length (f n)) + m) (length-bounds_of f (n + 1) k)

-- first so many parts, and then the others
interval_total-add : (f : ℕ → List (List ℕ)) (n a b m : ℕ) → m ≡ n + a
    → interval_total f n (a + b) ≡ interval_total f n a + interval_total f m b
interval_total-add f n zero b m at =
    let all : 0 + b ≡ b = omega arith in
    let start : n ≡ m = omega (arith, at) in
    let sum : interval_total f m b ≡ 0 + interval_total f m b = omega arith in
    ap (interval_total f n) all ∙ ap (λ k. interval_total f k b) start ∙ sum
interval_total-add f n (suc a) b m at =
    let all : suc a + b ≡ suc (a + b) = omega arith in
    let rest = interval_total-add f (n + 1) a b m (omega (arith, at)) in
    let sum : suc (length (f n)) + (interval_total f (n + 1) a + interval_total f m b) ≡ interval_total f n
    (suc a) + interval_total f m b = omega arith in
    ap (interval_total f n) all ∙ ap (λ k. suc (length (f n)) + k) rest ∙ sum

-- parts without cuts have one interval each
interval_total-uncut : (f : ℕ → List (List ℕ)) (n a : ℕ) → ((part : ℕ) → part < n + a → f part ≡ []) → interval_total f n a ≡ a
interval_total-uncut f n zero none = refl
interval_total-uncut f n (suc a) none =
    let rest = interval_total-uncut f (n + 1) a (λ part below. none part (omega (arith, below))) in
    let here : length (f n) ≡ 0 = ap length (none n (omega arith)) in
    omega (arith, rest, here)

-- the cuts of the computation at a place of a list
abbrev cuts_at : List ComputationShape → ℕ → List (List ℕ)
cuts_at cs k = unwrap_or (option_map (λ (c : ComputationShape). c.cuts) (slice_get cs k)) []

-- computations have one interval each, and one more for each cut
interval_total-cut : (f : ℕ → List (List ℕ)) (n : ℕ) (cs : List ComputationShape) → ((k : ℕ) → f (n + k) ≡ cuts_at cs k)
    → interval_total f n (length cs) ≡ length cs + sum_by (λ (c : ComputationShape). length c.cuts) cs
interval_total-cut f n [] each = refl
interval_total-cut f n (c ∷ cs) each =
    let here : n + 0 ≡ n = omega arith in
    let own : length (f n) ≡ length c.cuts = ap length (ap f (sym here) ∙ each 0) in
    let next : (k : ℕ) → f (n + 1 + k) ≡ cuts_at cs k = λ k. (let on : n + 1 + k ≡ n + suc k = omega arith in ap f on ∙ each (suc k)) in
    let rest = interval_total-cut f (n + 1) cs next in
    let sum : sum_by (λ (d : ComputationShape). length d.cuts) (c ∷ cs) ≡ length c.cuts + sum_by
    (λ (d : ComputationShape). length d.cuts) cs =
    sum_by-cons (λ (d : ComputationShape). length d.cuts) c cs in
    omega (arith, own, rest, sum)

-- an injector has no cuts
cuts_of-injector : (shape : Shape) (part : ℕ) → part < injectors_of shape → cuts_of shape part ≡ []
cuts_of-injector shape part below =
    let test : nat_lt part (injectors_of shape) ≡ true = grind (arith, below) in
    ap (λ b. unwrap_or (option_map (λ (c : ComputationShape). c.cuts)
    (cond b None (slice_get shape.computations (part - injectors_of shape)))) []) test

-- a computation has its own
cuts_of-computation : (shape : Shape) (k : ℕ) → cuts_of shape (injectors_of shape + k) ≡ cuts_at shape.computations k
cuts_of-computation shape k =
    let test : nat_lt (injectors_of shape + k) (injectors_of shape) ≡ false = grind arith in
    let at : injectors_of shape + k - injectors_of shape ≡ k = omega arith in
    ap (λ b. unwrap_or (option_map (λ (c : ComputationShape). c.cuts)
    (cond b None (slice_get shape.computations (injectors_of shape + k - injectors_of shape)))) []) test
    ∙ ap (cuts_at shape.computations) at

-- a topology has so many intervals as its rules count
pub length-intervals : (shape : Shape) → length (bounds_of (part_cuts_of shape)) ≡ interval_count shape
length-intervals shape =
    let f = cuts_of shape in
    let injectors = injectors_of shape in
    let all = length-bounds_of f 0 (parts_of shape) in
    let split = interval_total-add f 0 injectors (length shape.computations) injectors (omega arith) in
    let uncut = interval_total-uncut f 0 injectors (λ part below. cuts_of-injector shape part (omega (arith, below))) in
    let cut = interval_total-cut f injectors shape.computations (cuts_of-computation shape) in
    omega (arith, all, split, uncut, cut)

-- so has each list of its parts' cuts
pub intervals-few : (shape : Shape) (cuts : List PartCuts) → IsTopology shape → cuts ≡ part_cuts_of shape → length (bounds_of cuts) ≤ 61
intervals-few shape cuts rules same =
    let all : length (bounds_of cuts) ≡ interval_count shape = ap (λ l. length (bounds_of l)) same ∙ length-intervals shape in
    omega (arith, all, rules.few_intervals)

-- The intervals of a topology are of its parts, and each part has one.
use Rattle.std.proofs.Common.{◌≡◌, ◌∙◌, ℕ, zero, suc, ◌+◌, ◌<◌, ◌≤◌, ◌==◌, Bool, true, false, cond, Some, None, slice_get, List, [], ◌∷◌, length, map, get_or, sym, ap, subst, arith}
use Rattle.std.specs.List.{AllByRecursion, cons_option, range_with_len}
use Rattle.std.proofs.lemmas.Bool.Decides.{nat_tests}
use Rattle.std.proofs.lemmas.List.FromFn.{length-map-range_with_len}
use Rattle.key_intervals.specs.declared.bounds.Bounds.{Bounds}
use Rattle.key_intervals.specs.Intervals.{bounds_from, bounds_of}
use Rattle.key_intervals.proofs.Made.{has_part}
use Rattle.topology.specs.Shapes.{Shape, parts_of, cuts_of}
use Rattle.topology.specs.Rules.{part_cuts_of}
use Rattle.run_history.specs.Cases.{intervals_of}
use Rattle.list_lemmas.proofs.Lists.{each-append}
use Rattle.list_lemmas.proofs.Places.{each-at}
use Rattle.run_history.proofs.CaseIntervals.{part_cuts_of-numbered}
use Rattle.watermark.specs.Marks.{marks_in, marks_of}

-- the intervals of a part below m are of parts below m
part_below : (part m : ℕ) (from : List ℕ) (cuts : List (List ℕ)) → part < m
    → AllByRecursion (λ (b : Bounds). b.part < m) (bounds_from part from cuts)
part_below part m from [] below = (below, tt)
part_below part m from (cut ∷ cuts) below = (below, part_below part m cut cuts below)

-- so are those of k parts from n on
parts_below : (f : ℕ → List (List ℕ)) (n k m : ℕ) → n + k ≤ m
    → AllByRecursion (λ (b : Bounds). b.part < m) (bounds_of
    (map (λ (part : ℕ). record { part = part; cuts = f part }) (range_with_len n k)))
parts_below f n zero m most = tt
parts_below f n (suc k) m most =
    each-append (λ (b : Bounds). b.part < m) (bounds_from n [] (f n)) _
    (part_below n m [] (f n) (omega (arith, most))) (parts_below f (n + 1) k m (omega (arith, most)))

-- an interval is of a part that is there
pub part_within : (shape : Shape) (interval : ℕ) (b : Bounds) → slice_get (intervals_of shape) interval ≡ Some b → b.part < parts_of shape
part_within shape interval b at =
    each-at (λ (d : Bounds). d.part < parts_of shape) (intervals_of shape) interval b
    (parts_below (cuts_of shape) 0 (parts_of shape) (parts_of shape) (omega arith)) at

-- marks stay some where one more may stand before them
some_more : (test : Bool) (mark : ℕ) (marks : List ℕ) → 1 ≤ length marks → 1 ≤ length (cons_option (cond test (Some mark) None) marks)
some_more true mark marks some = omega arith
some_more false mark marks some = some

-- a mark that passes is one
some_first : (test : Bool) (mark : ℕ) (marks : List ℕ) → test ≡ true → 1 ≤ length (cons_option (cond test (Some mark) None) marks)
some_first test mark marks passes =
    let one : 1 ≤ length (mark ∷ marks) = omega arith in
    subst (λ t. 1 ≤ length (cons_option (cond t (Some mark) None) marks)) (sym passes) one

-- where an interval is of the part, the part has a mark
some_mark : (part : ℕ) (xs : List Bounds) (marks : List ℕ) (k : ℕ) (x : Bounds) → k < length xs → get_or xs k x ≡ x → x.part ≡ part
    → length marks ≡ length xs → 1 ≤ length (marks_in xs part marks)
some_mark part [] marks k x within is of long = absurd (omega (arith, within))
some_mark part (b ∷ bs) [] k x within is of long = absurd (omega (arith, long))
some_mark part (b ∷ bs) (m ∷ ms) zero x within is of long =
    let same : b.part ≡ part = ap (λ (d : Bounds). d.part) is ∙ of in
    let passes : (b.part == part) ≡ true = grind (arith, nat_tests, same) in
    some_first (b.part == part) m (marks_in bs part ms) passes
some_mark part (b ∷ bs) (m ∷ ms) (suc k) x within is of long =
    some_more (b.part == part) m (marks_in bs part ms)
    (some_mark part bs ms k x (omega (arith, within)) is of (omega (arith, long)))

-- each part that is there has an interval, and so a mark
pub some_marks : (shape : Shape) (part : ℕ) (marks : List ℕ) → part < parts_of shape → length marks ≡ length (intervals_of shape)
    → 1 ≤ length (marks_of shape part marks)
some_marks shape part marks below long =
    let all : length (part_cuts_of shape) ≡ parts_of shape =
    length-map-range_with_len (λ (p : ℕ). record { part = p; cuts = cuts_of shape p }) 0 (parts_of shape) in
    let has = has_part (part_cuts_of shape) 0 part (part_cuts_of-numbered shape) (omega (arith, below, all)) in
    let same : 0 + part ≡ part = omega arith in
    some_mark part (intervals_of shape) marks has.0 has.1 has.2 has.3 (has.4 ∙ same) long

-- What feeds the intervals of one part stays as it is while they are reported.
use Rattle.std.proofs.Common.{◌≡◌, ◌≢◌, ◌<◌, ◌+◌, ◌==◌, ◌∙◌, ℕ, true, List, [], ◌∷◌, map, refl, sym, ap, arith}
use Rattle.std.specs.Prelude.{Option, Some, None, slice_get}
use Rattle.std.specs.List.{AllByRecursion, list_any}
use Rattle.std.specs.Option.{option_map_or}
use Rattle.key_intervals.specs.declared.bounds.Bounds.{Bounds}
use Rattle.topology.specs.Rules.{IsTopology, interval_count}
use Rattle.topology.specs.Shapes.{Shape, feeds_of, parts_of}
use Rattle.run_history.specs.Cases.{CaseShape, intervals_of}
use Rattle.run_history.specs.Marks.{own_work}
use Rattle.run_history.specs.Runs.{run_of}
use Rattle.run_history.specs.Watermarks.{least}
use Rattle.run_history.proofs.CaseIntervals.{length-intervals}
use Rattle.list_lemmas.proofs.Lists.{some_same}
use Rattle.list_lemmas.proofs.Places.{slice_get-some}
use Rattle.history_laws.proofs.FeedLaws.{feeds-before}
use Rattle.watermark.specs.Marks.{feeding_marks, mark_of, numbers_in}
use Rattle.watermark.proofs.Parts.{part_within}
use Rattle.book.specs.Books.{BookView}
use Rattle.book.specs.Marks.{reported as reported_to, with_mark}
use Rattle.book.proofs.MarkSteps.{mark-other}
use Rattle.world.specs.drains.Turns.{HasReported, HasStepped, IsFedBy, WhereTold}
use Rattle.world.proofs.drains.Marked.{any-each, numbers_in-each}

-- the numbers of the intervals that feed a part, as the marks of a topology are asked for
abbrev numbers_fed : Shape → Option Bounds → List ℕ
numbers_fed shape found = option_map_or (λ (b : Bounds). numbers_in (feeds_of shape b.part) 0 (intervals_of shape)) found []

-- what feeds an interval is what feeds its part
fed-part : (shape : Shape) (interval : ℕ) (bounds : Bounds) (marks : List ℕ)
    → slice_get (intervals_of shape) interval ≡ Some bounds
    → feeding_marks shape interval marks ≡ map (mark_of marks) (numbers_in (feeds_of shape bounds.part) 0 (intervals_of shape))
fed-part shape interval bounds marks at = ap (λ (o : Option Bounds). map (mark_of marks) (numbers_fed shape o)) at

-- marks of other intervals than this one are as they were once its mark is set
marks-beside : (interval mark : ℕ) (marks numbers : List ℕ) → AllByRecursion (λ n. n ≢ interval) numbers
    → map (mark_of (with_mark interval mark marks)) numbers ≡ map (mark_of marks) numbers
marks-beside interval mark marks [] beside = refl
marks-beside interval mark marks (n ∷ ns) beside =
    λ i. mark-other marks interval n mark beside.0 i ∷ marks-beside interval mark marks ns beside.1 i

-- no interval of a part is among those that feed the part
feeds-beside : (shape : Shape) (interval part : ℕ) (here : Bounds) → IsTopology shape
    → slice_get (intervals_of shape) interval ≡ Some here → here.part ≡ part
    → AllByRecursion (λ n. n ≢ interval) (numbers_in (feeds_of shape part) 0 (intervals_of shape))
feeds-beside shape interval part here rules at of =
    numbers_in-each (λ n. n ≢ interval) (feeds_of shape part) 0 (intervals_of shape) other
  where
    other : (k : ℕ) (b : Bounds) → slice_get (intervals_of shape) k ≡ Some b
        → list_any (λ p. p == b.part) (feeds_of shape part) ≡ true → 0 + k ≢ interval
    other k b there among same =
        let less = any-each (λ f. f < part) b.part (feeds_of shape part) (feeds-before shape part rules) among in
        let one : k ≡ interval = omega (arith, same) in
        let is : b.part ≡ here.part = ap (λ (c : Bounds). c.part)
        (some_same b here (sym there ∙ ap (slice_get (intervals_of shape)) one ∙ at)) in
        absurd (omega (arith, less, is, of))

-- no interval is of a part behind the last one
pub fed-none : (book : BookView) (part most : ℕ) → part ≡ parts_of book.case.topology → IsFedBy book part most
fed-none book part most behind interval bounds at of =
    let within = part_within book.case.topology interval bounds at in absurd (omega (arith, within, of, behind))

-- what feeds one interval of a part feeds each of them
pub fed-all : (book : BookView) (interval most : ℕ) (here : Bounds) → slice_get (intervals_of book.case.topology) interval ≡ Some here
    → most ≡ least (feeding_marks book.case.topology interval book.marks) → IsFedBy book here.part most
fed-all book interval most here at is other bounds there of =
    let shape = book.case.topology in
    is
    ∙ ap least (fed-part shape interval here book.marks at)
    ∙ ap (λ (p : ℕ). least (map (mark_of book.marks) (numbers_in (feeds_of shape p) 0 (intervals_of shape)))) (sym of)
    ∙ sym (ap least (fed-part shape other bounds book.marks there))

-- a report of an interval leaves what feeds its part
fed-reported : (old new : BookView) (interval part most : ℕ) (here : Bounds) → IsTopology old.case.topology
    → new.case ≡ old.case → slice_get (intervals_of old.case.topology) interval ≡ Some here → here.part ≡ part
    → HasReported old new interval → IsFedBy old part most → IsFedBy new part most
fed-reported old new interval part most here rules same at of reported fed other bounds there is =
    let shape = old.case.topology in
    let found : slice_get (intervals_of shape) other ≡ Some bounds =
    ap (λ (c : CaseShape). slice_get (intervals_of c.topology) other) (sym same) ∙ there in
    let mark = reported_mark in
    fed other bounds found is
    ∙ ap least (fed-part shape other bounds old.marks found)
    ∙ sym (ap least (marks-beside interval mark old.marks (numbers_in (feeds_of shape bounds.part) 0 (intervals_of shape))
    (feeds-beside shape interval bounds.part here rules at (of ∙ sym is))))
    ∙ sym (ap least (fed-part shape other bounds (with_mark interval mark old.marks) found))
    ∙ ap (λ (l : List ℕ). least (feeding_marks shape other l)) (sym (reported here at))
    ∙ ap (λ (c : CaseShape). least (feeding_marks c.topology other new.marks)) (sym same)
  where
    reported_mark : ℕ
    reported_mark = reported_to old.case.topology interval (own_work old.case (run_of old.case.topology old.history) here) old.marks

-- the same where told, once the next interval was reported, of what fed its part
pub fed-on : (old new : BookView) (interval part most : ℕ) → IsTopology old.case.topology → HasStepped old new None
    → interval < interval_count old.case.topology
    → ((bounds : Bounds) → slice_get (intervals_of old.case.topology) interval ≡ Some bounds → bounds.part ≡ part)
    → WhereTold old (HasReported old new interval) → WhereTold old (IsFedBy old part most) → WhereTold new (IsFedBy new part most)
fed-on old new interval part most rules stepped less of reported fed told =
    let was = sym stepped.tells ∙ told in
    let all = length-intervals old.case.topology in
    let here = slice_get-some (intervals_of old.case.topology) interval (omega (arith, less, all)) in
    fed-reported old new interval part most here.0 rules stepped.case here.1 (of here.0 here.1) (reported was) (fed was)

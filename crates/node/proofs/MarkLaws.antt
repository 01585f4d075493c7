-- The least known mark of a part, while its desk looks.
use Rattle.std.proofs.Common.{◌≡◌, ◌∙◌, ◌+◌, ◌<◌, ◌≤◌, ℕ, Bool, true, false, List, [], ◌∷◌, length, refl, sym, ap, subst, arith, inl, inr, true≢false, zero, suc}
use Rattle.std.specs.Prelude.{Some, ◌==◌, if◌then◌else◌, min, slice_get}
use Rattle.std.specs.List.{AllByRecursion}
use Rattle.std.proofs.lemmas.Bool.{cases_eq, eq-eqb, eqb-true}
use Rattle.key_intervals.specs.declared.bounds.Bounds.{Bounds}
use Rattle.topology.specs.Shapes.{Shape}
use Rattle.run_history.specs.Cases.{intervals_of}
use Rattle.run_history.specs.Watermarks.{least}
use Rattle.list_lemmas.proofs.Lists.{some_same}
use Rattle.history_laws.proofs.LowLaws.{bound-each, least-bound, least-end}
use Rattle.watermark.specs.Marks.{mark_of, marks_in, marks_of}
use Rattle.watermark.proofs.SafeMarks.{part-bound}
use Rattle.book.specs.Desks.{DeskView}
use Rattle.node.specs.Answers.{IsLeastKnown}
use Rattle.node.specs.MarkSteps.{IsLeastSoFar, IsLesser}

-- ---- a bound of the marks of a part

-- a mark that is taken or not, before others
abbrev taken : Bool → ℕ → List ℕ → List ℕ
taken true mark marks = mark ∷ marks
taken false mark marks = marks

-- the marks of a part of one interval more
marks-more : (part : ℕ) (b : Bounds) (m : ℕ) (bs : List Bounds) (ms : List ℕ) (t : Bool) → (b.part == part) ≡ t
    → marks_in (b ∷ bs) part (m ∷ ms) ≡ taken t m (marks_in bs part ms)
marks-more part b m bs ms t is = elim t as (λ t. (b.part == part) ≡ t → marks_in (b ∷ bs) part (m ∷ ms) ≡ taken t m (marks_in bs part ms)) [
  | true ↦ λ is. rw is refl
  | false ↦ λ is. rw is refl
] is

-- what is at most the mark of each interval of a part is a bound of the marks of the part
part-bounded : (x part : ℕ) (all : List Bounds) (marks : List ℕ) → length marks ≡ length all
    → ((k : ℕ) (b : Bounds) → slice_get all k ≡ Some b → b.part ≡ part → x ≤ mark_of marks k)
    → AllByRecursion (λ m. x ≤ m) (marks_in all part marks)
part-bounded x part [] marks long each = tt
part-bounded x part (c ∷ cs) [] long each = absurd (omega (arith, long))
part-bounded x part (c ∷ cs) (m ∷ ms) long each = subst (AllByRecursion (λ n. x ≤ n)) (sym (marks-more part c m cs ms (c.part == part) refl))
    (by_test (c.part == part) refl (part-bounded x part cs ms (omega (arith, long)) (λ k b at of. each (suc k) b at of)))
  where
    by_test : (t : Bool) → (c.part == part) ≡ t → AllByRecursion (λ n. x ≤ n) (marks_in cs part ms)
        → AllByRecursion (λ n. x ≤ n) (taken t m (marks_in cs part ms))
    by_test true is rest = (each 0 c refl (eqb-true c.part part is), rest)
    by_test false is rest = rest

-- after the last interval
pub least-all : (shape : Shape) (part : ℕ) (old new : DeskView) (mark : ℕ) → length old.marks ≡ length (intervals_of shape)
    → length new.marks ≡ length (intervals_of shape)
    → IsLeastSoFar (intervals_of shape) part old.marks new.marks mark (length (intervals_of shape)) → IsLeastKnown shape part old new mark
least-all shape part old new mark long longer so_far = record {
  at_least = so_far.at_least (least (marks_of shape part old.marks)) (least-end (marks_of shape part old.marks))
      (λ j b at of. part-bound (least (marks_of shape part old.marks)) part (intervals_of shape) old.marks j b long
      (bound-each (least (marks_of shape part old.marks)) (marks_of shape part old.marks) (omega arith)) at of);
  at_most = least-bound mark (marks_of shape part new.marks) so_far.end (part-bounded mark part (intervals_of shape) new.marks longer
      (λ k b at of. so_far.at_most k b (below (intervals_of shape) k b at) at of));
}
  where
    below : (all : List Bounds) (k : ℕ) (b : Bounds) → slice_get all k ≡ Some b → k < length all
    below [] k b at = absurd cc
    below (c ∷ cs) zero b at = omega arith
    below (c ∷ cs) (suc k) b at = let less = below cs k b at in omega (arith, less)

-- the least known mark, as the desk comes to know more
pub known-later : (shape : Shape) (part : ℕ) (old mid new : DeskView) (mark : ℕ) → length mid.marks ≡ length (intervals_of shape)
    → length new.marks ≡ length (intervals_of shape) → ((i : ℕ) → mark_of mid.marks i ≤ mark_of new.marks i)
    → IsLeastKnown shape part old mid mark → IsLeastKnown shape part old new mark
known-later shape part old mid new mark long longer rise is =
    let most = is.at_most in
    let end = least-end (marks_of shape part mid.marks) in record {
      at_least = is.at_least;
      at_most = least-bound mark (marks_of shape part new.marks) (omega (arith, most, end))
          (part-bounded mark part (intervals_of shape) new.marks longer (λ k b at of.
          let was = part-bound mark part (intervals_of shape) mid.marks k b long
          (bound-each mark (marks_of shape part mid.marks) is.at_most) at of in
          let more = rise k in omega (arith, was, more)));
    }

-- the least mark so far, with one interval more, while the marks rise
pub least-step : (intervals : List Bounds) (part : ℕ) (was old new : List ℕ) (b : Bounds) (i before after : ℕ)
    → slice_get intervals i ≡ Some b → ((j : ℕ) → mark_of was j ≤ mark_of old j) → ((j : ℕ) → mark_of old j ≤ mark_of new j)
    → IsLeastSoFar intervals part was old before i → IsLesser (b.part == part) i old new before after
    → IsLeastSoFar intervals part was new after (i + 1)
least-step intervals part was old new b i before after at risen rise so_far lesser = by_test (b.part == part) refl lesser.lesser
  where
    by_test : (t : Bool) → (b.part == part) ≡ t → after ≡ (if t then min before lesser.mark else before)
        → IsLeastSoFar intervals part was new after (i + 1)
    by_test true counts is = let same : after ≡ min before lesser.mark = is in record {
      at_most = λ j c early there of. elim (cases_eq j i) [
        | inl here ↦ subst (λ k. after ≤ mark_of new k) (sym here) (let most = lesser.at_most in omega (arith, same, most))
        | inr other ↦ let most = so_far.at_most j c (omega (arith, early, other)) there of in let up = rise j in omega (arith, same, most, up)
      ];
      at_least = λ bound end each.
          let first = so_far.at_least bound end each in
          let here = each i b at (eqb-true b.part part counts) in
          let up = risen i in
          let low = lesser.at_least in omega (arith, same, first, here, up, low);
      end = let end = so_far.end in omega (arith, same, end);
    }
    by_test false counts is = let same : after ≡ before = is in record {
      at_most = λ j c early there of. elim (cases_eq j i) [
        | inl here ↦ absurd (true≢false (sym (eq-eqb b.part part (ap (λ (d : Bounds). d.part)
            (some_same b c (sym at ∙ ap (slice_get intervals) (sym here) ∙ there)) ∙ of)) ∙ counts))
        | inr other ↦ let most = so_far.at_most j c (omega (arith, early, other)) there of in let up = rise j in omega (arith, same, most, up)
      ];
      at_least = λ bound end each. let first = so_far.at_least bound end each in omega (arith, same, first);
      end = let end = so_far.end in omega (arith, same, end);
    }

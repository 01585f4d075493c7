use Rattle.std.proofs.Common.{rules, ◌≡◌, Any, List, true, refl, subst, sym}
use Rattle.std.specs.Prelude.{Contains}
use Rattle.std.specs.List.Sorted.{IsStrictlySortedBy}
use Rattle.std.specs.Ordering.{is_eq}
use Rattle.std.proofs.lemmas.Cmp.{eq_by_cmp_equiv}
use Rattle.std.proofs.lemmas.Fn.{dedup_same}
use Rattle.std.proofs.lemmas.List.Kept.{Any-dedup, Contains-from_dedup, IsStrictlySortedBy-dedup}
use Rattle.holdings.specs.declared.pending.Sent.{Sent}
use Rattle.node.specs.Answers.{again_cmp}
use Rattle.node.proofs.SweepLaws.{again_cmp-total}
use Rattle.node.proofs.sweeping.keep_once.Goals as goal

-- they are in the order, and no two have one place in it
pub returns-clause-sorted : goal.returns-clause-sorted
returns-clause-sorted c =
    let old = c.args.again.now.items in
    let kept = dedup_same _ (λ (x y : Sent). is_eq (again_cmp x y)) _ (λ x y b f' x' y' k. search rules) _ _ c.dedup_by.ensures.filtered in
    subst (IsStrictlySortedBy again_cmp) (sym kept) (IsStrictlySortedBy-dedup again_cmp-total (λ x y. refl) old c.requires.sorted)

-- each place in the order is there
pub returns-clause-once : goal.returns-clause-once
returns-clause-once c =
    let old = c.args.again.now.items in
    let tied = λ (x y : Sent). is_eq (again_cmp x y) in
    let kept = dedup_same _ tied _ (λ x y b f' x' y' k. search rules) _ _ c.dedup_by.ensures.filtered in record {
      each = λ s has. Contains-from_dedup tied old s (subst (λ (l : List Sent). Contains l s) kept has);
      every = λ s has. subst (Any (λ (o : Sent). tied s o ≡ true)) (sym kept) (Any-dedup (eq_by_cmp_equiv again_cmp-total) old s has);
    }

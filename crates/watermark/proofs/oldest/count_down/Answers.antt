use Rattle.std.proofs.Common.{◌≡◌, ◌≤◌, ◌-◌, ◌∷◌, ℕ, suc, subst, sym, arith, rules}
use Rattle.std.specs.List.Sorted.{IsPermutation}
use Rattle.std.specs.List.{AllByRecursion}
use Rattle.watermark.specs.Counted.{stamps_in, times_counted}
use Rattle.watermark.proofs.Bags.{lowered, removed, counted, some-set_value, some-remove_entry}
use Rattle.watermark.proofs.oldest.count_down.Goals as goal

pub returns-then-count_of-gt1-clause-removed : goal.returns-then-count_of-gt1-clause-removed
returns-then-count_of-gt1-clause-removed c =
    let old = c.args.counts.now.entries in
    let some : times_counted c.args.stamp old ≡ suc (times_counted c.args.stamp old - 1) = search (rules, arith) in
    subst (λ es. IsPermutation (stamps_in old) (c.args.stamp ∷ stamps_in es)) (sym c.lower.ensures.lowered)
    (lowered c.args.stamp (times_counted c.args.stamp old - 1) old some)

pub returns-then-count_of-gt1-clause-counts : goal.returns-then-count_of-gt1-clause-counts
returns-then-count_of-gt1-clause-counts c =
    let old = c.args.counts.now.entries in
    let some : 1 ≤ times_counted c.args.stamp old - 1 = search (rules, arith) in record {
      ordered = c.lower.ensures.ordered;
      some = subst (AllByRecursion (λ (e : ℕ × ℕ). 1 ≤ e.1)) (sym c.lower.ensures.lowered)
          (some-set_value c.args.stamp (times_counted c.args.stamp old - 1) old some c.requires.counts.some);
    }

pub returns-else-count_of-gt1-clause-removed : goal.returns-else-count_of-gt1-clause-removed
returns-else-count_of-gt1-clause-removed c =
    let old = c.args.counts.now.entries in
    let some : 1 ≤ times_counted c.args.stamp old = counted c.args.stamp old c.requires.counts.some c.requires.held in
    let one : times_counted c.args.stamp old ≡ 1 = search (rules, arith) in
    subst (λ es. IsPermutation (stamps_in old) (c.args.stamp ∷ stamps_in es)) (sym c.remove.ensures.entries)
    (removed c.args.stamp old one)

pub returns-else-count_of-gt1-clause-counts : goal.returns-else-count_of-gt1-clause-counts
returns-else-count_of-gt1-clause-counts c = record {
  ordered = c.remove.ensures.ordered;
  some = subst (AllByRecursion (λ (e : ℕ × ℕ). 1 ≤ e.1)) (sym c.remove.ensures.entries)
      (some-remove_entry c.args.stamp c.args.counts.now.entries c.requires.counts.some);
}

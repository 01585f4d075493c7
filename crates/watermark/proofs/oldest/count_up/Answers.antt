use Rattle.std.proofs.Common.{◌≡◌, ◌≤◌, ◌∷◌, ℕ, suc, subst, sym, arith, rules}
use Rattle.std.specs.List.Sorted.{IsPermutation}
use Rattle.std.specs.List.{AllByRecursion}
use Rattle.watermark.specs.Counted.{stamps_in, times_counted}
use Rattle.watermark.proofs.Bags.{added, some-insert_entry}
use Rattle.watermark.proofs.oldest.count_up.Goals as goal

pub returns-clause-added : goal.returns-clause-added
returns-clause-added c =
    let raised : c.in-Some.count ≡ suc (times_counted c.args.stamp c.args.counts.now.entries) = search (rules, arith) in
    subst (λ es. IsPermutation (c.args.stamp ∷ stamps_in c.args.counts.now.entries) (stamps_in es)) (sym c.in_ok-insert.ensures.entries)
    (added c.args.stamp c.in-Some.count c.args.counts.now.entries c.requires.ordered raised)

pub returns-clause-counts : goal.returns-clause-counts
returns-clause-counts c =
    let some : 1 ≤ c.in-Some.count = search (rules, arith) in record {
      ordered = c.insert.ensures.ordered;
      some = subst (AllByRecursion (λ (e : ℕ × ℕ). 1 ≤ e.1)) (sym c.in_ok-insert.ensures.entries)
          (some-insert_entry c.args.stamp c.in-Some.count c.args.counts.now.entries some c.requires.some);
    }

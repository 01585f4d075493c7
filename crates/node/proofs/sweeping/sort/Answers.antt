use Rattle.std.proofs.Common.{rules, ◌≡◌}
use Rattle.std.specs.Ordering.{is_lt}
use Rattle.std.proofs.lemmas.Fn.{always_returns_same}
use Rattle.std.proofs.lemmas.List.Sorted.{ranks_by}
use Rattle.holdings.specs.declared.pending.Sent.{Sent}
use Rattle.node.specs.Answers.{again_cmp}
use Rattle.node.proofs.SweepLaws.{again_cmp-total}
use Rattle.node.proofs.sweeping.sort.Goals as goal

-- they are in the order
pub returns-clause-sorted : goal.returns-clause-sorted
returns-clause-sorted c = c.in_ok-sort_by.ensures.sorted (λ (x y : Sent). is_lt (again_cmp x y)) (ranks_by again_cmp-total (λ (s : Sent). s))
    (always_returns_same _ (λ a r. is_lt r ≡ is_lt (again_cmp a.0.now a.1.0.now)) _ (λ a r q k. search rules))

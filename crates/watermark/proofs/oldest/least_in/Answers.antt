use Rattle.std.proofs.Common.{◌∙◌, ◌≤◌, subst}
use Rattle.mw_types.specs.declared.TheConstants.{END}
use Rattle.watermark.proofs.Bags.{least-first}
use Rattle.watermark.proofs.oldest.least_in.Goals as goal

pub returns-in-Some : goal.returns-in-Some
returns-in-Some c =
    c.stamp_at.ensures.same
    ∙ least-first c.args.counts.now.entries _ c.requires c.in-Some.ensures.first
    (subst (λ n. n ≤ END) c.stamp_at.ensures.same c.stamp_at.ensures.end)

use Rattle.std.proofs.Common.{ℕ, List, ap}
use Rattle.mw_types.specs.declared.key.PartCuts.{PartCuts}
use Rattle.topology.proofs.ByPart.{by_part_push}
use Rattle.topology.proofs.topology.part_cuts_in.Goals as goal

pub loop-part-preserved : goal.loop-part-preserved
loop-part-preserved c =
    let cut_at : List (List ℕ) → PartCuts = λ cuts. record { part = c.loop-part.part; cuts = cuts } in
    by_part_push _ c.loop-part.part _ _ _ c.loop-part.invariant (ap cut_at c.in_ok-cuts.ensures) c.in_ok-push.ensures.appended

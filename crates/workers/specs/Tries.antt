-- What a claim that is tried again answers. No public clause cites this module.
use Rattle.std.specs.Prelude.{⊤}
use Rattle.node.specs.declared.outcome.Outcome.{Outcome}
use Rattle.node.specs.declared.outcome.Outcome.TheVariants as outcomes

-- an interval was claimed
abbrev pub IsClaimed : Outcome → Type 0
IsClaimed (outcomes.Claimed seq) = ⊤
IsClaimed _ = ⊥

use Rattle.std.proofs.lemmas.Bool.{le-ltb}
use Rattle.topology.specs.Shapes.{injectors_of}
use Rattle.world.proofs.drains.RoundLaws.{round-low}
use Rattle.world.proofs.drains.report_rounds.a_round_finds_low_watermarks.Goals as goal

pub returns : goal.returns
returns c = record {
  low = λ case history marks part runs legal none long safe computation there.
      round-low case history marks part runs legal none long safe (le-ltb part (injectors_of case.topology) computation) there;
}

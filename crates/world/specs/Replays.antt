-- Which histories a script may end with, and the drain after it. Own.
use Rattle.std.specs.Prelude.{◌⊎◌, List, length}
use Rattle.mw_types.specs.declared.entry.Entry.{Entry}
use Rattle.topology.specs.Folding.{RoutesView}
use Rattle.run_history.specs.Cases.{CaseShape}
use Rattle.run_history.specs.Fences.{Begins}
use Rattle.world.specs.scripts.Acts.{scripted_history}
use Rattle.plans.specs.declared.step.Step.{Step}
use Rattle.world.specs.drains.Drains.{IsDrained, IsDraining}

-- a history goes on from another as a drain does
pub record GoesOn (case : CaseShape) (front history : List Entry) : Type 0 where
  pub begins : Begins front history
  pub draining : IsDraining case (length front) history

-- a history is a beginning of what a script writes, or goes on from that as a drain does
abbrev pub IsReplayed : RoutesView → CaseShape → List Step → List Entry → Type 0
IsReplayed routes case script history = Begins history (scripted_history routes case script)
    ⊎ GoesOn case (scripted_history routes case script) history

-- a history is what a script writes, and the whole drain after it
pub record IsWholeReplay (routes : RoutesView) (case : CaseShape) (script : List Step)
    (history : List Entry) : Type 0 where
  pub begins : Begins (scripted_history routes case script) history
  pub drained : IsDrained case (length (scripted_history routes case script)) history

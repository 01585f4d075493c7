-- What a run may be of. Own.
use Rattle.std.specs.Prelude.{All}
use Rattle.injector.specs.Sources.{IsSource}
use Rattle.topology.specs.Rules.{IsTopology}
use Rattle.run_history.specs.Cases.{CaseShape}

-- the topology keeps its rules, and each source keeps those of a source
pub record IsRunnable (case : CaseShape) : Type 0 where
  pub topology : IsTopology case.topology
  pub sources : All IsSource case.sources

-- Which keys stand in a run. Own.
use Rattle.std.specs.Prelude.{All, IsSome}
use Rattle.mw_types.specs.declared.delivery.Delivery.{Delivery}
use Rattle.mw_types.specs.declared.identity.RowName.{RowName}
use Rattle.injector.specs.Sources.{Source, SourceLine}
use Rattle.mw_types.specs.Bounds.{IsKey}
use Rattle.run_history.specs.Cases.{CaseShape}
use Rattle.run_history.specs.Runs.{Run, row_in}

-- each line that an injector injects has a key of at most 256 bytes of UTF-8
abbrev pub AreKeyed : CaseShape → Type 0
AreKeyed case = All (λ (source : Source). All (λ (l : SourceLine). IsKey l.item.record_key) source) case.sources

-- such are the keys of all deliveries that were made, of the rows to which they go, and of the rows that are there
pub record HasKeys (run : Run) : Type 0 where
  pub records : All (λ (d : Delivery). IsKey d.item.key) run.made
  pub readers : All (λ (d : Delivery). IsKey d.to.key) run.made
  pub rows : (name : RowName) → IsSome (row_in run name) → IsKey name.key

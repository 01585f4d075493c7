-- Which values stand in a run. Own.
use Rattle.std.specs.Prelude.{All, FitsSigned}
use Rattle.std.specs.Int.{w64}
use Rattle.injector.specs.Sources.{Source, SourceLine}
use Rattle.mw_types.specs.Bounds.{IsKey}
use Rattle.run_history.specs.Cases.{CaseShape}

-- each line that an injector injects has a value of 64 bits
abbrev pub AreValued : CaseShape → Type 0
AreValued case =
    All (λ (source : Source). All (λ (l : SourceLine). FitsSigned w64 l.item.value) source) case.sources

-- a line has a key of at most 256 bytes of UTF-8, and a value of 64 bits. No public clause cites this.
pub record HasKeyAndValue (l : SourceLine) : Type 0 where
  pub key : IsKey l.item.record_key
  pub value : FitsSigned w64 l.item.value

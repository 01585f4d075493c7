use Rattle.std.proofs.Common.{◌≡◌, [], All, length}
use Rattle.mw_types.specs.declared.key.PartCuts.{PartCuts}
use Rattle.key_intervals.specs.Intervals.{AreNumbered}
use Rattle.engine_tests.proofs.tests.foundations.intervals.whole_parts.Given as goal

-- the parts so far are numbered from 0 and have no cuts
abbrev pub invariant-loop-part : goal.invariant-loop-part
invariant-loop-part l = record {
  count : length l.parts ≡ l.part;
  numbered : AreNumbered 0 l.parts;
  whole : All (λ (p : PartCuts). p.cuts ≡ []) l.parts;
}

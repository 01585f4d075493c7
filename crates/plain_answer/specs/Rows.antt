-- Cases that were worked by hand: a late record, and windows of which one is, or is not, far above those
-- before it. Own.
use Rattle.std.specs.Prelude.{ℕ, pos, true, false, List, [], ◌∷◌, map, codes}
use Rattle.mw_types.specs.declared.kind.Kind.TheVariants.{Spike}
use Rattle.injector.specs.Sources.{SourceLine}
use Rattle.topology.specs.declared.subscription.By.TheVariants.{Key}
use Rattle.topology.specs.Shapes.{Shape, ComputationShape}
use Rattle.topology.specs.Samples.{clicks_shape, per_minute_shape, one_count}
use Rattle.run_history.specs.Cases.{CaseShape}
use Rattle.worked_examples.specs.First.{key_a, line_at}

-- a line of a record at 50, which is late, since a watermark of 100 is stated before it
abbrev pub late_line : SourceLine
late_line =
    record { item = record { record_key = key_a; stamp = 50; value = pos 1; late = true }; stated = 100 }

-- windows of 60 over one late record
abbrev pub late_case : CaseShape
late_case = record { topology = one_count 60; sources = (late_line ∷ []) ∷ [] }

-- a spike that reads the windows: a total is produced where it is above three times the mean of the two
-- before it
abbrev pub far_above : ComputationShape
far_above = record {
  name = codes "spikes";
  kind = Spike 2 3;
  reads = record { stream = codes "windows"; by = Key } ∷ [];
  stream = codes "alerts";
  cuts = [];
  weak = false;
}

-- windows of 60, and that spike behind them
abbrev pub windows_and_spike : Shape
windows_and_spike =
    record { injectors = clicks_shape ∷ []; computations = per_minute_shape 60 ∷ far_above ∷ [] }

-- records at these times, one window of 1, one of 1, and one of so many as follow
abbrev pub spike_case : List ℕ → CaseShape
spike_case times = record { topology = windows_and_spike; sources = map line_at (0 ∷ 60 ∷ 120 ∷ times) ∷ [] }

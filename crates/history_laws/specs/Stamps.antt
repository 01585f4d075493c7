-- Which timestamps stand after a history. Own.
use Rattle.std.specs.Prelude.{◌≤◌, All}
use Rattle.mw_types.specs.declared.TheConstants.{MAX_STAMP}
use Rattle.mw_types.specs.declared.identity.RowName.{RowName}
use Rattle.mw_types.specs.declared.timer.Timer.{Timer}
use Rattle.mw_types.specs.declared.delivery.Delivery.{Delivery}
use Rattle.topology.specs.Shapes.{Shape}
use Rattle.run_history.specs.Runs.{Run, row_of}

-- no delivery that was made has a timestamp above the greatest, and no timer that is set is due after it
pub record AreStampsWithin (shape : Shape) (run : Run) : Type 0 where
  pub made : All (λ (d : Delivery). d.item.stamp ≤ MAX_STAMP) run.made
  pub timers : (name : RowName) →
      All (λ (t : Timer). t.time ≤ MAX_STAMP) (row_of shape run name).timers

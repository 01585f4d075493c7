use Rattle.std.proofs.Common.{◌≤◌}
use Rattle.std.proofs.lemmas.List.Elements.{All-from_recursion}
use Rattle.mw_types.specs.declared.TheConstants.{MAX_STAMP}
use Rattle.mw_types.specs.declared.timer.Timer.{Timer}
use Rattle.mw_types.specs.declared.delivery.Delivery.{Delivery}
use Rattle.run_history.specs.Runs.{run_of, row_of}
use Rattle.history_laws.proofs.StampLaws.{legal-in_time, row_of-in_time}
use Rattle.history_laws.proofs.stamps.stamps_are_in_time.Goals as goal

pub returns : goal.returns
returns c = record {
  in_time = λ case history runs legal.
      let in_time = legal-in_time case history runs legal in
      let run = run_of case.topology history in record {
        made = All-from_recursion (λ (d : Delivery). d.item.stamp ≤ MAX_STAMP) run.made in_time.made;
        timers = λ name. All-from_recursion (λ (t : Timer). t.time ≤ MAX_STAMP) (row_of case.topology run name).timers
            (row_of-in_time case.topology run name in_time);
      };
}
